use Rattle.std.proofs.Common.{[], None, refl}
use Rattle.dict_stage.proofs.Streams.{ahead-are}
use Rattle.dict_stage.proofs.recode.RecodeStepChunkStep.finish.Goals as goal

pub returns-clause-finished : goal.returns-clause-finished
returns-clause-finished c = λ _ _ _ _.
    let none = ahead-are c.args.self.now.dict c.args.self.now.column None [] in
    record { before_end = none; behind_end = none; rests = refl; blocks = refl; nodes = refl }
