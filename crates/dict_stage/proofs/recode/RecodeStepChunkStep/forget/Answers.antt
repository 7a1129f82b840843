use Rattle.std.proofs.Common.{[], Some}
use Rattle.dict_stage.proofs.Streams.{ahead-are}
use Rattle.dict_stage.proofs.recode.RecodeStepChunkStep.forget.Goals as goal

pub returns-clause-refused : goal.returns-clause-refused
returns-clause-refused c = λ fault.
    let none = ahead-are c.args.self.now.dict c.args.self.now.column (Some fault) [] in
    (none, none)
