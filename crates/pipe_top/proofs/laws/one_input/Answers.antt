use Rattle.std.proofs.Common.{◌≡◌, IfSome, subst}
use Rattle.pipe_top.proofs.laws.one_input.Goals as goal

pub returns : goal.returns
returns c = record { alone = λ words left bytes told are is. subst (λ input. IfSome input (λ l. l ≡ bytes)) is are }
