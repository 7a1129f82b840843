use Rattle.std.proofs.Common.{arith}
use Rattle.std.proofs.lemmas.Fmt.{length-decimal-le}
use Rattle.csv_model.proofs.MadeLengths.{made_length}
use Rattle.csv_model.proofs.made_text.made_is_short.Goals as goal

pub returns : goal.returns
returns c =
    λ n few. omega (arith, few, made_length 7 n (λ i order. length-decimal-le 7 i (omega arith) (omega (arith, order, few)) (omega (arith, order, few))))
