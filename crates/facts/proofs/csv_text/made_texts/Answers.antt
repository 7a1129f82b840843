use Rattle.std.proofs.Common.{refl}
use Rattle.std.specs.Fmt.{digits}
use Rattle.facts.proofs.csv_text.made_texts.Goals as goal

pub returns : goal.returns
unfolding digits
returns c = record { none = refl; one = refl; two = refl; tenth = refl }
