use Rattle.std.proofs.Common.{refl}
use Rattle.std.proofs.Common.{[], ◌∷◌}
use Rattle.std.specs.Fmt.{digits}
use Rattle.facts.specs.Streams.{row}
use Rattle.facts.proofs.streams.shown_chunks.Goals as goal

pub returns : goal.returns
unfolding digits
returns c = record {
  names = refl;
  kinds = refl;
  rows = refl;
  tables = refl;
  no_tables = refl;
  source = refl;
  stage = refl;
  no_link = refl;
  made = ([], refl);
  begun = ((row 1 ∷ []) ∷ (row 2 ∷ []) ∷ [], refl);
}
