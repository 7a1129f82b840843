use Rattle.std.proofs.Common.{refl}
use Rattle.std.specs.Str.{chars, is_utf8}
use lib.Utf8.{encode}
use Rattle.facts.proofs.inside.picked_columns.Goals as goal

pub returns-clause-picked : goal.returns-clause-picked
unfolding is_utf8 chars encode
returns-clause-picked c = (refl, refl)

pub returns-clause-packed : goal.returns-clause-packed
unfolding is_utf8 chars encode
returns-clause-packed c = (refl, refl)

pub returns-clause-unpacked : goal.returns-clause-unpacked
unfolding is_utf8 chars encode
returns-clause-unpacked c = (refl, refl)

pub returns-clause-replaced : goal.returns-clause-replaced
unfolding is_utf8 chars encode
returns-clause-replaced c = (refl, refl)

pub returns-clause-null_struct : goal.returns-clause-null_struct
unfolding is_utf8 chars encode
returns-clause-null_struct c = (refl, refl)

pub returns-clause-null_row : goal.returns-clause-null_row
returns-clause-null_row c = refl
