use Rattle.std.proofs.Common.{refl}
use Rattle.std.specs.Str.{chars, is_utf8}
use lib.Utf8.{encode}
use Rattle.facts.proofs.values.encodings.Goals as goal

pub returns-clause-no_text : goal.returns-clause-no_text
unfolding is_utf8 chars encode
returns-clause-no_text c = refl
