use Rattle.std.proofs.Common.{refl}
use Rattle.std.specs.Fmt.{digits}
use Rattle.std.specs.Str.{chars, is_utf8}
use lib.Utf8.{encode}
use Rattle.facts.proofs.values.fields.Goals as goal

pub returns-clause-least_long_written : goal.returns-clause-least_long_written
unfolding digits
returns-clause-least_long_written c = refl

pub returns-clause-decimal_written : goal.returns-clause-decimal_written
unfolding digits
returns-clause-decimal_written c = refl

pub returns-clause-decimal_written_below_0 : goal.returns-clause-decimal_written_below_0
unfolding digits
returns-clause-decimal_written_below_0 c = refl

pub returns-clause-text : goal.returns-clause-text
unfolding is_utf8 chars encode
returns-clause-text c = refl

pub returns-clause-not_text : goal.returns-clause-not_text
unfolding is_utf8 chars encode
returns-clause-not_text c = refl

pub returns-clause-empty_unmarked : goal.returns-clause-empty_unmarked
unfolding is_utf8 chars encode
returns-clause-empty_unmarked c = refl

pub returns-clause-longer_than_the_mark : goal.returns-clause-longer_than_the_mark
unfolding is_utf8 chars encode
returns-clause-longer_than_the_mark c = refl

pub returns-clause-spelled_like_the_mark : goal.returns-clause-spelled_like_the_mark
unfolding digits
returns-clause-spelled_like_the_mark c = refl
