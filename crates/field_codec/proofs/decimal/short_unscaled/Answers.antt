use Rattle.std.proofs.Common.{arith}
use Rattle.std.specs.Char.{is_ascii_digit}
use Rattle.std.proofs.lemmas.List.Sums.{prefix_len-le-length}
use Rattle.field_codec.proofs.decimal.short_unscaled.Goals as goal

pub with_fraction-requires-clause-few : goal.with_fraction-requires-clause-few
with_fraction-requires-clause-few c = omega (arith, c.requires, c.short_front-whole.ensures.count, prefix_len-le-length is_ascii_digit c.args.text.now)
