use Rattle.std.proofs.Common.{arith}
use Rattle.col_build.proofs.ValidityFacts.{nulls-few}
use Rattle.col_build.proofs.add_tests.expect_alike.Goals as goal

pub overflow_cast-counts-2 : goal.overflow_cast-counts-2
overflow_cast-counts-2 g c =
    let both = c.take_round.ensures in
    let whole = c.settle.ensures c.args.kind both.0 both.1 in
    record { sfits = omega (arith, whole.nulls, nulls-few both.0, both.1.fits.few) }
