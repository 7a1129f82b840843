use Rattle.std.proofs.Common.{◌≤◌, arith}
use Rattle.std.proofs.Math.Nat.{mul-le-mul_left}
use Rattle.list_cols.proofs.totals.product.Goals as goal

pub overflow_mul-result : goal.overflow_mul-result
overflow_mul-result c =
    let many : c.from-2.result ≤ 18446744073709551615 = omega (arith, c.from-2.ensures, c.ranges.bytes.fits) in
    let few : c.from.result ≤ 18446744073709551615 = omega (arith, c.from.ensures, c.ranges.times.fits) in
    omega (arith, few, mul-le-mul_left c.from.result many)
