-- A share, its source after it, and a window cost what the source did.
use Rattle.std.proofs.Common.{◌≡◌}
use Rattle.raw_array.specs.promise.Members.{ArrayTree, Cost}
use Rattle.raw_array.specs.Members.{Lowered, OneLower}
use Rattle.raw_array.proofs.Amounts.{Cost-like, Like-lowered, Like-one_lower}
use Rattle.raw_array.proofs.Shares.{Cost-shared}

pub Cost-lowered : (t : ArrayTree) → Cost (Lowered t) ≡ Cost t
Cost-lowered t = Cost-like t (Lowered t) (Like-lowered t)

pub Cost-one_lower : (t u : ArrayTree) → OneLower t u → Cost u ≡ Cost t
Cost-one_lower t u a = Cost-like t u (Like-one_lower t u a)

pub ruleset costs = (Cost-shared, Cost-lowered, Cost-one_lower, Like-lowered, Like-one_lower)
