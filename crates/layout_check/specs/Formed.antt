-- A fact that a checked node keeps has one proof at most.
use Rattle.std.specs.Coded.{Unit-prop}
use Rattle.tree_model.specs.promise.TreeData.{Released, Live}
use Rattle.tree_model.specs.promise.TreeParts.{IsLive}
use Rattle.raw_array.specs.promise.Members.{ArrayTree}

pub IsLive-prop : (array : ArrayTree) → IsProp (IsLive array)
IsLive-prop Released = λ a b. absurd a
IsLive-prop (Live own children dictionary) = Unit-prop
