-- Which value each pointer leads to.
use denote.RawPtr.{Ptr}
use Prim.Native.Nat.{ℕ}
use Rattle.std.specs.Prelude.{◌≡◌, List, map}
use Rattle.std.specs.declared.vec.Vec.{Vec}
use Rattle.raw_place.specs.Ways.{ways}
use Rattle.raw_place.specs.declared.row.Pointer.{Pointer}

-- where the pointer's values begin, and the number of the one that it leads to
abbrev pub way : {X : Type 0} → Pointer X → Ptr × ℕ
way p = (p.first, p.number)

-- there is a pointer for each value, in the values' order, and each leads to its value
abbrev pub Led : {X Z : Type 0} → Vec X Z → List (Pointer X) → Type 0
Led values pointers = map way pointers ≡ ways values.ptr values.len
