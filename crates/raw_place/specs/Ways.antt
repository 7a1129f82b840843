-- Where the values of a vector are, and the pointers that lead to them.
use base.Fml.{Fml, feq}
use denote.RattleType.{RattleType}
use denote.RawPtr.{Ptr}
use Prim.Native.Nat.{ℕ, zero, suc}
use Rattle.std.specs.Prelude.{List, [], ◌∷◌, ◌++◌}
use Rattle.std.specs.Ptr.{ptr_add}

-- `at` leads to the value of that number, of values of R side by side of which the first is at `first`
abbrev pub leads : RattleType → Ptr → ℕ → Ptr → Fml
leads R first number at = feq Ptr at (ptr_add R number first)

-- the ways to n values, in their order: where the values begin, and the number of each
abbrev pub ways : Ptr → ℕ → List (Ptr × ℕ)
ways first zero = []
ways first (suc n) = ways first n ++ (first, n) ∷ []
