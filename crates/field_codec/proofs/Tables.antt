-- Tables of a function's values, by a test that computes.
use Rattle.std.proofs.Common.{◌≡◌, ℕ, zero, suc, ◌+◌, ◌<◌, Bool, true, List, [], ◌∷◌, length, get_or, ap, ◌∙◌, arith}
use Rattle.std.specs.Prelude.{◌==◌, ◌&&◌}
use Rattle.std.proofs.lemmas.Bool.{and_parts, eqb-true}

unfoldable pub is_table : (ℕ → ℕ) → ℕ → List ℕ → Bool
is_table f from [] = true
is_table f from (x ∷ xs) = (x == f from) && is_table f (suc from) xs

entry_after : (f : ℕ → ℕ) (from : ℕ) (table : List ℕ) (i : ℕ) → is_table f from table ≡ true → i < length table → get_or table i 0 ≡ f (from + i)
unfolding is_table
entry_after f from [] i is within = absurd (omega (arith, within))
entry_after f from (x ∷ xs) zero is within =
    let none : from + 0 ≡ from = omega arith in
    rw none (eqb-true x (f from) (and_parts (x == f from) (is_table f (suc from) xs) is).0)
entry_after f from (x ∷ xs) (suc i) is within =
    let next : suc from + i ≡ from + suc i = omega arith in
    entry_after f (suc from) xs i (and_parts (x == f from) (is_table f (suc from) xs) is).1 (omega (arith, within)) ∙ ap f next

pub entry_at : (f : ℕ → ℕ) (table : List ℕ) (i : ℕ) → is_table f 0 table ≡ true → i < length table → get_or table i 0 ≡ f i
entry_at f table i is within = let none : 0 + i ≡ i = omega arith in entry_after f 0 table i is within ∙ ap f none
