-- The places of columns by their names.
use Rattle.std.proofs.Common.{◌≡◌, ◌∙◌, ◌<◌, ◌≤◌, ◌+◌, ℕ, suc, Bool, true, false, not, List, ◌∷◌, length, drop, get_or, refl, sym, ap, arith}
use Rattle.std.proofs.lemmas.Bool.Decides.{nat_tests}
use Rattle.std.proofs.lemmas.List.{drop_all}
use Rattle.std.specs.List.{position_or_len}
use Rattle.std.specs.Prelude.{Option, Some, None, cond, if◌then◌else◌, nat_lt, option_map, position}
use Rattle.std.specs.Str.{bytes_eq}
use Rattle.data_types.specs.declared.kind.ColumnType.{ColumnType}
use Rattle.stage_plan.proofs.Twice.{rest-cons}

-- the place of the first column of a name behind this many
abbrev pub place_behind : List ColumnType → ℕ → List ℕ → Option ℕ
place_behind columns i name = option_map (λ n. i + n) (position (λ c. bytes_eq c.name name) (drop i columns))

next-lt : (a n : ℕ) (b : Bool) → nat_lt a n ≡ b → nat_lt (1 + a) (suc n) ≡ b
next-lt a n true is = grind (arith, nat_tests, is)
next-lt a n false is = grind (arith, nat_tests, is)

later : (a : ℕ) (b : Bool) → cond b (Some (1 + a)) None ≡ option_map (λ n. 1 + n) (cond b (Some a) None)
later a true = refl
later a false = refl

-- the first place behind an item that isn't the one
next : (a n : ℕ) (b : Bool) → nat_lt a n ≡ b → cond (nat_lt (1 + a) (suc n)) (Some (1 + a)) None ≡ option_map (λ n. 1 + n) (cond (nat_lt a n) (Some a) None)
next a n b is =
    ap (λ c. cond c (Some (1 + a)) None) (next-lt a n b is) ∙ later a b
    ∙ ap (λ c. option_map (λ n. 1 + n) (cond c (Some a) None)) (sym is)

first : {X : Type 0} (p : X → Bool) (x : X) (xs : List X) (b : Bool) → p x ≡ b
    → position p (x ∷ xs) ≡ (if b then Some 0 else option_map (λ n. 1 + n) (position p xs))
first p x xs true is =
    let some : nat_lt 0 (suc (length xs)) ≡ true = grind (arith, nat_tests) in
    ap (λ b. let n = (if not b then 1 + position_or_len p xs else 0) in cond (nat_lt n (length (x ∷ xs))) (Some n) None) is
    ∙ ap (λ c. cond c (Some 0) None) some
first p x xs false is =
    ap (λ b. let n = (if not b then 1 + position_or_len p xs else 0) in cond (nat_lt n (length (x ∷ xs))) (Some n) None) is
    ∙ next (position_or_len p xs) (length xs) (nat_lt (position_or_len p xs) (length xs)) refl

behind : (i : ℕ) (b : Bool) (place : Option ℕ)
    → option_map (λ n. i + n) (if b then Some 0 else option_map (λ n. 1 + n) place) ≡ (if b then Some i else option_map (λ n. (i + 1) + n) place)
behind i true place = ap (λ (n : ℕ). Some n) (omega arith)
behind i false None = refl
behind i false (Some n) = ap (λ (n : ℕ). Some n) (omega arith)

-- one column more in front
pub one-before : (columns : List ColumnType) (i : ℕ) (d : ColumnType) (name : List ℕ) → i < length columns
    → place_behind columns i name ≡ (if bytes_eq (get_or columns i d).name name then Some i else place_behind columns (i + 1) name)
one-before columns i d name within =
    let p = λ (c : ColumnType). bytes_eq c.name name in
    ap (λ (cs : List ColumnType). option_map (λ n. i + n) (position p cs)) (rest-cons columns i d within)
    ∙ ap (λ (place : Option ℕ). option_map (λ n. i + n) place) (first p (get_or columns i d) (drop (i + 1) columns) (p (get_or columns i d)) refl)
    ∙ behind i (p (get_or columns i d)) (position p (drop (i + 1) columns))

pub none-behind : (columns : List ColumnType) (i : ℕ) (name : List ℕ) → length columns ≤ i → place_behind columns i name ≡ None
none-behind columns i name over = ap (λ (cs : List ColumnType). option_map (λ n. i + n) (position (λ c. bytes_eq c.name name) cs)) (drop_all i columns over)

same : (place : Option ℕ) → option_map (λ n. 0 + n) place ≡ place
same None = refl
same (Some n) = ap (λ (k : ℕ). Some k) (omega arith)

pub all-behind : (columns : List ColumnType) (name : List ℕ) → place_behind columns 0 name ≡ position (λ c. bytes_eq c.name name) columns
all-behind columns name = same (position (λ c. bytes_eq c.name name) columns)
