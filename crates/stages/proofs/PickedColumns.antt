-- What holds of picked columns, since it holds of all columns.
use Rattle.std.proofs.Common.{arith, ◌≡◌, ◌≢◌, ◌≤◌, ◌<◌, ◌+◌, ◌∙◌, ℕ, zero, suc, List, [], ◌∷◌, length, map, get_or, set, All, refl, sym, ap, subst}
use Rattle.std.proofs.lemmas.List.{length-map, get_or-set_other}
use Rattle.data_types.specs.promise.Parts.{picked}
use Rattle.data_types.specs.Parts.{AreWithin}
use Rattle.data_types.specs.promise.Table.{Column}
use Rattle.arr_move.specs.TreeActs.{Distinct}
use Rattle.stage_model.specs.promise.Typing.{no_column}
use Rattle.stream_face.specs.Lawful.{column_leaves, leaves}

-- ---- one pick

pub first-within : (count p : ℕ) (picks : List ℕ) → AreWithin count (p ∷ picks) → p < count
first-within count p picks within = within zero (omega arith)

pub rest-within : (count p : ℕ) (picks : List ℕ) → AreWithin count (p ∷ picks) → AreWithin count picks
rest-within count p picks within = λ k h. within (suc k) (omega (arith, h))

pub column-at : (picks : List ℕ) (columns : List Column) (j : ℕ) (none : Column) → j < length picks
    → get_or (picked no_column picks columns) j none ≡ get_or columns (get_or picks j 0) no_column
column-at [] columns j none inside = absurd (omega (arith, inside))
column-at (p ∷ picks) columns zero none inside = refl
column-at (p ∷ picks) columns (suc j) none inside = column-at picks columns j none (omega (arith, inside))

pub as-many : (picks : List ℕ) (columns : List Column) → length (picked no_column picks columns) ≡ length picks
as-many picks columns = length-map picks (λ p. get_or columns p no_column)

-- what holds of each column holds of each that is picked
pub all-picked : (P : Column → Type 0) (picks : List ℕ) (columns : List Column) → AreWithin (length columns) picks → All P columns
    → All P (picked no_column picks columns)
all-picked P picks columns within all = λ k none small.
    let inside : k < length picks = omega (arith, small, as-many picks columns) in
    subst P (sym (column-at picks columns k none inside)) (all (get_or picks k 0) no_column (within k inside))

-- ---- sums over different columns

abbrev pub total : List ℕ → ℕ
total [] = 0
total (n ∷ ns) = n + total ns

taken : (ns : List ℕ) (p : ℕ) → total (set ns p 0) + get_or ns p 0 ≡ total ns
taken [] p = refl
taken (n ∷ ns) zero = omega arith
taken (n ∷ ns) (suc p) = let e = taken ns p in omega (arith, e)

abbrev numbers : List ℕ → List ℕ → List ℕ
numbers ns picks = map (λ p. get_or ns p 0) picks

others-stay : (ns : List ℕ) (p : ℕ) (picks : List ℕ) → ((k : ℕ) → k < length picks → get_or picks k 0 ≢ p) → numbers (set ns p 0) picks ≡ numbers ns picks
others-stay ns p [] apart = refl
others-stay ns p (q ∷ picks) apart =
    ap (λ (n : ℕ). n ∷ numbers (set ns p 0) picks) (get_or-set_other ns p q 0 0 (apart zero (omega arith)))
    ∙ ap (λ (more : List ℕ). get_or ns q 0 ∷ more) (others-stay ns p picks (λ k h. apart (suc k) (omega (arith, h))))

total-picked : (ns picks : List ℕ) → Distinct picks → total (numbers ns picks) ≤ total ns
total-picked ns [] distinct = omega arith
total-picked ns (p ∷ picks) distinct =
    let rest = total-picked (set ns p 0) picks (λ i j below small. distinct (suc i) (suc j) (omega (arith, below)) (omega (arith, small))) in
    let same = ap total (others-stay ns p picks (λ k h e. distinct zero (suc k) (omega arith) (omega (arith, h)) (sym e))) in
    let whole = taken ns p in
    omega (arith, rest, same, whole)

measure-at : (f : Column → ℕ) (columns : List Column) (p : ℕ) → p < length columns → f (get_or columns p no_column) ≡ get_or (map f columns) p 0
measure-at f [] p inside = absurd (omega (arith, inside))
measure-at f (c ∷ cs) zero inside = refl
measure-at f (c ∷ cs) (suc p) inside = measure-at f cs p (omega (arith, inside))

measures-same : (f : Column → ℕ) (columns : List Column) (picks : List ℕ) → AreWithin (length columns) picks
    → map f (picked no_column picks columns) ≡ numbers (map f columns) picks
measures-same f columns [] within = refl
measures-same f columns (p ∷ picks) within =
    ap (λ (n : ℕ). n ∷ map f (picked no_column picks columns)) (measure-at f columns p (first-within (length columns) p picks within))
    ∙ ap (λ (more : List ℕ). get_or (map f columns) p 0 ∷ more) (measures-same f columns picks (rest-within (length columns) p picks within))

pub sum-picked : (f : Column → ℕ) (columns : List Column) (picks : List ℕ) → Distinct picks → AreWithin (length columns) picks
    → total (map f (picked no_column picks columns)) ≤ total (map f columns)
sum-picked f columns picks distinct within =
    let same = ap total (measures-same f columns picks within) in
    let fewer = total-picked (map f columns) picks distinct in
    omega (arith, same, fewer)

pub leaves-are : (columns : List Column) → column_leaves columns ≡ total (map (λ c. leaves c.kind) columns)
leaves-are [] = refl
leaves-are (c ∷ cs) = let e = leaves-are cs in omega (arith, e)
