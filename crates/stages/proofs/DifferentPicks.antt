-- A stage that no rule refuses picks no column twice.
use Rattle.std.proofs.Common.{arith, ◌≡◌, ◌≢◌, ◌<◌, ◌+◌, ◌∙◌, ℕ, zero, suc, Bool, true, false, true≢false, List, [], ◌∷◌, ◌++◌, length, get_or, sym, ap, subst}
use Rattle.std.proofs.Common.{inl, inr, nat_lt, bytes_eq}
use Rattle.std.specs.Prelude.{◌==◌, is_none, is_some, not}
use Rattle.std.specs.List.{All, AllPairs, filter, list_any, position_or_len, range_with_len}
use Rattle.std.proofs.lemmas.Bool.{cases_Bool, eqb-false, ltb-true, not-true, or_parts}
use Rattle.std.proofs.lemmas.List.Elements.{All-append, All-cons, All-head, All-nil, All-tail, All-weaker}
use Rattle.std.proofs.lemmas.List.Kept.{AllPairs-cons, AllPairs-filter}
use Rattle.std.proofs.lemmas.List.Sums.{passes_at_first}
use Rattle.std.proofs.lemmas.Slice.Eq.{bytes_eq-Decides}
use Rattle.arr_move.specs.TreeActs.{Distinct}
use Rattle.csv_model.specs.promise.Header.{is_among, twice_behind}
use Rattle.data_types.specs.promise.Table.{Column}
use Rattle.stage_model.proofs.Numbers.{none-fails}
use Rattle.stage_model.specs.promise.Typing.{Stage, column_named, names_of, no_column, place_if, place_of, places_of, rest_of, rules_of}
use Rattle.stage_model.specs.Typing.{has_twice, others, IsStageOver}
use Rattle.stage_model.specs.promise.Typing.{step_of}
use Rattle.stage_model.specs.declared.stage.StageText.{StageText}
use Rattle.stage_model.specs.declared.stage.StageText.TheVariants as texts
use Rattle.stages.specs.Distinct.{DistinctPicks}

-- ---- numbers that differ

abbrev Differs : ℕ → ℕ → Type 0
Differs p q = p ≢ q

abbrev AreApart : List ℕ → Type 0
AreApart picks = AllPairs Differs picks

apart-distinct : (picks : List ℕ) → AreApart picks → Distinct picks
apart-distinct picks apart i j below small = apart i j 0 below small

first-apart : (p : ℕ) (ps : List ℕ) → AreApart (p ∷ ps) → All (Differs p) ps
first-apart p ps apart = λ k d small. apart zero (suc k) d (omega arith) (omega (arith, small))

rest-apart : (p : ℕ) (ps : List ℕ) → AreApart (p ∷ ps) → AreApart ps
rest-apart p ps apart = λ i j d below small. apart (suc i) (suc j) d (omega (arith, below)) (omega (arith, small))

-- each of the first differs from each of the second
abbrev AreDisjoint : List ℕ → List ℕ → Type 0
AreDisjoint ps qs = All (λ p. All (Differs p) qs) ps

apart-append : (ps qs : List ℕ) → AreApart ps → AreApart qs → AreDisjoint ps qs → AreApart (ps ++ qs)
apart-append [] qs a b disjoint = b
apart-append (p ∷ ps) qs a b disjoint =
    AllPairs-cons Differs p (ps ++ qs)
    (All-append (Differs p) ps qs (first-apart p ps a) (All-head (λ n. All (Differs n) qs) p ps disjoint))
    (apart-append ps qs (rest-apart p ps a) b (All-tail (λ n. All (Differs n) qs) p ps disjoint))

-- ---- the other numbers

range-above : (low start count : ℕ) → low < start → All (Differs low) (range_with_len start count)
range-above low start zero lt = All-nil (Differs low)
range-above low start (suc count) lt =
    All-cons (Differs low) start (range_with_len (start + 1) count) (λ e. absurd (omega (arith, e, lt)))
    (range-above low (start + 1) count (omega (arith, lt)))

range-apart : (start count : ℕ) → AreApart (range_with_len start count)
range-apart start zero = λ i j d below small. absurd (omega (arith, small))
range-apart start (suc count) =
    AllPairs-cons Differs start (range_with_len (start + 1) count) (range-above start (start + 1) count (omega arith)) (range-apart (start + 1) count)

abbrev is_other : List ℕ → ℕ → Bool
is_other picks p = not (list_any (λ q. q == p) picks)

others-apart : (picks : List ℕ) (count : ℕ) → AreApart (others picks count)
others-apart picks count = AllPairs-filter Differs (is_other picks) (range_with_len 0 count) (range-apart 0 count)

filter-passes : (test : ℕ → Bool) (ns : List ℕ) → All (λ n. test n ≡ true) (filter test ns)
filter-passes test [] = All-nil (λ n. test n ≡ true)
filter-passes test (n ∷ ns) = elim (cases_Bool (test n)) [
  | inl stays ↦ rw stays (All-cons (λ m. test m ≡ true) n (filter test ns) stays (filter-passes test ns))
  | inr goes ↦ rw goes (filter-passes test ns)
]

none-equal : (p : ℕ) (picks : List ℕ) → list_any (λ q. q == p) picks ≡ false → All (Differs p) picks
none-equal p [] e = All-nil (Differs p)
none-equal p (q ∷ picks) e =
    let parts = or_parts (q == p) (list_any (λ n. n == p) picks) e in
    All-cons (Differs p) q picks (λ same. eqb-false q p parts.0 (sym same)) (none-equal p picks parts.1)

others-disjoint : (picks : List ℕ) (count : ℕ) → AreDisjoint (others picks count) picks
others-disjoint picks count =
    All-weaker (λ p. is_other picks p ≡ true) (λ p. All (Differs p) picks)
    (λ p passes. none-equal p picks (not-true (list_any (λ q. q == p) picks) passes))
    (others picks count) (filter-passes (is_other picks) (range_with_len 0 count))

-- ---- the places of names

name-at : (columns : List Column) (name : List ℕ) → is_none (place_if columns name) ≡ false → bytes_eq (column_named columns name).name name ≡ true
name-at columns name e = elim (cases_Bool (nat_lt (position_or_len (λ c. bytes_eq c.name name) columns) (length columns))) [
  | inl there ↦ rw there
      (passes_at_first (λ c. bytes_eq c.name name) columns no_column (ltb-true (position_or_len (λ c. bytes_eq c.name name) columns) (length columns) there))
  | inr gone ↦ let never : true ≡ false = rw gone at e in absurd (true≢false never)
]

-- two names of columns that differ have two places
places-differ : (columns : List Column) (name other : List ℕ) → is_none (place_if columns name) ≡ false → is_none (place_if columns other) ≡ false
    → bytes_eq other name ≡ false → Differs (place_of columns name) (place_of columns other)
places-differ columns name other a b differ same =
    let first = (bytes_eq-Decides (column_named columns name).name name).0 (name-at columns name a) in
    let second = (bytes_eq-Decides (column_named columns other).name other).0 (name-at columns other b) in
    let equal : other ≡ name = sym second ∙ ap (λ (p : ℕ). (get_or columns p no_column).name) (sym same) ∙ first in
    true≢false (sym ((bytes_eq-Decides other name).1 equal) ∙ differ)

abbrev IsNew : List (List ℕ) → List ℕ → Type 0
IsNew before name = is_among before name ≡ false

-- the first name isn't among those before it, and the others aren't twice behind it
first-new : (before names : List (List ℕ)) (name : List ℕ) → is_some (twice_behind before (name ∷ names)) ≡ false
    → IsNew before name × (is_some (twice_behind (name ∷ before) names) ≡ false)
first-new before names name e = elim (cases_Bool (is_among before name)) [
  | inl old ↦ let never : true ≡ false = rw old at e in absurd (true≢false never)
  | inr new ↦ (new, rw new at e)
]

all-new : (before names : List (List ℕ)) → is_some (twice_behind before names) ≡ false → All (IsNew before) names
all-new before [] e = All-nil (IsNew before)
all-new before (name ∷ names) e =
    let parts = first-new before names name e in
    All-cons (IsNew before) name names parts.0
    (All-weaker (IsNew (name ∷ before)) (IsNew before) (λ n new. (or_parts (bytes_eq n name) (is_among before n) new).1) names
    (all-new (name ∷ before) names parts.1))

abbrev AreThere : List Column → List (List ℕ) → Type 0
AreThere columns names = list_any (λ name. is_none (place_if columns name)) names ≡ false

there-parts : (columns : List Column) (name : List ℕ) (names : List (List ℕ)) → AreThere columns (name ∷ names)
    → (is_none (place_if columns name) ≡ false) × AreThere columns names
there-parts columns name names there = or_parts (is_none (place_if columns name)) (list_any (λ n. is_none (place_if columns n)) names) there

place-apart : (columns : List Column) (before names : List (List ℕ)) (name : List ℕ) → is_none (place_if columns name) ≡ false
    → AreThere columns names → All (IsNew (name ∷ before)) names → All (Differs (place_of columns name)) (places_of columns names)
place-apart columns before [] name here there new = All-nil (Differs (place_of columns name))
place-apart columns before (other ∷ names) name here there new =
    let parts = there-parts columns other names there in
    let first = or_parts (bytes_eq other name) (is_among before other) (All-head (IsNew (name ∷ before)) other names new) in
    All-cons (Differs (place_of columns name)) (place_of columns other) (places_of columns names)
    (places-differ columns name other here parts.0 first.0)
    (place-apart columns before names name here parts.1 (All-tail (IsNew (name ∷ before)) other names new))

places-apart : (columns : List Column) (before names : List (List ℕ)) → AreThere columns names → is_some (twice_behind before names) ≡ false
    → AreApart (places_of columns names)
places-apart columns before [] there once = λ i j d below small. absurd (omega (arith, small))
places-apart columns before (name ∷ names) there once =
    let parts = there-parts columns name names there in
    let rest = first-new before names name once in
    AllPairs-cons Differs (place_of columns name) (places_of columns names)
    (place-apart columns before names name parts.0 parts.1 (all-new (name ∷ before) names rest.1))
    (places-apart columns (name ∷ before) names parts.1 rest.1)

-- ---- steps

step-distinct : (columns : List Column) (text : StageText) → AreThere columns (names_of text) → has_twice (names_of text) ≡ false
    → DistinctPicks (step_of columns text)
step-distinct columns (texts.Select names) there once = apart-distinct (places_of columns names) (places-apart columns [] names there once)
step-distinct columns (texts.Drop names) there once = apart-distinct (rest_of columns names) (others-apart (places_of columns names) (length columns))
step-distinct columns (texts.Slice off len) there once = tt
step-distinct columns (texts.Filter name test constant) there once = tt
step-distinct columns (texts.Pack made names) there once =
    apart-distinct (rest_of columns names ++ places_of columns names)
    (apart-append (rest_of columns names) (places_of columns names) (others-apart (places_of columns names) (length columns))
    (places-apart columns [] names there once) (others-disjoint (places_of columns names) (length columns)))
step-distinct columns (texts.Unpack name) there once = tt
step-distinct columns (texts.Dict name) there once = tt
step-distinct columns (texts.Plain name) there once = tt
step-distinct columns (texts.Totals names) there once = tt

pub stages-distinct : (columns : List Column) (stage : Stage) → IsStageOver columns stage → DistinctPicks stage.step
stages-distinct columns stage (text, is) =
    let found = none-fails (rules_of columns text) _ stage is in
    subst (λ (s : Stage). DistinctPicks s.step) found.1
    (step-distinct columns text found.0.0 (or_parts (has_twice (names_of text)) _ found.0.1.0).0)
