-- The numbers of a stage's step are those of the columns before it.
use Rattle.std.proofs.Common.{◌≡◌, ◌<◌, ℕ, suc, zero, ◌+◌, Bool, true, false, List, [], ◌∷◌, length, refl, subst, arith, inl, inr}
use Rattle.std.proofs.lemmas.Bool.{cases_Bool, ltb-true, true≢false}
use Rattle.std.specs.Prelude.{Result, Ok, Err, nat_lt, ◌||◌, not, ◌==◌, is_none}
use Rattle.std.specs.List.{AllByRecursion, filter, list_any, position_or_len, range_with_len}
use Rattle.std.specs.Str.{bytes_eq}
use Rattle.data_types.specs.promise.Table.{Column}
use Rattle.data_types.specs.Parts.{AreWithin}
use Rattle.stage_model.specs.promise.Typing.{RuleTest, Stage, place_if, place_of, places_of, rules_of, stage_unless}
use Rattle.stage_model.specs.Typing.{others, first_failing, FitsColumns, IsStageOver}
use Rattle.stage_model.specs.promise.Typing.{step_of, names_of}
use Rattle.stage_model.specs.declared.fault.PlanRule.{PlanRule}
use Rattle.stage_model.specs.declared.stage.StageText.{StageText}
use Rattle.stage_model.specs.declared.stage.StageText.TheVariants as texts

-- ---- no rule fails

ok-same : (s stage : Stage) → ◌≡◌ {A = Result Stage PlanRule} (Ok s) (Ok stage) → s ≡ stage
ok-same s stage e = cc

pub none-fails : (rule_tests : List RuleTest) (s stage : Stage) → stage_unless (first_failing rule_tests) s ≡ Ok stage
    → AllByRecursion (λ t. t.fails ≡ false) rule_tests × (s ≡ stage)
none-fails [] s stage e = (tt, ok-same s stage e)
none-fails (t ∷ ts) s stage e = elim (cases_Bool t.fails) [
  | inl fails ↦ let never : ◌≡◌ {A = Result Stage PlanRule} (Err t.rule) (Ok stage) = rw fails at e in absurd (cc)
  | inr holds ↦
      let more : stage_unless (first_failing ts) s ≡ Ok stage = rw holds at e in
      let rest = none-fails ts s stage more in
      ((holds, rest.0), rest.1)
]

-- ---- numbers below a count

abbrev AreBelow : ℕ → List ℕ → Type 0
AreBelow count picks = AllByRecursion (λ p. p < count) picks

pub within : (count : ℕ) (picks : List ℕ) → AreBelow count picks → AreWithin count picks
within count [] all k low = absurd (omega (arith, low))
within count (p ∷ picks) all zero low = all.0
within count (p ∷ picks) all (suc k) low = within count picks all.1 k (omega (arith, low))

-- ---- places

or-left : (a b : Bool) → (a || b) ≡ false → a ≡ false
or-left true b e = absurd (true≢false e)
or-left false b e = refl

or-right : (a b : Bool) → (a || b) ≡ false → b ≡ false
or-right true b e = absurd (true≢false e)
or-right false b e = e

pub place-below : (columns : List Column) (name : List ℕ) → is_none (place_if columns name) ≡ false → place_of columns name < length columns
place-below columns name e = elim (cases_Bool (nat_lt (position_or_len (λ c. bytes_eq c.name name) columns) (length columns))) [
  | inl there ↦ rw there (ltb-true (position_or_len (λ c. bytes_eq c.name name) columns) (length columns) there)
  | inr gone ↦ let never : true ≡ false = rw gone at e in absurd (true≢false never)
]

pub places-below : (columns : List Column) (names : List (List ℕ)) → list_any (λ name. is_none (place_if columns name)) names ≡ false
    → AreBelow (length columns) (places_of columns names)
places-below columns [] e = tt
places-below columns (name ∷ names) e = (
  place-below columns name (or-left (is_none (place_if columns name)) (list_any (λ n. is_none (place_if columns n)) names) e),
  places-below columns names (or-right (is_none (place_if columns name)) (list_any (λ n. is_none (place_if columns n)) names) e),
)

range-below : (start count end : ℕ) → start + count ≡ end → AreBelow end (range_with_len start count)
range-below start zero end e = tt
range-below start (suc count) end e = (omega (arith, e), range-below (start + 1) count end (omega (arith, e)))

kept-below : (test : ℕ → Bool) (end : ℕ) (xs : List ℕ) → AreBelow end xs → AreBelow end (filter test xs)
kept-below test end [] all = tt
kept-below test end (x ∷ xs) all = elim (cases_Bool (test x)) [
  | inl stays ↦ rw stays (all.0, kept-below test end xs all.1)
  | inr goes ↦ rw goes (kept-below test end xs all.1)
]

pub others-below : (picks : List ℕ) (count : ℕ) → AreBelow count (others picks count)
others-below picks count = kept-below (λ p. not (list_any (λ q. q == p) picks)) count (range_with_len 0 count) (range-below 0 count count (omega arith))

-- ---- steps

one-below : (columns : List Column) (name : List ℕ) → list_any (λ n. is_none (place_if columns n)) (name ∷ []) ≡ false → place_of columns name < length columns
one-below columns name e = (places-below columns (name ∷ []) e).0

step-fits : (columns : List Column) (text : StageText) → list_any (λ name. is_none (place_if columns name)) (names_of text) ≡ false
    → FitsColumns (length columns) (step_of columns text)
step-fits columns (texts.Select names) e = within _ _ (places-below columns names e)
step-fits columns (texts.Drop names) e = within _ _ (others-below (places_of columns names) (length columns))
step-fits columns (texts.Slice off len) e = tt
step-fits columns (texts.Filter name test constant) e = one-below columns name e
step-fits columns (texts.Pack made names) e = (within _ _ (others-below (places_of columns names) (length columns)), within _ _ (places-below columns names e))
step-fits columns (texts.Unpack name) e = one-below columns name e
step-fits columns (texts.Dict name) e = one-below columns name e
step-fits columns (texts.Plain name) e = one-below columns name e
step-fits columns (texts.Totals names) e = within _ _ (places-below columns names e)

pub stages-fit : (columns : List Column) (stage : Stage) → IsStageOver columns stage → FitsColumns (length columns) stage.step
stages-fit columns stage (text, is) =
    let found = none-fails (rules_of columns text) _ stage is in
    subst (λ (s : Stage). FitsColumns (length columns) s.step) found.1 (step-fits columns text found.0.0)
