-- The numbers of the items of a window.
use Rattle.std.proofs.Common.{arith, ◌≡◌, ◌≢◌, ◌∙◌, ◌≤◌, ◌<◌, ◌+◌, ◌-◌, ◌++◌, ℕ, zero, suc, ℤ, List, [], ◌∷◌, length, refl, sym, ap, subst}
use Rattle.std.specs.Prelude.{Option, None, Some}
use Rattle.std.specs.List.{filter_map}
use Rattle.std.proofs.lemmas.List.{append-nil}
use Rattle.std.proofs.lemmas.List.Elements.{filter_map-append}
use Rattle.data_types.specs.promise.Value.{Value, Null, Truth, Whole, Bits, Bytes, Items, Fields}
use Rattle.layout_rules.specs.promise.Values.{each}
use Rattle.arr_import.specs.Window.{Window, item_at}
use Rattle.stage_model.specs.promise.Stages.{number_if}
use Rattle.total_stage.specs.Totals.{numbers_in}

pub each-push : {X : Type 0} (f : ℕ → X) (from n : ℕ) → each f from (suc n) ≡ each f from n ++ f (from + n) ∷ []
each-push f from zero = let e : from ≡ from + 0 = omega arith in ap (λ k. f k ∷ []) e
each-push f from (suc n) =
    let e : suc from + n ≡ from + suc n = omega arith in
    ap (λ xs. f from ∷ xs) (each-push f (suc from) n ∙ ap (λ k. each f (suc from) n ++ f k ∷ []) e)

numbers-push : (w : Window) (from i : ℕ) → from ≤ i
    → numbers_in w from (i + 1 - from) ≡ numbers_in w from (i - from) ++ filter_map number_if (item_at w i ∷ [])
numbers-push w from i le =
    let n : i + 1 - from ≡ suc (i - from) = omega (arith, le) in
    let last : from + (i - from) ≡ i = omega (arith, le) in
    ap (numbers_in w from) n ∙ ap (filter_map number_if) (each-push (item_at w) from (i - from))
    ∙ filter_map-append number_if (each (item_at w) from (i - from)) (item_at w (from + (i - from)) ∷ [])
    ∙ ap (λ k. numbers_in w from (i - from) ++ filter_map number_if (item_at w k ∷ [])) last

-- one number more
pub number-more : (w : Window) (from i : ℕ) (number : ℤ) → from ≤ i → item_at w i ≡ Whole number
    → numbers_in w from (i + 1 - from) ≡ numbers_in w from (i - from) ++ number ∷ []
number-more w from i number le is =
    numbers-push w from i le ∙ ap (λ (v : Value). numbers_in w from (i - from) ++ filter_map number_if (v ∷ [])) is

none-of : (v : Value) → ((number : ℤ) → v ≢ Whole number) → filter_map number_if (v ∷ []) ≡ []
none-of (Whole number) none = absurd (none number refl)
none-of Null none = refl
none-of (Truth truth) none = refl
none-of (Bits bits) none = refl
none-of (Bytes bytes) none = refl
none-of (Items items) none = refl
none-of (Fields fields) none = refl

-- an item that is no number
pub number-none : (w : Window) (from i : ℕ) → from ≤ i → ((number : ℤ) → item_at w i ≢ Whole number)
    → numbers_in w from (i + 1 - from) ≡ numbers_in w from (i - from)
number-none w from i le none =
    numbers-push w from i le ∙ ap (λ (more : List ℤ). numbers_in w from (i - from) ++ more) (none-of (item_at w i) none)
    ∙ append-nil (numbers_in w from (i - from))

one-or-none : (o : Option ℤ) (ns : List ℤ) (rest : ℕ) → length ns ≤ rest → (v : Value) → number_if v ≡ o → (vs : List Value) → filter_map number_if vs ≡ ns
    → length (filter_map number_if (v ∷ vs)) ≤ suc rest
one-or-none o ns rest few (Whole number) is vs e = let k = ap (length {A = ℤ}) e in omega (arith, k, few)
one-or-none o ns rest few _ is vs e = let k = ap (length {A = ℤ}) e in omega (arith, k, few)

few-of : (f : ℕ → Value) (from n : ℕ) → length (filter_map number_if (each f from n)) ≤ n
few-of f from zero = omega arith
few-of f from (suc n) =
    one-or-none (number_if (f from)) (filter_map number_if (each f (suc from) n)) n (few-of f (suc from) n) (f from) refl (each f (suc from) n) refl

-- there are no more numbers than items
pub few-numbers : (w : Window) (from n : ℕ) → length (numbers_in w from n) ≤ n
few-numbers w from n = few-of (item_at w) from n
