-- How large a value is, and the lists of values that are made one by one.
use Rattle.std.proofs.Common.{◌≡◌, ◌∙◌, ◌+◌, ◌<◌, ◌++◌, ℕ, zero, suc, List, [], ◌∷◌, length, get_or, map, refl, ap, arith}
use mathlib.Core.Former.{Count}
use Rattle.data_types.specs.promise.Value.{Value, Values, values, Null, Truth, Whole, Bits, Bytes, Items, Fields, no_values, more_values}
use Rattle.layout_rules.specs.promise.Values.{each}
use Rattle.pipe_top.specs.declared.owned_value.OwnedValue.{Row_of-OwnedValue, end_of-OwnedValue, more_of-OwnedValue, items-the_row-OwnedValue}
use Rattle.pipe_top.specs.OwnedValues.{value_of, values_in}

pub row_is : (m : Count) (row : Row_of-OwnedValue m) → values_in row ≡ values (map value_of (items-the_row-OwnedValue m row))
row_is m end_of-OwnedValue = refl
row_is m (more_of-OwnedValue value rest) = ap (more_values (value_of value)) (row_is _ rest)

-- ---- how large

abbrev mutual
  pub value_size : Value → ℕ
  value_size Null = 0
  value_size (Truth truth) = 0
  value_size (Whole number) = 0
  value_size (Bits bits) = 0
  value_size (Bytes bytes) = 0
  value_size (Items vs) = 1 + values_size vs
  value_size (Fields vs) = 1 + values_size vs

  pub values_size : Values → ℕ
  values_size no_values = 0
  values_size (more_values v vs) = 1 + value_size v + values_size vs

-- each value is smaller than all of them
pub size-at : (vs : List Value) (k : ℕ) (d : Value) → k < length vs → value_size (get_or vs k d) < values_size (values vs)
size-at [] k d within = absurd (omega (arith, within))
size-at (v ∷ vs) zero d within = omega arith
size-at (v ∷ vs) (suc k) d within = omega (arith, size-at vs k d (omega (arith, within)))

pub size-each : (f : ℕ → Value) (a n i : ℕ) → i < n → value_size (f (a + i)) < values_size (values (each f a n))
size-each f a zero i within = absurd (omega (arith, within))
size-each f a (suc n) zero within = omega (arith, ap (λ k. value_size (f k)) (let e : a + 0 ≡ a = omega arith in e))
size-each f a (suc n) (suc i) within =
    let e : a + suc i ≡ suc a + i = omega arith in
    omega (arith, ap (λ k. value_size (f k)) e, size-each f (suc a) n i (omega (arith, within)))

-- ---- one by one

each-next : {X : Type 0} → (f : ℕ → X) (a n : ℕ) → each f a (suc n) ≡ each f a n ++ f (a + n) ∷ []
each-next f a zero = ap (λ k. f k ∷ []) (let e : a ≡ a + 0 = omega arith in e)
each-next f a (suc n) =
    let e : suc a + n ≡ a + suc n = omega arith in
    ap (λ xs. f a ∷ xs) (each-next f (suc a) n ∙ ap (λ k. each f (suc a) n ++ f k ∷ []) e)

pub each-more : {X : Type 0} → (f : ℕ → X) (a n : ℕ) → each f a (n + 1) ≡ each f a n ++ f (a + n) ∷ []
each-more f a n =
    let e : n + 1 ≡ suc n = omega arith in
    ap (each f a) e ∙ each-next f a n
