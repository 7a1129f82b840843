-- How large a value is: each part of it is smaller.
use Rattle.std.proofs.Common.{◌≡◌, ℕ, zero, suc, ◌+◌, ◌<◌, List, [], ◌∷◌, length, get_or, ap, arith}
use Rattle.data_types.specs.promise.Value.{Value, Values, values, Null, Truth, Whole, Bits, Bytes, Items, Fields, no_values, more_values}
use Rattle.layout_rules.specs.promise.Values.{each}

abbrev mutual
  pub value_size : Value → ℕ
  value_size Null = 0
  value_size (Truth truth) = 0
  value_size (Whole number) = 0
  value_size (Bits bits) = 0
  value_size (Bytes bytes) = 0
  value_size (Items vs) = 1 + values_size vs
  value_size (Fields vs) = 1 + values_size vs

  pub values_size : Values → ℕ
  values_size no_values = 0
  values_size (more_values v vs) = 1 + value_size v + values_size vs

pub size-at : (vs : List Value) (k : ℕ) (d : Value) → k < length vs → value_size (get_or vs k d) < values_size (values vs)
size-at [] k d within = absurd (omega (arith, within))
size-at (v ∷ vs) zero d within = omega arith
size-at (v ∷ vs) (suc k) d within = omega (arith, size-at vs k d (omega (arith, within)))

pub size-each : (f : ℕ → Value) (a n i : ℕ) → i < n → value_size (f (a + i)) < values_size (values (each f a n))
size-each f a zero i within = absurd (omega (arith, within))
size-each f a (suc n) zero within = omega (arith, ap (λ k. value_size (f k)) (let e : a + 0 ≡ a = omega arith in e))
size-each f a (suc n) (suc i) within =
    let e : a + suc i ≡ suc a + i = omega arith in
    omega (arith, ap (λ k. value_size (f k)) e, size-each f (suc a) n i (omega (arith, within)))
