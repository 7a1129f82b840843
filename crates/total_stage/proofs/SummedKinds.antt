-- The values of the columns that are totalled, and those of their totals.
use Rattle.std.proofs.Common.{arith, rules, ◌≡◌, ◌∙◌, ◌≤◌, ◌<◌, ◌+◌, ◌-◌, ◌^◌, ℕ, zero, suc}
use Rattle.std.proofs.Common.{ℤ, pos, negsuc, Bool, true, false, List, [], ◌∷◌, length, refl, sym, ap}
use Rattle.std.proofs.Common.{subst, inl, inr}
use Rattle.std.specs.Prelude.{◌⊎◌, FitsSigned, Option, None, Some, if◌then◌else◌, int_lt, nat_abs}
use Rattle.std.specs.Int.{w32}
use Rattle.std.specs.List.{AllByRecursion, filter_map, fold}
use Rattle.std.proofs.Math.Nat.{pow-le-pow_right}
use Rattle.std.proofs.lemmas.Bool.{false≢true, leb-true, lt-ltb, ltb-true}
use Rattle.std.proofs.lemmas.Int.{ints}
use Rattle.data_types.specs.ColumnForms.{IsColumnKind}
use Rattle.data_types.specs.promise.FieldText.{in_range}
use Rattle.data_types.specs.FieldText.{IsValueOf}
use Rattle.data_types.specs.Kinds.{KindOk}
use Rattle.data_types.specs.promise.Table.{Column, Kind, Flat}
use Rattle.data_types.specs.promise.Value.{Value, Null, Truth, Whole, Bits, Bytes, Items, Fields, bytes_of}
use Rattle.data_types.specs.declared.kind.DataType.{DataType}
use Rattle.data_types.specs.declared.kind.DataType.TheVariants as kinds
use Rattle.stage_model.specs.promise.Stages.{extreme, number_if}
use Rattle.stage_model.specs.Stages.{greater, lesser, sum_of}
use Rattle.stage_model.specs.promise.Typing.{column, is_summed, scale_of}
use Rattle.total_stage.specs.Rows.{ValueFits}
use Rattle.total_stage.specs.Totals.{IsSmall, IsSmallItem}
use Rattle.total_stage.proofs.Adding.{sum-digits, sum-within}

-- ---- numbers are small

power-64 : (bits : ℕ) → bits ≤ 64 → 2 ^ bits ≤ 2 ^ 64
power-64 bits few = pow-le-pow_right {n = 2} (omega arith) {i = bits} {j = 64} few

bits-few : (bits : ℕ) → (bits ≡ 8) ⊎ (bits ≡ 16) ⊎ (bits ≡ 32) ⊎ (bits ≡ 64) → bits ≤ 64
bits-few bits (inl e) = omega (arith, e)
bits-few bits (inr (inl e)) = omega (arith, e)
bits-few bits (inr (inr (inl e))) = omega (arith, e)
bits-few bits (inr (inr (inr e))) = omega (arith, e)

range-small : (bits : ℕ) (signed : Bool) (number : ℤ) → bits ≤ 64 → in_range bits signed number ≡ true → IsSmall number
range-small bits true (pos n) few is =
    let small = ltb-true n (2 ^ (bits - 1)) is in
    let most = power-64 (bits - 1) (omega (arith, few)) in
    record { low = omega (arith, ints); high = omega (arith, ints, small, most) }
range-small bits true (negsuc n) few is =
    let small = ltb-true n (2 ^ (bits - 1)) is in
    let most = power-64 (bits - 1) (omega (arith, few)) in
    record { low = omega (arith, ints, small, most); high = omega (arith, ints) }
range-small bits false (pos n) few is =
    let small = ltb-true n (2 ^ bits) is in
    let most = power-64 bits few in
    record { low = omega (arith, ints); high = omega (arith, ints, small, most) }
range-small bits false (negsuc n) few is = absurd (false≢true is)

power-28 : (precision : ℕ) → precision ≤ 28 → 10 ^ precision ≤ 10 ^ 28
power-28 precision few = pow-le-pow_right {n = 10} (omega arith) {i = precision} {j = 28} few

digits-small : (precision : ℕ) (number : ℤ) → precision ≤ 28 → nat_abs number < 10 ^ precision → IsSmall number
digits-small precision (pos n) few is = let most = power-28 precision few in record { low = omega (arith, ints); high = omega (arith, ints, is, most) }
digits-small precision (negsuc n) few is = let most = power-28 precision few in record { low = omega (arith, ints, is, most); high = omega (arith, ints) }

pub number-small : (kind : DataType) (number : ℤ) → KindOk kind → is_summed (Flat kind) ≡ true → IsValueOf kind (Whole number) → IsSmall number
number-small (kinds.Int bits signed) number ok summed is = range-small bits signed number (bits-few bits ok) is
number-small (kinds.Decimal precision scale false) number ok summed is = digits-small precision number (leb-true precision 28 summed) is
number-small (kinds.Decimal precision scale true) number ok summed is = absurd (false≢true summed)
number-small _ number ok summed is = absurd (false≢true summed)

pub item-small : (kind : DataType) (value : Value) → KindOk kind → is_summed (Flat kind) ≡ true → IsValueOf kind value → IsSmallItem value
item-small kind (Whole number) ok summed is = number-small kind number ok summed is
item-small kind Null ok summed is = tt
item-small kind (Truth truth) ok summed is = tt
item-small kind (Bits bits) ok summed is = tt
item-small kind (Bytes bytes) ok summed is = tt
item-small kind (Items items) ok summed is = tt
item-small kind (Fields fields) ok summed is = tt

-- ---- a column that is totalled

pub record SummedColumn (c : Column) (values : List Value) : Type 0 where
  pub kind : DataType
  pub is : c.kind ≡ Flat kind
  pub ok : IsColumnKind kind
  pub summed : is_summed (Flat kind) ≡ true
  pub values_of : AllByRecursion (IsValueOf kind) values
  pub few : length values ≤ 2 ^ 30

abbrev IsNumberOf : DataType → ℤ → Type 0
IsNumberOf kind number = IsValueOf kind (Whole number)

numbers-are : (kind : DataType) (values : List Value) → AllByRecursion (IsValueOf kind) values → AllByRecursion (IsNumberOf kind) (filter_map number_if values)
numbers-are kind [] are = tt
numbers-are kind (Whole number ∷ values) are = (are.0, numbers-are kind values are.1)
numbers-are kind (Null ∷ values) are = numbers-are kind values are.1
numbers-are kind (Truth truth ∷ values) are = numbers-are kind values are.1
numbers-are kind (Bits bits ∷ values) are = numbers-are kind values are.1
numbers-are kind (Bytes bytes ∷ values) are = numbers-are kind values are.1
numbers-are kind (Items items ∷ values) are = numbers-are kind values are.1
numbers-are kind (Fields fields ∷ values) are = numbers-are kind values are.1

numbers-small : (kind : DataType) (numbers : List ℤ) → KindOk kind → is_summed (Flat kind) ≡ true → AllByRecursion (IsNumberOf kind) numbers
    → AllByRecursion IsSmall numbers
numbers-small kind [] ok summed are = tt
numbers-small kind (number ∷ numbers) ok summed are = (number-small kind number ok summed are.0, numbers-small kind numbers ok summed are.1)

fewer-numbers : (values : List Value) → length (filter_map number_if values) ≤ length values
fewer-numbers [] = omega arith
fewer-numbers (Whole number ∷ values) = omega (arith, fewer-numbers values)
fewer-numbers (Null ∷ values) = omega (arith, fewer-numbers values)
fewer-numbers (Truth truth ∷ values) = omega (arith, fewer-numbers values)
fewer-numbers (Bits bits ∷ values) = omega (arith, fewer-numbers values)
fewer-numbers (Bytes bytes ∷ values) = omega (arith, fewer-numbers values)
fewer-numbers (Items items ∷ values) = omega (arith, fewer-numbers values)
fewer-numbers (Fields fields ∷ values) = omega (arith, fewer-numbers values)

-- ---- its extremes are of its kind

fold-keeps : (P : ℤ → Type 0) (choice : ℤ → ℤ → ℤ) → ((a b : ℤ) → P a → P b → P (choice a b)) → (number : ℤ) (numbers : List ℤ) → P number
    → AllByRecursion P numbers → P (fold choice number numbers)
fold-keeps P choice keeps number [] is are = is
fold-keeps P choice keeps number (next ∷ numbers) is are = fold-keeps P choice keeps (choice number next) numbers (keeps number next is are.0) are.1

one-of : (P : ℤ → Type 0) (second : Bool) (a b : ℤ) → P a → P b → P (if second then b else a)
one-of P true a b is other = other
one-of P false a b is other = is

extreme-of : (kind : DataType) (choice : ℤ → ℤ → ℤ) (numbers : List ℤ) → ((P : ℤ → Type 0) (a b : ℤ) → P a → P b → P (choice a b))
    → AllByRecursion (IsNumberOf kind) numbers → IsValueOf kind (extreme choice numbers)
extreme-of kind choice [] keeps are = tt
extreme-of kind choice (number ∷ numbers) keeps are =
    fold-keeps (IsNumberOf kind) choice (keeps (IsNumberOf kind)) number numbers are.0 are.1

-- ---- the four columns

pub count-fits : (name : List ℕ) (c : Column) (values : List Value) → SummedColumn c values
    → ValueFits (column name (Flat (kinds.Int 64 true))) (Whole (pos (length (filter_map number_if values))))
count-fits name c values is = record {
  kind = kinds.Int 64 true;
  is = refl;
  ok = (inr (inr (inr refl)), tt);
  value_of = lt-ltb (length (filter_map number_if values)) (2 ^ 63) (omega (arith, fewer-numbers values, is.few));
  no_bytes = refl;
}

scale-ok : (kind : DataType) → KindOk kind → is_summed (Flat kind) ≡ true → FitsSigned w32 (scale_of (Flat kind))
scale-ok (kinds.Decimal precision scale wide) ok summed = ok.2
scale-ok (kinds.Int bits signed) ok summed = search rules
scale-ok _ ok summed = absurd (false≢true summed)

pub sum-fits : (name : List ℕ) (c : Column) (values : List Value) → SummedColumn c values
    → ValueFits (column name (Flat (kinds.Decimal 38 (scale_of c.kind) false))) (Whole (sum_of (filter_map number_if values)))
sum-fits name c values is =
    let numbers = filter_map number_if values in
    let small = numbers-small is.kind numbers is.ok.0 is.summed (numbers-are is.kind values is.values_of) in
    record {
      kind = kinds.Decimal 38 (scale_of c.kind) false;
      is = refl;
      ok = (
        (omega arith, omega arith, subst (λ (k : Kind). FitsSigned w32 (scale_of k)) (sym is.is) (scale-ok is.kind is.ok.0 is.summed)),
        tt,
      );
      value_of = sum-digits (length numbers) (sum_of numbers) (omega (arith, fewer-numbers values, is.few)) (sum-within numbers small);
      no_bytes = refl;
    }

extreme-bytes : (choice : ℤ → ℤ → ℤ) (numbers : List ℤ) → bytes_of (extreme choice numbers) ≡ []
extreme-bytes choice [] = refl
extreme-bytes choice (number ∷ numbers) = refl

pub least-fits : (name : List ℕ) (c : Column) (values : List Value) → SummedColumn c values
    → ValueFits (column name c.kind) (extreme lesser (filter_map number_if values))
least-fits name c values is = record {
  kind = is.kind;
  is = is.is;
  ok = is.ok;
  value_of = extreme-of is.kind lesser (filter_map number_if values) (λ P a b. one-of P (int_lt b a) a b) (numbers-are is.kind values is.values_of);
  no_bytes = extreme-bytes lesser (filter_map number_if values);
}

pub greatest-fits : (name : List ℕ) (c : Column) (values : List Value) → SummedColumn c values
    → ValueFits (column name c.kind) (extreme greater (filter_map number_if values))
greatest-fits name c values is = record {
  kind = is.kind;
  is = is.is;
  ok = is.ok;
  value_of = extreme-of is.kind greater (filter_map number_if values) (λ P a b. one-of P (int_lt a b) a b) (numbers-are is.kind values is.values_of);
  no_bytes = extreme-bytes greater (filter_map number_if values);
}
