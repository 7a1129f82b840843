-- What it says that a column takes a value, and that the value is back from where it is stored.
use Rattle.std.proofs.Common.{◌≡◌, ◌∙◌, ℕ, ◌+◌, ◌-◌, ◌*◌, ◌^◌, ◌<◌, ◌≤◌, inr, ℤ, pos, negsuc, Bool, true, false, not, ◌&&◌, List, [], length, refl, sym, ap}
use Rattle.std.proofs.Common.{arith, Option, None, Some}
use Rattle.std.specs.Prelude.{if◌then◌else◌, ◌==◌}
use Rattle.std.proofs.lemmas.Bool.{and_parts, eqb-true, false≢true, ltb-true, true≢false}
use Rattle.std.proofs.lemmas.List.{length-replicate}
use Rattle.std.proofs.lemmas.Nat.{pow-add}
use Rattle.data_types.specs.promise.Packed.{le_bytes, meant, stored}
use Rattle.data_types.specs.Packed.{IsWidth}
use Rattle.bit_pack.proofs.NumberFacts.{meant_back}
use Rattle.data_types.specs.promise.FieldText.{Form, Truths, Wholes, FloatBits, Text, HexBytes, SizedHex, Decimals, in_range}
use Rattle.data_types.specs.promise.Value.{Value, Null, Truth, Whole, Bits, Bytes}
use Rattle.col_build.specs.promise.Encoding.{bit_value, is_set, is_within, stored_item}
use Rattle.data_types.specs.promise.Value.{bytes_of, byte_total, is_null}
use Rattle.col_build.specs.Encoding.{fault_if, is_form, is_storable, is_text}
use Rattle.col_build.specs.declared.item.PushFault.{PushFault}
use Rattle.col_build.specs.declared.item.PushFault.TheVariants.{WrongKind, OutOfRange, NotText}
use Rattle.arr_export.proofs.Nulls.{flag-back}
use Rattle.arr_export.proofs.Pieces.{length-le_bytes}

pub record IsTaken (form : Form) (value : Value) : Type 0 where
  pub form_ok : is_form form value ≡ true
  pub storable : is_storable form value ≡ true
  pub text : is_text form value ≡ true

test-passed : (test : Bool) (fault : PushFault) (others : Option PushFault) → (if not test then Some fault else others) ≡ None → (test ≡ true) × (others ≡ None)
test-passed true fault others e = (refl, e)
test-passed false fault others e = cc

by-tests : (wide : Bool) (form : Form) (value : Value)
    → (if not (is_form form value) then Some WrongKind
    else if not (is_storable form value && is_within wide form (byte_total [] + length (bytes_of value))) then Some OutOfRange
    else if not (is_text form value) then Some NotText
    else None) ≡ None
    → IsTaken form value
by-tests wide form value e =
    let first = test-passed (is_form form value) WrongKind _ e in
    let second = test-passed (is_storable form value && is_within wide form (byte_total [] + length (bytes_of value))) OutOfRange _ first.1 in
    let third = test-passed (is_text form value) NotText _ second.1 in
    record {
      form_ok = first.0;
      storable = (and_parts (is_storable form value) (is_within wide form (byte_total [] + length (bytes_of value))) second.0).0;
      text = third.0;
    }

-- a value other than null that a column takes
pub taken : (wide : Bool) (form : Form) (value : Value) → fault_if wide (Some form) [] value ≡ None → is_null value ≡ false → IsTaken form value
taken wide form Null e some = absurd (true≢false some)
taken wide form (Truth truth) e some = by-tests wide form (Truth truth) e
taken wide form value e some = by-tests wide form value e

-- ---- the size of what is stored

pub sized-number : (wide : Bool) (form : Form) (width : ℕ) → ((bytes : List ℕ) → is_form form (Bytes bytes) ≡ false) → (value : Value)
    → fault_if wide (Some form) [] value ≡ None → length (stored_item width value) ≡ width
sized-number wide form width none (Whole number) e = length-le_bytes width (stored width number)
sized-number wide form width none (Bits number) e = length-le_bytes width number
sized-number wide form width none (Bytes bytes) e = absurd (false≢true (sym (none bytes) ∙ (by-tests wide form (Bytes bytes) e).form_ok))
sized-number wide form width none value e = length-replicate width 0

pub sized-bytes : (wide : Bool) (size : ℕ) (value : Value) → fault_if wide (Some (SizedHex size)) [] value ≡ None → length (stored_item size value) ≡ size
sized-bytes wide size (Whole number) e = length-le_bytes size (stored size number)
sized-bytes wide size (Bits number) e = length-le_bytes size number
sized-bytes wide size (Bytes bytes) e = eqb-true (length bytes) size (by-tests wide (SizedHex size) (Bytes bytes) e).storable
sized-bytes wide size value e = length-replicate size 0

-- ---- back from what is stored

power-of : (width : ℕ) → 1 ≤ width → 2 ^ (8 * width) ≡ 2 ^ (8 * width - 1) * 2
power-of width some = ap (λ (n : ℕ). 2 ^ n) (omega arith) ∙ pow-add 2 (8 * width - 1) 1

record IsBack (width : ℕ) (signed : Bool) (number : ℤ) : Type 0 where
  pub meant_is : meant width signed (stored width number) ≡ number
  pub small : stored width number < 2 ^ (8 * width)

some-width : (width : ℕ) → IsWidth width → 1 ≤ width
some-width width is = omega (arith, is)

back : (width : ℕ) (signed : Bool) (number : ℤ) → IsWidth width → in_range (8 * width) signed number ≡ true → IsBack width signed number
back width true (pos n) is range =
    let below : n < 2 ^ (8 * width - 1) = ltb-true n (2 ^ (8 * width - 1)) range in
    record { meant_is = meant_back width n (pos n) is refl below; small = omega (arith, power-of width (some-width width is)) }
back width true (negsuc n) is range =
    let below : n < 2 ^ (8 * width - 1) = ltb-true n (2 ^ (8 * width - 1)) range in
    record {
      meant_is = meant_back width (stored width (negsuc n)) (negsuc n) is refl below;
      small = omega (arith, power-of width (some-width width is));
    }
back width false (pos n) is range = record { meant_is = refl; small = ltb-true n (2 ^ (8 * width)) range }
back width false (negsuc n) is range = absurd (false≢true range)

-- the number that is found is the one whose bytes are stored
abbrev pub Finds : ℕ → Value → ℕ → Type 0
Finds width value found = (number : ℕ) → stored_item width value ≡ le_bytes width number → number < 2 ^ (8 * width) → found ≡ number

pub whole-is : (width : ℕ) (signed : Bool) (value : Value) (found : ℕ) → IsWidth width → IsTaken (Wholes (8 * width) signed) value → Finds width value found
    → Whole (meant width signed found) ≡ value
whole-is width signed (Whole number) found is ok finds =
    let b = back width signed number is ok.storable in
    ap Whole (ap (meant width signed) (finds (stored width number) refl b.small) ∙ b.meant_is)
whole-is width signed value found is ok finds = absurd (false≢true ok.form_ok)

pub decimal-is : (precision places : ℕ) (value : Value) (found : ℕ) → IsTaken (Decimals precision places) value → Finds 16 value found
    → Whole (meant 16 true found) ≡ value
decimal-is precision places (Whole number) found ok finds =
    let b = back 16 true number (inr (inr (inr (inr refl)))) ok.storable in
    ap Whole (ap (meant 16 true) (finds (stored 16 number) refl b.small) ∙ b.meant_is)
decimal-is precision places value found ok finds = absurd (false≢true ok.form_ok)

pub bits-is : (width : ℕ) (value : Value) (found : ℕ) → IsTaken (FloatBits (8 * width)) value → Finds width value found → Bits found ≡ value
bits-is width (Bits number) found ok finds = ap Bits (finds number refl (ltb-true number (2 ^ (8 * width)) ok.storable))
bits-is width value found ok finds = absurd (false≢true ok.form_ok)

pub sized-is : (size : ℕ) (value : Value) (found : List ℕ) → IsTaken (SizedHex size) value → found ≡ stored_item size value → Bytes found ≡ value
sized-is size (Bytes bytes) found ok is = ap Bytes is
sized-is size value found ok is = absurd (false≢true ok.form_ok)

pub truth-is : (value : Value) (found : ℕ) → IsTaken Truths value → found ≡ bit_value (is_set value) → Truth (found == 1) ≡ value
truth-is (Truth truth) found ok is = ap Truth (ap (λ n. n == 1) is ∙ flag-back truth)
truth-is value found ok is = absurd (false≢true ok.form_ok)

pub text-is : (value : Value) (found : List ℕ) → IsTaken Text value → found ≡ bytes_of value → Bytes found ≡ value
text-is (Bytes bytes) found ok is = ap Bytes is
text-is value found ok is = absurd (false≢true ok.form_ok)

pub binary-is : (value : Value) (found : List ℕ) → IsTaken HexBytes value → found ≡ bytes_of value → Bytes found ≡ value
binary-is (Bytes bytes) found ok is = ap Bytes is
binary-is value found ok is = absurd (false≢true ok.form_ok)
