-- A value of a type is one that a column of the type takes, and is null or stored as the type's values are.
use Rattle.std.proofs.Common.{◌≡◌, ◌≤◌, ◌<◌, ◌+◌, ◌^◌, ℕ, zero, suc, Bool, true, false, List, [], ◌∷◌, length, map, take, get_or, inl, inr, refl, sym, subst, arith}
use Rattle.std.proofs.Math.Nat.{pow-le-pow_right}
use Rattle.std.proofs.lemmas.Bool.{false≢true, lt-ltb}
use Rattle.std.proofs.lemmas.Option.{none-some}
use Rattle.std.proofs.lemmas.Bool.Decides.{nat_tests}
use Rattle.std.specs.Prelude.{Option, None, Some, ◌⊎◌, ℤ, pos, negsuc, nat_abs, nat_lt, not, ◌==◌, ◌&&◌, if◌then◌else◌}
use Rattle.std.specs.List.{concat}
use Rattle.std.proofs.lemmas.List.{length-append}
use Rattle.data_types.specs.ColumnForms.{IsColumnKind}
use Rattle.data_types.specs.promise.FieldText.{Form, Truths, Wholes, FloatBits, Text, HexBytes, SizedHex, Decimals}
use Rattle.data_types.specs.FieldText.{IsOfForm, IsOfSome, IsValueOf}
use Rattle.data_types.specs.promise.FieldText.{form_of, in_range, stored_form}
use Rattle.data_types.specs.Kinds.{KindOk}
use Rattle.data_types.specs.promise.Storage.{storage_of}
use Rattle.data_types.specs.promise.Value.{Value, Null, Truth, Whole, Bits, Bytes, Items, Fields, byte_total, bytes_of}
use Rattle.data_types.specs.declared.kind.DataType.{DataType}
use Rattle.data_types.specs.declared.kind.DataType.TheVariants as kinds
use Rattle.data_types.specs.declared.storage.Storage.{Storage}
use Rattle.data_types.specs.declared.storage.Storage.TheVariants as stored
use Rattle.col_build.specs.promise.Encoding.{are_within, is_by_offsets, is_wide, is_within}
use Rattle.col_build.specs.Encoding.{Fits, are_bounded, fault_if, form_fault, is_form, is_storable, is_text}
use Rattle.col_build.specs.Encoding.{push_fault}
use Rattle.col_build.specs.declared.item.PushFault.TheVariants.{WrongKind, OutOfRange, NotText}
use Rattle.stream_face.specs.Lawful.{AreValues}
use Rattle.column_fill.specs.Takes.{IsStored}

-- ---- numbers and lengths in their ranges
-- a decimal is stored in 128 bits
power-38 : (precision : ℕ) → precision ≤ 38 → 10 ^ precision ≤ 10 ^ 38
power-38 precision few = pow-le-pow_right {n = 10} (omega arith) {i = precision} {j = 38} few

wide-range : (number : ℤ) (precision : ℕ) → precision ≤ 38 → nat_abs number < 10 ^ precision → in_range 128 true number ≡ true
wide-range (pos n) precision few small = lt-ltb n (2 ^ 127) (omega (arith, small, power-38 precision few))
wide-range (negsuc n) precision few small = lt-ltb n (2 ^ 127) (omega (arith, small, power-38 precision few))

no-fault : (is storable near text : Bool) → is ≡ true → storable ≡ true → near ≡ true → text ≡ true
    → (if not is then Some WrongKind else if not (storable && near) then Some OutOfRange else if not text then Some NotText else None) ≡ None
no-fault is storable near text a b c d = rw (a, b, c, d) refl

near-enough : (wide : Bool) (form : Form) (total : ℕ) → total < 2 ^ 31 → is_within wide form total ≡ true
near-enough true form total small = refl
near-enough false form total small =
    elim (is_by_offsets form) as (λ b. (if b then nat_lt total (2 ^ 31) else true) ≡ true) [ true ↦ lt-ltb total (2 ^ 31) small | false ↦ refl ]

-- the digits of a decimal's form have room
abbrev HasRoom : Option Form → Type 0
HasRoom (Some (Decimals precision places)) = precision ≤ 38
HasRoom _ = Unit {0}

has-room : (kind : DataType) → KindOk kind → HasRoom (form_of kind)
has-room (kinds.Decimal precision scale false) ok = ok.1
has-room (kinds.Decimal precision scale true) ok = tt
has-room (kinds.Binary true) ok = tt
has-room (kinds.Binary false) ok = tt
has-room _ ok = tt

-- ---- one value
form-takes : (wide : Bool) (form : Form) (values : List Value) (v : Value) → HasRoom (Some form) → IsOfForm form v
    → byte_total values + length (bytes_of v) < 2 ^ 31 → fault_if wide (Some form) values v ≡ None
form-takes wide Truths values (Truth t) room of small =
    no-fault true true _ true refl refl (near-enough wide Truths (byte_total values + 0) (omega (arith, small))) refl
form-takes wide (Wholes bits signed) values (Whole n) room of small =
    no-fault true _ _ true refl of (near-enough wide (Wholes bits signed) (byte_total values + 0) (omega (arith, small))) refl
form-takes wide (FloatBits bits) values (Bits n) room of small =
    no-fault true _ _ true refl (lt-ltb n (2 ^ bits) of) (near-enough wide (FloatBits bits) (byte_total values + 0) (omega (arith, small))) refl
form-takes wide Text values (Bytes b) room of small =
    no-fault true true _ _ refl refl (near-enough wide Text (byte_total values + length b) small) of
form-takes wide HexBytes values (Bytes b) room of small =
    no-fault true true _ true refl refl (near-enough wide HexBytes (byte_total values + length b) small) refl
form-takes wide (SizedHex size) values (Bytes b) room of small =
    let e = of.0 in
    let same : (length b == size) ≡ true = grind (arith, nat_tests, e) in
    no-fault true _ _ true refl same (near-enough wide (SizedHex size) (byte_total values + length b) small) refl
form-takes wide (Decimals precision places) values (Whole n) room of small =
    no-fault true _ _ true refl (wide-range n precision room of)
    (near-enough wide (Decimals precision places) (byte_total values + 0) (omega (arith, small))) refl
form-takes wide _ values _ room of small = absurd of

some-takes : (wide : Bool) (form : Option Form) (values : List Value) (v : Value) → HasRoom form → IsOfSome form v
    → byte_total values + length (bytes_of v) < 2 ^ 31 → fault_if wide form values v ≡ None
some-takes wide None values v room of small = absurd of
some-takes wide (Some form) values v room of small = form-takes wide form values v room of small

pub value-taken : (kind : DataType) (values : List Value) (v : Value) → IsColumnKind kind → IsValueOf kind v
    → byte_total values + length (bytes_of v) < 2 ^ 31 → push_fault kind values v ≡ None
value-taken kind values Null is of small = refl
value-taken kind values (Truth t) is of small = some-takes (is_wide kind) (form_of kind) values (Truth t) (has-room kind is.0) of small
value-taken kind values (Whole n) is of small = some-takes (is_wide kind) (form_of kind) values (Whole n) (has-room kind is.0) of small
value-taken kind values (Bits n) is of small = some-takes (is_wide kind) (form_of kind) values (Bits n) (has-room kind is.0) of small
value-taken kind values (Bytes b) is of small = some-takes (is_wide kind) (form_of kind) values (Bytes b) (has-room kind is.0) of small
value-taken kind values (Items vs) is of small = some-takes (is_wide kind) (form_of kind) values (Items vs) (has-room kind is.0) of small
value-taken kind values (Fields vs) is of small = some-takes (is_wide kind) (form_of kind) values (Fields vs) (has-room kind is.0) of small

-- ---- all values of a column

one-small : (vs : List Value) (k : ℕ) (d : Value) → k < length vs → length (bytes_of (get_or vs k d)) ≤ byte_total vs
one-small [] k d small = absurd (omega (arith, small))
one-small (v ∷ vs) zero d small = omega (arith, length-append (bytes_of v) (concat (map bytes_of vs)))
one-small (v ∷ vs) (suc k) d small =
    omega (arith, one-small vs k d (omega (arith, small)), length-append (bytes_of v) (concat (map bytes_of vs)))

all-near : (wide : Bool) (form : Option Form) (total : ℕ) → total < 2 ^ 31 → are_within wide form total ≡ true
all-near wide None total small = refl
all-near wide (Some form) total small = near-enough wide form total small

all-bounded : (form : Option Form) (total : ℕ) → total < 2 ^ 63 → are_bounded form total ≡ true
all-bounded None total small = refl
all-bounded (Some form) total small =
    elim (is_by_offsets form) as (λ b. (if b then nat_lt total (2 ^ 63) else true) ≡ true) [ true ↦ lt-ltb total (2 ^ 63) small | false ↦ refl ]

pub values-fit : (kind : DataType) (vs : List Value) → IsColumnKind kind → AreValues kind vs → length vs ≤ 2 ^ 30 → Fits kind vs
values-fit kind vs is are few = record {
  kind_ok = is.0;
  flat = is.1;
  few = omega (arith, few);
  each = λ k d small. value-taken kind [] (get_or vs k d) is (are.0 k d small) (omega (arith, one-small vs k d small, are.1));
  small = all-near (is_wide kind) (form_of kind) (byte_total vs) (omega (arith, are.1));
  bounded = all-bounded (form_of kind) (byte_total vs) (omega (arith, are.1));
}

-- the bytes of those before one, and its own, are among all
pub before-small : (vs : List Value) (k : ℕ) (d : Value) → k < length vs → byte_total (take k vs) + length (bytes_of (get_or vs k d)) ≤ byte_total vs
before-small [] k d small = absurd (omega (arith, small))
before-small (v ∷ vs) zero d small = omega (arith, length-append (bytes_of v) (concat (map bytes_of vs)))
before-small (v ∷ vs) (suc k) d small =
    omega (
      arith,
      before-small vs k d (omega (arith, small)),
      length-append (bytes_of v) (concat (map bytes_of vs)),
      length-append (bytes_of v) (concat (map bytes_of (take k vs))),
    )

-- ---- how values are stored

form-stored : (storage : Storage) (v : Value) → IsOfSome (stored_form storage) v → IsStored storage v
form-stored stored.Truths (Truth t) of = tt
form-stored (stored.Wholes bits signed) (Whole n) of = tt
form-stored (stored.Floats bits) (Bits n) of = tt
form-stored (stored.Sized size) (Bytes b) of = tt
form-stored (stored.Between wide false) (Bytes b) of = tt
form-stored (stored.Between wide true) (Bytes b) of = tt
form-stored _ _ of = absurd of

some-stored : (kind : DataType) (v : Value) → IsOfSome (form_of kind) v → IsStored (storage_of kind) v
some-stored (kinds.Decimal precision scale false) (Whole n) of = tt
some-stored (kinds.Decimal precision scale false) _ of = absurd of
some-stored (kinds.Decimal precision scale true) v of = absurd of
some-stored kinds.IntervalDayTime v of = absurd of
some-stored kinds.IntervalMonthDayNano v of = absurd of
some-stored kind v of = form-stored (storage_of kind) v of

null-stored : (storage : Storage) → IsStored storage Null
null-stored storage = tt

pub value-stored : (kind : DataType) (v : Value) → IsValueOf kind v → IsStored (storage_of kind) v
value-stored kind Null of = null-stored (storage_of kind)
value-stored kind (Truth t) of = some-stored kind (Truth t) of
value-stored kind (Whole n) of = some-stored kind (Whole n) of
value-stored kind (Bits n) of = some-stored kind (Bits n) of
value-stored kind (Bytes b) of = some-stored kind (Bytes b) of
value-stored kind (Items vs) of = some-stored kind (Items vs) of
value-stored kind (Fields vs) of = some-stored kind (Fields vs) of

-- ---- what a column takes alone it takes behind others, where the offsets reach its bytes

form-ok : (is storable near text : Bool)
    → (if not is then Some WrongKind else if not (storable && near) then Some OutOfRange else if not text then Some NotText else None) ≡ None
    → (is ≡ true) × (storable ≡ true) × (text ≡ true)
form-ok true true true true e = (refl, refl, refl)
form-ok true true true false e = absurd (none-some NotText (sym e))
form-ok true true false text e = absurd (none-some OutOfRange (sym e))
form-ok true false near text e = absurd (none-some OutOfRange (sym e))
form-ok false storable near text e = absurd (none-some WrongKind (sym e))

form-behind : (wide : Bool) (form : Form) (before : List Value) (v : Value) → form_fault wide form [] v ≡ None
    → is_within wide form (byte_total before + length (bytes_of v)) ≡ true → form_fault wide form before v ≡ None
form-behind wide form before v e near =
    let ok = form-ok (is_form form v) (is_storable form v) (is_within wide form (byte_total [] + length (bytes_of v))) (is_text form v) e in
    no-fault (is_form form v) (is_storable form v) (is_within wide form (byte_total before + length (bytes_of v))) (is_text form v) ok.0 ok.1 near ok.2

some-behind : (wide : Bool) (form : Option Form) (before : List Value) (v : Value) → fault_if wide form [] v ≡ None
    → are_within wide form (byte_total before + length (bytes_of v)) ≡ true → fault_if wide form before v ≡ None
some-behind wide form before Null e near = refl
some-behind wide None before (Truth t) e near = e
some-behind wide None before (Whole n) e near = e
some-behind wide None before (Bits n) e near = e
some-behind wide None before (Bytes b) e near = e
some-behind wide None before (Items vs) e near = e
some-behind wide None before (Fields vs) e near = e
some-behind wide (Some form) before (Truth t) e near = form-behind wide form before (Truth t) e near
some-behind wide (Some form) before (Whole n) e near = form-behind wide form before (Whole n) e near
some-behind wide (Some form) before (Bits n) e near = form-behind wide form before (Bits n) e near
some-behind wide (Some form) before (Bytes b) e near = form-behind wide form before (Bytes b) e near
some-behind wide (Some form) before (Items vs) e near = form-behind wide form before (Items vs) e near
some-behind wide (Some form) before (Fields vs) e near = form-behind wide form before (Fields vs) e near

pub taken-behind : (kind : DataType) (before : List Value) (v : Value) → push_fault kind [] v ≡ None
    → are_within (is_wide kind) (form_of kind) (byte_total before + length (bytes_of v)) ≡ true → push_fault kind before v ≡ None
taken-behind kind before v e near = some-behind (is_wide kind) (form_of kind) before v e near

-- ---- and it is stored as the column's values are

abbrev is_some_form : Option Form → Value → Bool
is_some_form None v = false
is_some_form (Some form) v = is_form form v

form-is : (wide : Bool) (form : Form) (v : Value) → form_fault wide form [] v ≡ None → is_form form v ≡ true
form-is wide form v e =
    (form-ok (is_form form v) (is_storable form v) (is_within wide form (byte_total [] + length (bytes_of v))) (is_text form v) e).0

storage-of-form : (storage : Storage) (v : Value) → is_some_form (stored_form storage) v ≡ true → IsStored storage v
storage-of-form stored.Truths (Truth t) of = tt
storage-of-form (stored.Wholes bits signed) (Whole n) of = tt
storage-of-form (stored.Floats bits) (Bits n) of = tt
storage-of-form (stored.Sized size) (Bytes b) of = tt
storage-of-form (stored.Between wide false) (Bytes b) of = tt
storage-of-form (stored.Between wide true) (Bytes b) of = tt
storage-of-form _ _ of = absurd (false≢true of)

kind-of-form : (kind : DataType) (v : Value) → is_some_form (form_of kind) v ≡ true → IsStored (storage_of kind) v
kind-of-form (kinds.Decimal precision scale false) (Whole n) of = tt
kind-of-form (kinds.Decimal precision scale false) _ of = absurd (false≢true of)
kind-of-form (kinds.Decimal precision scale true) v of = absurd (false≢true of)
kind-of-form kinds.IntervalDayTime v of = absurd (false≢true of)
kind-of-form kinds.IntervalMonthDayNano v of = absurd (false≢true of)
kind-of-form kind v of = storage-of-form (storage_of kind) v of

form-taken : (wide : Bool) (form : Option Form) (v : Value) → fault_if wide form [] v ≡ None → (v ≡ Null) ⊎ (is_some_form form v ≡ true)
form-taken wide form Null e = inl refl
form-taken wide None (Truth t) e = absurd (none-some WrongKind (sym e))
form-taken wide None (Whole n) e = absurd (none-some WrongKind (sym e))
form-taken wide None (Bits n) e = absurd (none-some WrongKind (sym e))
form-taken wide None (Bytes b) e = absurd (none-some WrongKind (sym e))
form-taken wide None (Items vs) e = absurd (none-some WrongKind (sym e))
form-taken wide None (Fields vs) e = absurd (none-some WrongKind (sym e))
form-taken wide (Some form) (Truth t) e = inr (form-is wide form (Truth t) e)
form-taken wide (Some form) (Whole n) e = inr (form-is wide form (Whole n) e)
form-taken wide (Some form) (Bits n) e = inr (form-is wide form (Bits n) e)
form-taken wide (Some form) (Bytes b) e = inr (form-is wide form (Bytes b) e)
form-taken wide (Some form) (Items vs) e = inr (form-is wide form (Items vs) e)
form-taken wide (Some form) (Fields vs) e = inr (form-is wide form (Fields vs) e)

pub taken-stored : (kind : DataType) (v : Value) → push_fault kind [] v ≡ None → IsStored (storage_of kind) v
taken-stored kind v e = elim (form-taken (is_wide kind) (form_of kind) v e) [
  | inl null ↦ subst (IsStored (storage_of kind)) (sym null) (null-stored (storage_of kind))
  | inr of ↦ kind-of-form kind v of
]
