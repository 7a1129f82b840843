-- The faults and the layout of a form, by its shape.
use Rattle.std.proofs.Common.{◌≡◌, ◌≢◌, ◌+◌, ◌*◌, ◌/◌, ◌^◌, ◌<◌, ◌⊎◌, ℕ, Bool, true, false, List, length, refl, sym, ap, ◌∙◌, arith, inl, inr}
use Rattle.std.specs.Prelude.{not, nat_lt, ◌==◌, ◌&&◌, ◌||◌, if◌then◌else◌, Option, None, Some}
use Rattle.std.proofs.lemmas.Bool.{cases_eq, false≢true}
use Rattle.std.proofs.lemmas.Bool.Decides.{nat_tests}
use Rattle.std.specs.Str.{is_utf8}
use Rattle.data_types.specs.promise.FieldText.{Form, Truths, Wholes, FloatBits, Text, HexBytes, SizedHex, Decimals, form_of, in_range}
use Rattle.data_types.specs.Kinds.{KindOk}
use Rattle.data_types.specs.promise.Value.{Value, Null, Truth, Whole, Bits, Bytes, Items, Fields, byte_total}
use Rattle.data_types.specs.declared.kind.DataType.{DataType}
use Rattle.data_types.specs.declared.kind.DataType.TheVariants as kinds
use Rattle.data_types.specs.declared.kind.Tick.{Tick}
use Rattle.data_types.specs.declared.kind.Tick.TheVariants as ticks
use Rattle.data_types.specs.Packed.{IsWidth}
use Rattle.col_build.specs.promise.Encoding.{is_wide}
use Rattle.col_build.specs.Encoding.{HasForm, fault_if, push_fault}
use Rattle.col_build.specs.Holding.{ShapeOk}
use Rattle.col_build.specs.Shapes.{range_fault, shape_fault, shape_in}
use Rattle.col_build.specs.declared.shape.Shape.{Shape}
use Rattle.col_build.specs.declared.shape.Shape.TheVariants as shapes
use Rattle.data_types.specs.promise.Storage.{storage_of}
use Rattle.col_build.specs.declared.item.PushFault.TheVariants.{OutOfRange, NotText}

-- ---- shapes of forms, and numbers of whole bytes
-- the shape of a form, whose offsets may be wide
abbrev pub shape_of : Bool → Form → Shape
shape_of wide Truths = shapes.Truths
shape_of wide (Wholes bits signed) = shapes.Wholes (bits / 8) signed
shape_of wide (FloatBits bits) = shapes.Floats (bits / 8)
shape_of wide Text = shapes.Between wide true
shape_of wide HexBytes = shapes.Between wide false
shape_of wide (SizedHex size) = shapes.Sized size
shape_of wide (Decimals precision places) = shapes.Wholes 16 true

abbrev pub shape_if : Bool → Option Form → Shape
shape_if wide None = shapes.Truths
shape_if wide (Some form) = shape_of wide form

-- a flat type is laid out by its form as it is stored
pub shape-same : (kind : DataType) → HasForm (form_of kind) → shape_in (storage_of kind) ≡ shape_if (is_wide kind) (form_of kind)
shape-same (kinds.Decimal precision scale false) flat = refl
shape-same (kinds.Decimal precision scale true) flat = absurd flat
shape-same kinds.IntervalDayTime flat = absurd flat
shape-same kinds.IntervalMonthDayNano flat = absurd flat
shape-same _ flat = refl

-- the numbers of a form's bits are whole bytes
abbrev pub FormOk : Option Form → Type 0
FormOk (Some (Wholes bits signed)) = (8 * (bits / 8) ≡ bits) × IsWidth (bits / 8) × (bits / 8 ≢ 16)
FormOk (Some (FloatBits bits)) = (8 * (bits / 8) ≡ bits) × IsWidth (bits / 8) × (bits / 8 ≢ 16)
FormOk (Some (SizedHex size)) = size < 2 ^ 31
FormOk _ = Unit {0}

of-bits : (bits : ℕ) (signed : Bool) → (bits ≡ 8) ⊎ (bits ≡ 16) ⊎ (bits ≡ 32) ⊎ (bits ≡ 64) → FormOk (Some (Wholes bits signed))
of-bits bits signed (inl e) = rw e (refl, inl refl, omega arith)
of-bits bits signed (inr (inl e)) = rw e (refl, inr (inl refl), omega arith)
of-bits bits signed (inr (inr (inl e))) = rw e (refl, inr (inr (inl refl)), omega arith)
of-bits bits signed (inr (inr (inr e))) = rw e (refl, inr (inr (inr (inl refl))), omega arith)

of-float : (bits : ℕ) → (bits ≡ 16) ⊎ (bits ≡ 32) ⊎ (bits ≡ 64) → FormOk (Some (FloatBits bits))
of-float bits (inl e) = rw e (refl, inr (inl refl), omega arith)
of-float bits (inr (inl e)) = rw e (refl, inr (inr (inl refl)), omega arith)
of-float bits (inr (inr e)) = rw e (refl, inr (inr (inr (inl refl))), omega arith)

-- a form that has no number, or whole numbers of these many bits
abbrev pub is_common : Option Form → Bool
is_common (Some (Wholes bits signed)) = (bits == 32) || (bits == 64)
is_common (Some (FloatBits bits)) = false
is_common (Some (SizedHex size)) = false
is_common (Some (Decimals precision places)) = false
is_common _ = true

pub common-bits : (bits : ℕ) → ((bits == 32) || (bits == 64)) ≡ true → (bits ≡ 32) ⊎ (bits ≡ 64)
common-bits bits is = by (cases_eq bits 32) (cases_eq bits 64)
  where
    by : (bits ≡ 32) ⊎ ¬ (bits ≡ 32) → (bits ≡ 64) ⊎ ¬ (bits ≡ 64) → (bits ≡ 32) ⊎ (bits ≡ 64)
    by (inl e) other = inl e
    by (inr a) (inl e) = inr e
    by (inr a) (inr b) = absurd (grind (arith, nat_tests, is, a, b))

of-common : (form : Option Form) → is_common form ≡ true → FormOk form
of-common (Some (Wholes bits signed)) is = of-bits bits signed (inr (inr (common-bits bits is)))
of-common (Some (FloatBits bits)) is = absurd (false≢true is)
of-common (Some (SizedHex size)) is = absurd (false≢true is)
of-common (Some (Decimals precision places)) is = absurd (false≢true is)
of-common _ is = tt

pub of-tick : (tick : Tick) → is_common (form_of (kinds.TimeOfDay tick)) ≡ true
of-tick ticks.Second = refl
of-tick _ = refl

pub form-ok : (kind : DataType) → KindOk kind → FormOk (form_of kind)
form-ok (kinds.Int bits signed) ok = of-bits bits signed ok
form-ok (kinds.Float bits) ok = of-float bits ok
form-ok (kinds.FixedBinary size) ok = ok
form-ok (kinds.Decimal precision scale false) ok = tt
form-ok (kinds.Decimal precision scale true) ok = tt
form-ok (kinds.TimeOfDay tick) ok = of-common (form_of (kinds.TimeOfDay tick)) (of-tick tick)
form-ok kind ok = of-common (form_of kind) refl

-- ---- the fault of an item, form by form
range : (fits : Bool) → (if not (fits && true) then Some OutOfRange else None) ≡ range_fault fits
range true = refl
range false = refl

text : (utf8 : Bool) → (if not utf8 then Some NotText else None) ≡ (if utf8 then None else Some NotText)
text true = refl
text false = refl

near : (reached : Bool) → (if not (true && reached) then Some OutOfRange else None) ≡ (if reached then None else Some OutOfRange)
near true = refl
near false = refl

near-text : (reached utf8 : Bool) → (if not (true && reached) then Some OutOfRange else if not utf8 then Some NotText else None)
    ≡ (if reached then if utf8 then None else Some NotText else Some OutOfRange)
near-text true true = refl
near-text true false = refl
near-text false utf8 = refl

fault-of-form : (wide : Bool) (form : Form) (values : List Value) (value : Value) → FormOk (Some form)
    → fault_if wide (Some form) values value ≡ shape_fault (shape_of wide form) (byte_total values) value
fault-of-form wide Truths values Null ok = refl
fault-of-form true Truths values (Truth t) ok = refl
fault-of-form false Truths values (Truth t) ok = refl
fault-of-form wide Truths values (Whole n) ok = refl
fault-of-form wide Truths values (Bits n) ok = refl
fault-of-form wide Truths values (Bytes b) ok = refl
fault-of-form wide Truths values (Items vs) ok = refl
fault-of-form wide Truths values (Fields vs) ok = refl
fault-of-form wide (Wholes bits signed) values Null ok = refl
fault-of-form wide (Wholes bits signed) values (Truth t) ok = refl
fault-of-form true (Wholes bits signed) values (Whole n) ok = rw ok.0 (range (in_range bits signed n))
fault-of-form false (Wholes bits signed) values (Whole n) ok = rw ok.0 (range (in_range bits signed n))
fault-of-form wide (Wholes bits signed) values (Bits n) ok = refl
fault-of-form wide (Wholes bits signed) values (Bytes b) ok = refl
fault-of-form wide (Wholes bits signed) values (Items vs) ok = refl
fault-of-form wide (Wholes bits signed) values (Fields vs) ok = refl
fault-of-form wide (FloatBits bits) values Null ok = refl
fault-of-form wide (FloatBits bits) values (Truth t) ok = refl
fault-of-form wide (FloatBits bits) values (Whole n) ok = refl
fault-of-form true (FloatBits bits) values (Bits n) ok = rw ok.0 (range (nat_lt n (2 ^ bits)))
fault-of-form false (FloatBits bits) values (Bits n) ok = rw ok.0 (range (nat_lt n (2 ^ bits)))
fault-of-form wide (FloatBits bits) values (Bytes b) ok = refl
fault-of-form wide (FloatBits bits) values (Items vs) ok = refl
fault-of-form wide (FloatBits bits) values (Fields vs) ok = refl
fault-of-form wide Text values Null ok = refl
fault-of-form wide Text values (Truth t) ok = refl
fault-of-form wide Text values (Whole n) ok = refl
fault-of-form wide Text values (Bits n) ok = refl
fault-of-form true Text values (Bytes b) ok = text (is_utf8 b)
fault-of-form false Text values (Bytes b) ok = near-text (nat_lt (byte_total values + length b) (2 ^ 31)) (is_utf8 b)
fault-of-form wide Text values (Items vs) ok = refl
fault-of-form wide Text values (Fields vs) ok = refl
fault-of-form wide HexBytes values Null ok = refl
fault-of-form wide HexBytes values (Truth t) ok = refl
fault-of-form wide HexBytes values (Whole n) ok = refl
fault-of-form wide HexBytes values (Bits n) ok = refl
fault-of-form true HexBytes values (Bytes b) ok = refl
fault-of-form false HexBytes values (Bytes b) ok = near (nat_lt (byte_total values + length b) (2 ^ 31))
fault-of-form wide HexBytes values (Items vs) ok = refl
fault-of-form wide HexBytes values (Fields vs) ok = refl
fault-of-form wide (SizedHex size) values Null ok = refl
fault-of-form wide (SizedHex size) values (Truth t) ok = refl
fault-of-form wide (SizedHex size) values (Whole n) ok = refl
fault-of-form wide (SizedHex size) values (Bits n) ok = refl
fault-of-form true (SizedHex size) values (Bytes b) ok = range (length b == size)
fault-of-form false (SizedHex size) values (Bytes b) ok = range (length b == size)
fault-of-form wide (SizedHex size) values (Items vs) ok = refl
fault-of-form wide (SizedHex size) values (Fields vs) ok = refl
fault-of-form wide (Decimals precision places) values Null ok = refl
fault-of-form wide (Decimals precision places) values (Truth t) ok = refl
fault-of-form true (Decimals precision places) values (Whole n) ok = range (in_range 128 true n)
fault-of-form false (Decimals precision places) values (Whole n) ok = range (in_range 128 true n)
fault-of-form wide (Decimals precision places) values (Bits n) ok = refl
fault-of-form wide (Decimals precision places) values (Bytes b) ok = refl
fault-of-form wide (Decimals precision places) values (Items vs) ok = refl
fault-of-form wide (Decimals precision places) values (Fields vs) ok = refl

-- ---- the fault and the shape of a type's item
of-kind : (wide : Bool) (form : Option Form) (values : List Value) (value : Value) → HasForm form → FormOk form
    → fault_if wide form values value ≡ shape_fault (shape_if wide form) (byte_total values) value
of-kind wide None values value flat ok = absurd flat
of-kind wide (Some form) values value flat ok = fault-of-form wide form values value ok

-- the fault of a type's item is that of its shape
pub fault-is : (kind : DataType) (values : List Value) (value : Value) → KindOk kind → HasForm (form_of kind)
    → push_fault kind values value ≡ shape_fault (shape_in (storage_of kind)) (byte_total values) value
fault-is kind values value ok flat =
    of-kind (is_wide kind) (form_of kind) values value flat (form-ok kind ok)
    ∙ ap (λ (shape : Shape). shape_fault shape (byte_total values) value) (sym (shape-same kind flat))

shape-of-form : (wide : Bool) (form : Option Form) → FormOk form → ShapeOk (shape_if wide form)
shape-of-form wide None ok = tt
shape-of-form wide (Some Truths) ok = tt
shape-of-form wide (Some (Wholes bits signed)) ok = (ok.1, λ widest. absurd (ok.2 widest))
shape-of-form wide (Some (FloatBits bits)) ok = (ok.1, ok.2)
shape-of-form wide (Some Text) ok = tt
shape-of-form wide (Some HexBytes) ok = tt
shape-of-form wide (Some (SizedHex size)) ok = ok
shape-of-form wide (Some (Decimals precision places)) ok = (inr (inr (inr (inr refl))), λ widest. refl)

-- the numbers of a type's shape are in their ranges
pub shape-is : (kind : DataType) → KindOk kind → HasForm (form_of kind) → ShapeOk (shape_in (storage_of kind))
shape-is kind ok flat = rw (shape-same kind flat) (shape-of-form (is_wide kind) (form_of kind) (form-ok kind ok))
