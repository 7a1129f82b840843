-- Columns with one more value still fit their offsets.
use Rattle.std.proofs.Common.{◌≡◌, ◌∙◌, ◌+◌, ◌^◌, ◌<◌, ◌++◌, ℕ, Bool, true, false, List, [], ◌∷◌, length, refl, sym, ap, arith, add-zero, length-append}
use Rattle.std.proofs.lemmas.Bool.{lt-ltb}
use Rattle.std.proofs.lemmas.Bool.Decides.{nat_tests}
use Rattle.std.proofs.lemmas.List.{map-append}
use Rattle.std.proofs.lemmas.List.Elements.{All-append, All-cons, All-nil}
use Rattle.std.specs.Prelude.{not, nat_lt, ◌&&◌, if◌then◌else◌, map, Option, None, Some}
use Rattle.std.specs.List.{concat}
use Rattle.data_types.specs.promise.FieldText.{Form, Truths, Wholes, FloatBits, Text, HexBytes, SizedHex, Decimals, form_of}
use Rattle.data_types.specs.Kinds.{KindOk}
use Rattle.data_types.specs.promise.Storage.{storage_of}
use Rattle.data_types.specs.promise.Value.{Value, Null, Truth, Whole, Bits, Bytes, Items, Fields, byte_total, bytes_of}
use Rattle.data_types.specs.declared.kind.DataType.{DataType}
use Rattle.col_build.specs.promise.Encoding.{are_within, is_wide, is_within}
use Rattle.col_build.specs.Encoding.{Fits, HasForm, are_bounded, fault_if, is_form, is_storable, is_text, push_fault}
use Rattle.col_build.specs.Holding.{HasBytes}
use Rattle.col_build.specs.Settled.{IsNarrow}
use Rattle.col_build.specs.Shapes.{between_fault, shape_fault, shape_in, text_fault}
use Rattle.col_build.specs.declared.item.PushFault.TheVariants.{WrongKind, OutOfRange, NotText}
use Rattle.col_build.specs.declared.shape.Shape.{Shape}
use Rattle.col_build.specs.declared.shape.Shape.TheVariants as shapes
use Rattle.col_build.proofs.OffsetBytes.{concat-push}
use Rattle.col_build.proofs.ShapeFacts.{fault-is, shape-same, shape_if}

-- ---- the bytes of all items

pub total-push : (values : List Value) (value : Value) → byte_total (values ++ value ∷ []) ≡ byte_total values + length (bytes_of value)
total-push values value =
    ap (λ (items : List (List ℕ)). length (concat items)) (map-append bytes_of values (value ∷ []))
    ∙ ap length (concat-push (map bytes_of values) (bytes_of value)) ∙ length-append (concat (map bytes_of values)) (bytes_of value)

-- what is between offsets is in memory
pub total-bounded : (wide : Bool) (form : Option Form) (values : List Value) (offsets bytes : List ℕ)
    → HasBytes (shape_if wide form) values offsets bytes → length bytes < 2 ^ 63
    → are_bounded form (byte_total values) ≡ true
total-bounded wide None values offsets bytes has small = refl
total-bounded wide (Some Truths) values offsets bytes has small = refl
total-bounded wide (Some (Wholes bits signed)) values offsets bytes has small = refl
total-bounded wide (Some (FloatBits bits)) values offsets bytes has small = refl
total-bounded wide (Some Text) values offsets bytes has small = lt-ltb (byte_total values) (2 ^ 63) (omega (arith, ap length has.1))
total-bounded wide (Some HexBytes) values offsets bytes has small = lt-ltb (byte_total values) (2 ^ 63) (omega (arith, ap length has.1))
total-bounded wide (Some (SizedHex size)) values offsets bytes has small = refl
total-bounded wide (Some (Decimals precision places)) values offsets bytes has small = refl

-- ---- what is taken behind others is taken alone

first : (text : Bool) (total : ℕ) (bytes : List ℕ) (reached : Bool) → nat_lt (total + length bytes) (2 ^ 31) ≡ reached
    → (if reached then text_fault text bytes else Some OutOfRange) ≡ None
    → between_fault false text 0 bytes ≡ None
first text total bytes true is taken =
    let alone : nat_lt (0 + length bytes) (2 ^ 31) ≡ true = grind (arith, nat_tests) in
    rw alone taken
first text total bytes false is taken = cc

alone : (shape : Shape) (total : ℕ) (value : Value) → shape_fault shape total value ≡ None → shape_fault shape 0 value ≡ None
alone shapes.Truths total Null taken = taken
alone shapes.Truths total (Truth t) taken = taken
alone shapes.Truths total (Whole n) taken = taken
alone shapes.Truths total (Bits n) taken = taken
alone shapes.Truths total (Bytes b) taken = taken
alone shapes.Truths total (Items vs) taken = taken
alone shapes.Truths total (Fields vs) taken = taken
alone (shapes.Wholes width signed) total Null taken = taken
alone (shapes.Wholes width signed) total (Truth t) taken = taken
alone (shapes.Wholes width signed) total (Whole n) taken = taken
alone (shapes.Wholes width signed) total (Bits n) taken = taken
alone (shapes.Wholes width signed) total (Bytes b) taken = taken
alone (shapes.Wholes width signed) total (Items vs) taken = taken
alone (shapes.Wholes width signed) total (Fields vs) taken = taken
alone (shapes.Floats width) total Null taken = taken
alone (shapes.Floats width) total (Truth t) taken = taken
alone (shapes.Floats width) total (Whole n) taken = taken
alone (shapes.Floats width) total (Bits n) taken = taken
alone (shapes.Floats width) total (Bytes b) taken = taken
alone (shapes.Floats width) total (Items vs) taken = taken
alone (shapes.Floats width) total (Fields vs) taken = taken
alone (shapes.Sized size) total Null taken = taken
alone (shapes.Sized size) total (Truth t) taken = taken
alone (shapes.Sized size) total (Whole n) taken = taken
alone (shapes.Sized size) total (Bits n) taken = taken
alone (shapes.Sized size) total (Bytes b) taken = taken
alone (shapes.Sized size) total (Items vs) taken = taken
alone (shapes.Sized size) total (Fields vs) taken = taken
alone (shapes.Between true text) total Null taken = taken
alone (shapes.Between true text) total (Truth t) taken = taken
alone (shapes.Between true text) total (Whole n) taken = taken
alone (shapes.Between true text) total (Bits n) taken = taken
alone (shapes.Between true text) total (Bytes b) taken = taken
alone (shapes.Between true text) total (Items vs) taken = taken
alone (shapes.Between true text) total (Fields vs) taken = taken
alone (shapes.Between false text) total Null taken = taken
alone (shapes.Between false text) total (Truth t) taken = taken
alone (shapes.Between false text) total (Whole n) taken = taken
alone (shapes.Between false text) total (Bits n) taken = taken
alone (shapes.Between false text) total (Bytes b) taken = first text total b (nat_lt (total + length b) (2 ^ 31)) refl taken
alone (shapes.Between false text) total (Items vs) taken = taken
alone (shapes.Between false text) total (Fields vs) taken = taken

pub taken-alone : (kind : DataType) (values : List Value) (value : Value) → KindOk kind → HasForm (form_of kind) → push_fault kind values value ≡ None
    → push_fault kind [] value ≡ None
taken-alone kind values value ok flat taken =
    fault-is kind [] value ok flat ∙ alone (shape_in (storage_of kind)) (byte_total values) value (sym (fault-is kind values value ok flat) ∙ taken)

-- ---- the offsets reach

reached : (is storable near text : Bool)
    → (if not is then Some WrongKind else if not (storable && near) then Some OutOfRange else if not text then Some NotText else None) ≡ None → near ≡ true
reached false storable near text taken = cc
reached true false near text taken = cc
reached true true false text taken = cc
reached true true true text taken = refl

within-form : (wide : Bool) (form : Form) (values : List Value) (value : Value) → is_within wide form (byte_total values) ≡ true
    → fault_if wide (Some form) values value ≡ None
    → is_within wide form (byte_total values + length (bytes_of value)) ≡ true
within-form wide form values Null small taken = rw add-zero small
within-form wide form values (Truth t) small taken =
    reached (is_form form (Truth t)) (is_storable form (Truth t)) (is_within wide form (byte_total values + 0)) (is_text form (Truth t)) taken
within-form wide form values (Whole n) small taken =
    reached (is_form form (Whole n)) (is_storable form (Whole n)) (is_within wide form (byte_total values + 0)) (is_text form (Whole n)) taken
within-form wide form values (Bits n) small taken =
    reached (is_form form (Bits n)) (is_storable form (Bits n)) (is_within wide form (byte_total values + 0)) (is_text form (Bits n)) taken
within-form wide form values (Bytes b) small taken =
    reached (is_form form (Bytes b)) (is_storable form (Bytes b)) (is_within wide form (byte_total values + length b)) (is_text form (Bytes b)) taken
within-form wide form values (Items vs) small taken =
    reached (is_form form (Items vs)) (is_storable form (Items vs)) (is_within wide form (byte_total values + 0)) (is_text form (Items vs)) taken
within-form wide form values (Fields vs) small taken =
    reached (is_form form (Fields vs)) (is_storable form (Fields vs)) (is_within wide form (byte_total values + 0)) (is_text form (Fields vs)) taken

pub within-kind : (wide : Bool) (form : Option Form) (values : List Value) (value : Value) → are_within wide form (byte_total values) ≡ true
    → fault_if wide form values value ≡ None
    → are_within wide form (byte_total (values ++ value ∷ [])) ≡ true
within-kind wide None values value small taken = refl
within-kind wide (Some form) values value small taken = ap (is_within wide form) (total-push values value) ∙ within-form wide form values value small taken

-- between narrow offsets there are fewer bytes than they reach
pub narrow-within : (wide : Bool) (form : Option Form) (text : Bool) (total : ℕ) → shape_if wide form ≡ shapes.Between false text
    → are_within wide form total ≡ true → total < 2 ^ 31
narrow-within wide None text total is within = cc
narrow-within wide (Some Truths) text total is within = cc
narrow-within wide (Some (Wholes bits signed)) text total is within = cc
narrow-within wide (Some (FloatBits bits)) text total is within = cc
narrow-within true (Some Text) text total is within = cc
narrow-within false (Some Text) text total is within = grind (arith, nat_tests, within)
narrow-within true (Some HexBytes) text total is within = cc
narrow-within false (Some HexBytes) text total is within = grind (arith, nat_tests, within)
narrow-within wide (Some (SizedHex size)) text total is within = cc
narrow-within wide (Some (Decimals precision places)) text total is within = cc

-- how many bytes there are at most between narrow offsets
pub narrow-small : (kind : DataType) (values : List Value) (shape : Shape) → shape ≡ shape_in (storage_of kind) → IsNarrow shape → Fits kind values
    → byte_total values < 2 ^ 31
narrow-small kind values shape is narrow fits =
    narrow-within (is_wide kind) (form_of kind) narrow.0 (byte_total values) (sym (shape-same kind fits.flat) ∙ sym is ∙ narrow.1) fits.small

within-none : (wide : Bool) (form : Option Form) → are_within wide form 0 ≡ true
within-none wide None = refl
within-none true (Some form) = refl
within-none false (Some Truths) = refl
within-none false (Some (Wholes bits signed)) = refl
within-none false (Some (FloatBits bits)) = refl
within-none false (Some Text) = refl
within-none false (Some HexBytes) = refl
within-none false (Some (SizedHex size)) = refl
within-none false (Some (Decimals precision places)) = refl

-- ---- columns that fit

bounded-none : (form : Option Form) → are_bounded form 0 ≡ true
bounded-none None = refl
bounded-none (Some Truths) = refl
bounded-none (Some (Wholes bits signed)) = refl
bounded-none (Some (FloatBits bits)) = refl
bounded-none (Some Text) = refl
bounded-none (Some HexBytes) = refl
bounded-none (Some (SizedHex size)) = refl
bounded-none (Some (Decimals precision places)) = refl

pub fits-none : (kind : DataType) → KindOk kind → HasForm (form_of kind) → Fits kind []
fits-none kind ok flat = record {
  kind_ok = ok;
  flat = flat;
  few = omega arith;
  each = All-nil (λ value. push_fault kind [] value ≡ None);
  small = within-none (is_wide kind) (form_of kind);
  bounded = bounded-none (form_of kind);
}

pub fits-more : (kind : DataType) (values : List Value) (value : Value) → Fits kind values → push_fault kind values value ≡ None → length values < 2 ^ 40
    → are_bounded (form_of kind) (byte_total (values ++ value ∷ [])) ≡ true
    → Fits kind (values ++ value ∷ [])
fits-more kind values value fits taken few bounded = record {
  kind_ok = fits.kind_ok;
  flat = fits.flat;
  few = omega (arith, length-append values (value ∷ []));
  each = All-append (λ v. push_fault kind [] v ≡ None) values (value ∷ []) fits.each
      (All-cons (λ v. push_fault kind [] v ≡ None) value [] (taken-alone kind values value fits.kind_ok fits.flat taken)
      (All-nil (λ v. push_fault kind [] v ≡ None)));
  small = within-kind (is_wide kind) (form_of kind) values value fits.small taken;
  bounded = bounded;
}
