-- The blocks of the chunk of rows are those of a source's chunk: a block for each buffer that is there.
use Rattle.std.proofs.Common.{◌≡◌, ◌≤◌, ◌<◌, ◌+◌, ◌++◌, ◌∙◌, ℕ, zero, suc, Bool, true, false, List, [], ◌∷◌, length, map, get_or, All, Option, None, Some}
use Rattle.std.proofs.Common.{refl, sym, ap, subst, arith, inl, inr}
use Rattle.std.proofs.lemmas.Bool.{cases_Bool, eqb-true}
use Rattle.std.proofs.lemmas.List.{length-replicate}
use Rattle.std.proofs.lemmas.List.Elements.{recursion_from_All}
use Rattle.std.specs.Prelude.{◌⊎◌, ◌==◌, ◌/◌, not}
use Rattle.std.specs.List.{AllByRecursion, concat, flat_map, list_any}
use Rattle.data_types.specs.promise.Packed.{le_bytes, stored}
use Rattle.col_build.specs.promise.Encoding.{bit_bytes, buffers_if, if_some, is_set, is_wide, null_total, stored_item, validity_of}
use Rattle.col_build.specs.promise.Finished.{blocks_of, present_count}
use Rattle.csv_read.specs.Body.{column_values}
use Rattle.csv_read.specs.Chunks.{blocks_from, chunk_blocks, column_blocks}
use Rattle.data_types.specs.promise.FieldText.{Form, Truths, Wholes, FloatBits, Text, HexBytes, SizedHex, Decimals}
use Rattle.data_types.specs.FieldText.{IsFlatKind, IsOfSome, IsSomeFlat, IsValueOf}
use Rattle.data_types.specs.promise.FieldText.{form_of}
use Rattle.data_types.specs.promise.Table.{Column, Kind, Flat, Row}
use Rattle.data_types.specs.promise.Value.{Value, Null, Truth, Whole, Bits, Bytes, Items, Fields, bytes_of, is_null}
use Rattle.data_types.specs.declared.kind.DataType.{DataType}
use Rattle.stage_model.specs.promise.Traffic.{Made, blocks_from as made_from, flat_blocks, form_blocks, kind_blocks, made_blocks, one_if_any, validity_blocks}
use Rattle.stream_face.specs.Lawful.{AreItems, AreValues, IsTable}
use Rattle.csv_source.proofs.PlainKinds.{IsPlain}

-- ---- the validity bitmap

not-zero : (n : ℕ) → (1 + n == 0) ≡ false
not-zero n = elim (cases_Bool (1 + n == 0)) [
  | inl same ↦ absurd (omega (arith, eqb-true (1 + n) 0 same))
  | inr other ↦ other
]

nulls : (values : List Value) → (null_total values == 0) ≡ not (list_any is_null values)
nulls [] = refl
nulls (Null ∷ values) = not-zero (null_total values)
nulls (Truth truth ∷ values) = nulls values
nulls (Whole number ∷ values) = nulls values
nulls (Bits number ∷ values) = nulls values
nulls (Bytes bytes ∷ values) = nulls values
nulls (Items items ∷ values) = nulls values
nulls (Fields fields ∷ values) = nulls values

validity-count : (values : List Value) (rest : List (Option (List ℕ))) → present_count (validity_of values ∷ rest) ≡ validity_blocks values + present_count rest
validity-count values rest = elim (cases_Bool (list_any is_null values)) [
  | inl any ↦ let e : (null_total values == 0) ≡ false = nulls values ∙ ap not any in rw (e, any) refl
  | inr none ↦ let e : (null_total values == 0) ≡ true = nulls values ∙ ap not none in rw (e, none) (omega arith)
]

-- ---- a buffer of items

some-count : (bytes : List ℕ) → present_count (if_some bytes ∷ []) ≡ one_if_any bytes
some-count [] = refl
some-count (byte ∷ bytes) = refl

bits-some : (a : Bool) (flags : List Bool) → one_if_any (bit_bytes (a ∷ flags)) ≡ 1
bits-some a [] = refl
bits-some a (b ∷ []) = refl
bits-some a (b ∷ c ∷ []) = refl
bits-some a (b ∷ c ∷ d ∷ []) = refl
bits-some a (b ∷ c ∷ d ∷ e ∷ []) = refl
bits-some a (b ∷ c ∷ d ∷ e ∷ f ∷ []) = refl
bits-some a (b ∷ c ∷ d ∷ e ∷ f ∷ g ∷ []) = refl
bits-some a (b ∷ c ∷ d ∷ e ∷ f ∷ g ∷ h ∷ flags) = refl

bits-any : (values : List Value) → one_if_any (bit_bytes (map is_set values)) ≡ one_if_any values
bits-any [] = refl
bits-any (value ∷ values) = bits-some (is_set value) (map is_set values)

any-front : (first rest : List ℕ) → 1 ≤ length first → one_if_any (first ++ rest) ≡ 1
any-front [] rest some = absurd (omega (arith, some))
any-front (byte ∷ first) rest some = refl

-- ---- the bytes of items, form by form
-- null, or a value of the form
abbrev IsOrNull : Option Form → Value → Type 0
IsOrNull form Null = Unit {0}
IsOrNull form value = IsOfSome form value

or-null : (kind : DataType) (value : Value) → IsValueOf kind value → IsOrNull (form_of kind) value
or-null kind Null is = tt
or-null kind (Truth truth) is = is
or-null kind (Whole number) is = is
or-null kind (Bits number) is = is
or-null kind (Bytes bytes) is = is
or-null kind (Items items) is = is
or-null kind (Fields fields) is = is

all-or-null : (kind : DataType) (values : List Value) → AllByRecursion (IsValueOf kind) values → AllByRecursion (IsOrNull (form_of kind)) values
all-or-null kind [] are = tt
all-or-null kind (value ∷ values) are = (or-null kind value are.0, all-or-null kind values are.1)

items-any : (form : Option Form) (width : ℕ) (values : List Value) → ((value : Value) → IsOrNull form value → 1 ≤ length (stored_item width value))
    → AllByRecursion (IsOrNull form) values → one_if_any (flat_map (stored_item width) values) ≡ one_if_any values
items-any form width [] some are = refl
items-any form width (value ∷ values) some are = any-front (stored_item width value) (flat_map (stored_item width) values) (some value are.0)

number-some : (width number : ℕ) → 1 ≤ width → 1 ≤ length (le_bytes width number)
number-some zero number wide = absurd (omega (arith, wide))
number-some (suc width) number wide = omega arith

zeros-some : (width : ℕ) → 1 ≤ width → 1 ≤ length (stored_item width Null)
zeros-some width wide = omega (arith, wide, length-replicate {A = ℕ} width 0)

whole-some : (bits : ℕ) (signed : Bool) (width : ℕ) → 1 ≤ width → (value : Value) → IsOrNull (Some (Wholes bits signed)) value
    → 1 ≤ length (stored_item width value)
whole-some bits signed width wide Null is = zeros-some width wide
whole-some bits signed width wide (Whole number) is = number-some width (stored width number) wide
whole-some bits signed width wide (Truth truth) is = absurd is
whole-some bits signed width wide (Bits number) is = absurd is
whole-some bits signed width wide (Bytes bytes) is = absurd is
whole-some bits signed width wide (Items items) is = absurd is
whole-some bits signed width wide (Fields fields) is = absurd is

decimal-some : (precision places : ℕ) (width : ℕ) → 1 ≤ width → (value : Value) → IsOrNull (Some (Decimals precision places)) value
    → 1 ≤ length (stored_item width value)
decimal-some precision places width wide Null is = zeros-some width wide
decimal-some precision places width wide (Whole number) is = number-some width (stored width number) wide
decimal-some precision places width wide (Truth truth) is = absurd is
decimal-some precision places width wide (Bits number) is = absurd is
decimal-some precision places width wide (Bytes bytes) is = absurd is
decimal-some precision places width wide (Items items) is = absurd is
decimal-some precision places width wide (Fields fields) is = absurd is

float-some : (bits width : ℕ) → 1 ≤ width → (value : Value) → IsOrNull (Some (FloatBits bits)) value → 1 ≤ length (stored_item width value)
float-some bits width wide Null is = zeros-some width wide
float-some bits width wide (Bits number) is = number-some width number wide
float-some bits width wide (Whole number) is = absurd is
float-some bits width wide (Truth truth) is = absurd is
float-some bits width wide (Bytes bytes) is = absurd is
float-some bits width wide (Items items) is = absurd is
float-some bits width wide (Fields fields) is = absurd is

-- ---- items of one size
sized-length : (size : ℕ) (value : Value) → IsOrNull (Some (SizedHex size)) value → length (stored_item size value) ≡ size
sized-length size Null is = length-replicate {A = ℕ} size 0
sized-length size (Bytes bytes) is = is.0
sized-length size (Bits number) is = absurd is
sized-length size (Whole number) is = absurd is
sized-length size (Truth truth) is = absurd is
sized-length size (Items items) is = absurd is
sized-length size (Fields fields) is = absurd is

none-front : (first rest : List ℕ) → length first ≡ 0 → one_if_any (first ++ rest) ≡ one_if_any rest
none-front [] rest none = refl
none-front (byte ∷ first) rest none = absurd (omega (arith, none))

sized-none : (size : ℕ) (values : List Value) → size ≡ 0 → AllByRecursion (IsOrNull (Some (SizedHex size))) values
    → one_if_any (flat_map (stored_item size) values) ≡ 0
sized-none size [] none are = refl
sized-none size (value ∷ values) none are =
    none-front (stored_item size value) (flat_map (stored_item size) values) (sized-length size value are.0 ∙ none) ∙ sized-none size values none are.1

sized-blocks : (size : ℕ) (values : List Value) → AllByRecursion (IsOrNull (Some (SizedHex size))) values
    → one_if_any (flat_map (stored_item size) values) ≡ form_blocks (Some (SizedHex size)) values
sized-blocks size values are = elim (cases_Bool (size == 0)) [
  | inl none ↦ rw none (sized-none size values (eqb-true size 0 none) are)
  | inr some ↦ rw some (items-any (Some (SizedHex size)) size values
      (λ value is. omega (arith, sized-length size value is, not-none size some)) are)
]
  where
    not-none : (n : ℕ) → (n == 0) ≡ false → 1 ≤ n
    not-none zero other = absurd (cc)
    not-none (suc n) other = omega arith

whole-width : (bits : ℕ) → ((bits ≡ 8) ⊎ (bits ≡ 16) ⊎ (bits ≡ 32) ⊎ (bits ≡ 64)) → 1 ≤ bits / 8
whole-width bits (inl e) = subst (λ (n : ℕ). 1 ≤ n / 8) (sym e) (omega arith)
whole-width bits (inr (inl e)) = subst (λ (n : ℕ). 1 ≤ n / 8) (sym e) (omega arith)
whole-width bits (inr (inr (inl e))) = subst (λ (n : ℕ). 1 ≤ n / 8) (sym e) (omega arith)
whole-width bits (inr (inr (inr e))) = subst (λ (n : ℕ). 1 ≤ n / 8) (sym e) (omega arith)

float-width : (bits : ℕ) → ((bits ≡ 16) ⊎ (bits ≡ 32) ⊎ (bits ≡ 64)) → 1 ≤ bits / 8
float-width bits (inl e) = subst (λ (n : ℕ). 1 ≤ n / 8) (sym e) (omega arith)
float-width bits (inr (inl e)) = subst (λ (n : ℕ). 1 ≤ n / 8) (sym e) (omega arith)
float-width bits (inr (inr e)) = subst (λ (n : ℕ). 1 ≤ n / 8) (sym e) (omega arith)

-- ---- one column

-- a validity bitmap and a buffer of items
two-buffers : (values : List Value) (bytes : List ℕ) (blocks : ℕ) → one_if_any bytes ≡ blocks
    → present_count (validity_of values ∷ if_some bytes ∷ []) ≡ validity_blocks values + blocks
two-buffers values bytes blocks is = validity-count values (if_some bytes ∷ []) ∙ ap (λ (n : ℕ). validity_blocks values + n) (some-count bytes ∙ is)

-- and offsets between them
three-buffers : (values : List Value) (offsets bytes : List ℕ)
    → present_count (validity_of values ∷ Some offsets ∷ if_some bytes ∷ []) ≡ validity_blocks values + (1 + one_if_any bytes)
three-buffers values offsets bytes =
    validity-count values (Some offsets ∷ if_some bytes ∷ []) ∙ ap (λ (n : ℕ). validity_blocks values + (1 + n)) (some-count bytes)

form-count : (wide : Bool) (form : Option Form) (values : List Value) → IsSomeFlat form → AllByRecursion (IsOrNull form) values
    → present_count (buffers_if wide form values) ≡ validity_blocks values + form_blocks form values
form-count wide None values flat are = absurd flat
form-count wide (Some Truths) values flat are = two-buffers values (bit_bytes (map is_set values)) (one_if_any values) (bits-any values)
form-count wide (Some (Wholes bits signed)) values flat are = two-buffers values (flat_map (stored_item (bits / 8)) values) (one_if_any values)
    (items-any (Some (Wholes bits signed)) (bits / 8) values (whole-some bits signed (bits / 8) (whole-width bits flat)) are)
form-count wide (Some (FloatBits bits)) values flat are = two-buffers values (flat_map (stored_item (bits / 8)) values) (one_if_any values)
    (items-any (Some (FloatBits bits)) (bits / 8) values (float-some bits (bits / 8) (float-width bits flat)) are)
form-count wide (Some Text) values flat are = three-buffers values _ (concat (map bytes_of values))
form-count wide (Some HexBytes) values flat are = three-buffers values _ (concat (map bytes_of values))
form-count wide (Some (SizedHex size)) values flat are = two-buffers values (flat_map (stored_item size) values) (form_blocks (Some (SizedHex size)) values)
    (sized-blocks size values are)
form-count wide (Some (Decimals precision places)) values flat are = two-buffers values (flat_map (stored_item 16) values) (one_if_any values)
    (items-any (Some (Decimals precision places)) 16 values (decimal-some precision places 16 (omega arith)) are)

flat-count : (kind : DataType) (values : List Value) → IsFlatKind kind → AllByRecursion (IsValueOf kind) values
    → blocks_of kind values ≡ flat_blocks kind values
flat-count kind values flat are = form-count (is_wide kind) (form_of kind) values flat (all-or-null kind values are)

column-count : (kind : Kind) (type : DataType) (values : List Value) → kind ≡ Flat type → IsFlatKind type → AllByRecursion (IsValueOf type) values
    → column_blocks kind values ≡ kind_blocks Made kind values
column-count kind type values is flat are =
    subst (λ (k : Kind). column_blocks k values ≡ kind_blocks Made k values) (sym is) (flat-count type values flat are)

-- ---- all columns

record HasValues (place : ℕ) (rows : List Row) (column : Column) : Type 0 where
  plain : IsPlain column
  values : AllByRecursion (IsValueOf plain.kind) (column_values place rows)

from-count : (place : ℕ) (columns : List Column) (rows : List Row)
    → ((j : ℕ) (d : Column) → j < length columns → HasValues (place + j) rows (get_or columns j d))
    → blocks_from place columns rows ≡ made_from Made place columns rows
from-count place [] rows have = refl
from-count place (c ∷ cs) rows have =
    let first : HasValues place rows c = subst (λ (n : ℕ). HasValues n rows c) (omega arith) (have 0 c (omega arith)) in
    let here = column-count c.kind first.plain.kind (column_values place rows) first.plain.is first.plain.flat first.values in
    let rest = from-count (place + 1) cs rows
    (λ j d small. subst (λ (n : ℕ). HasValues n rows (get_or cs j d)) (omega arith) (have (suc j) d (omega (arith, small)))) in
    omega (arith, here, rest)

pub blocks-are : (columns : List Column) (rows : List Row) → All IsPlain columns → IsTable columns rows
    → chunk_blocks columns rows ≡ made_blocks None columns rows
blocks-are columns rows plain table = from-count 0 columns rows (λ j d small.
    let here = plain j d small in
    let items : AreValues here.kind (column_values j rows) = subst (λ (k : Kind). AreItems k (column_values j rows)) here.is (table.items j d small) in
    subst (λ (n : ℕ). HasValues n rows (get_or columns j d)) (omega arith)
    (record { plain = here; values = recursion_from_All (IsValueOf here.kind) (column_values j rows) items.0 }))
