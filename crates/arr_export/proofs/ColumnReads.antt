-- The encoding of each type is read back.
use Rattle.std.proofs.Common.{◌≡◌, ◌∙◌, ℕ, ◌*◌, ◌/◌, ◌^◌, ◌<◌, ◌⊎◌, inl, inr, ℤ, pos, Bool, true, false, not, List, [], ◌∷◌, length, map, get_or, refl, sym, ap}
use Rattle.std.proofs.Common.{subst, arith, Option, None, Some}
use Rattle.std.specs.Prelude.{if◌then◌else◌, nat_lt, ◌&&◌}
use Rattle.std.specs.List.{All, concat}
use Rattle.std.specs.Str.{is_utf8}
use Rattle.std.specs.Str.Lossy.{utf8_valid_len}
use Rattle.raw_array.specs.promise.Members.{ArrayMembers, Buffer}
use Rattle.data_types.specs.Packed.{IsWidth}
use Rattle.data_types.specs.promise.FieldText.{Form, Truths, Wholes, FloatBits, Text, HexBytes, SizedHex, Decimals, form_of, places, stored_form}
use Rattle.std.proofs.lemmas.Bool.{ltb-true}
use Rattle.data_types.specs.promise.Value.{Value, Null, Truth, Whole, Bytes}
use Rattle.data_types.specs.declared.kind.DataType.{DataType}
use Rattle.data_types.specs.declared.kind.DataType.TheVariants as kinds
use Rattle.data_types.specs.declared.storage.Storage.{Storage}
use Rattle.data_types.specs.declared.storage.Storage.TheVariants as stored
use Rattle.data_types.specs.promise.Storage.{storage_of}
use Rattle.col_build.proofs.ShapeFacts.{FormOk, form-ok}
use Rattle.col_build.specs.promise.Encoding.{buffers_if, encoded, in_place as in_place_bytes, is_by_offsets, is_wide, is_within}
use Rattle.data_types.specs.promise.Value.{bytes_of, is_null}
use Rattle.col_build.specs.Encoding.{Fits, HasForm, fault_if}
use Rattle.col_build.specs.promise.Encoding.{stored_item}
use Rattle.layout_rules.specs.promise.Layout.{bytes, data_of, is_valid, laid_out, layout_of, stored_number}
use Rattle.layout_rules.specs.promise.Rules.{texts_wrong}
use Rattle.layout_rules.specs.Rules.{not_text}
use Rattle.layout_rules.specs.promise.Values.{stored_item as stored_value}
use Rattle.layout_rules.specs.Values.{item}
use Rattle.layout_rules.specs.declared.layout.Layout.{Layout}
use Rattle.layout_rules.specs.declared.layout.Layout.TheVariants.{FixedWidth}
use Rattle.arr_export.specs.promise.ArrayTrees.{made_buffers, made_if}
use Rattle.col_build.specs.promise.Encoding.{validity_of}
use Rattle.arr_export.proofs.Layouts.{as_bits, bit-there, bits-ok, by_offsets, data-there, fixed-ok, in_place, number-stored, offsets-ok, stored-there}
use Rattle.arr_export.proofs.NodeRules.{BuffersOk, below-none, no-fault}
use Rattle.arr_export.proofs.Nulls.{own, valid-at}
use Rattle.arr_export.proofs.Offsets.{limit}
use Rattle.arr_export.proofs.Taken.{binary-is, bits-is, decimal-is, sized-bytes, sized-is, sized-number, taken, text-is, truth-is, whole-is}

-- the buffers of a column meet the rules, and its items are the values
pub record Reads (kind : DataType) (values : List Value) : Type 0 where
  pub rest : List (Option Buffer)
  pub is : made_buffers (encoded kind values).buffers ≡ made_if (validity_of values) ∷ rest
  pub ok : BuffersOk (layout_of kind) (own values rest)
  pub texts : texts_wrong kind (own values rest) ≡ None
  pub item_is : (i : ℕ) → i < length values → is_null (get_or values i Null) ≡ false → item kind [] (own values rest) [] i ≡ get_or values i Null

-- ---- whole numbers

module _ (kind : DataType) (bits width : ℕ) (signed : Bool) (values : List Value) (form : form_of kind ≡ Some (Wholes bits signed))
    (layout : layout_of kind ≡ FixedWidth width)
    (exact : bits ≡ 8 * width) (some : IsWidth width)
    (read : (members : ArrayMembers) (i : ℕ) → item kind [] members [] i ≡ Whole (stored_number width signed members i))
    (plain : (members : ArrayMembers) → texts_wrong kind members ≡ None) (fits : Fits kind values) where
  each-taken : (k : ℕ) (d : Value) → k < length values → fault_if (is_wide kind) (Some (Wholes (8 * width) signed)) [] (get_or values k d) ≡ None
  each-taken k d lt =
      subst (λ (f : Option Form). fault_if (is_wide kind) f [] (get_or values k d) ≡ None)
      (form ∙ ap (λ (n : ℕ). Some (Wholes n signed)) exact) (fits.each k d lt)

  sized : All (λ value. length (stored_item width value) ≡ width) values
  sized k d lt = sized-number (is_wide kind) (Wholes (8 * width) signed) width (λ _. refl) (get_or values k d) (each-taken k d lt)

  bytes-each : bits / 8 ≡ width
  bytes-each = omega (arith, exact)

  pub whole-reads : Reads kind values
  whole-reads = record {
    rest = in_place width values;
    is = ap (λ (f : Option Form). made_buffers (buffers_if (is_wide kind) f values)) form ∙ ap (λ (n : ℕ). made_buffers (in_place_bytes n values)) bytes-each;
    ok = subst (λ (l : Layout). BuffersOk l (own values (in_place width values))) (sym layout) (fixed-ok width values sized);
    texts = plain (own values (in_place width values));
    item_is = λ i lt valid.
        read (own values (in_place width values)) i
        ∙ whole-is width signed (get_or values i Null) _ some (taken (is_wide kind) (Wholes (8 * width) signed) (get_or values i Null) (each-taken i Null lt)
        valid) (λ number. number-stored width values sized i number lt);
  }

-- whole numbers, or what has no form
abbrev AreWholes : Storage → Type 0
AreWholes stored.Truths = ⊥
AreWholes (stored.Floats bits) = ⊥
AreWholes (stored.Sized size) = ⊥
AreWholes (stored.Between wide text) = ⊥
AreWholes _ = Unit {0}

wholes-read : (kind : DataType) (values : List Value) (storage : Storage) → storage_of kind ≡ storage → form_of kind ≡ stored_form storage → AreWholes storage
    → ((members : ArrayMembers) → texts_wrong kind members ≡ None) → Fits kind values → Reads kind values
wholes-read kind values (stored.Wholes bits signed) is form wholes plain fits =
    let ok : FormOk (Some (Wholes bits signed)) = subst FormOk form (form-ok kind fits.kind_ok) in
    whole-reads kind bits (bits / 8) signed values form (ap laid_out is) (sym ok.0) ok.1
    (λ members i. ap (λ (s : Storage). stored_value s [] members [] i) is) plain fits
wholes-read kind values stored.Truths is form wholes plain fits = absurd wholes
wholes-read kind values (stored.Floats bits) is form wholes plain fits = absurd wholes
wholes-read kind values (stored.Sized size) is form wholes plain fits = absurd wholes
wholes-read kind values (stored.Between wide text) is form wholes plain fits = absurd wholes
wholes-read kind values storage is form wholes plain fits = absurd (subst HasForm form fits.flat)

-- ---- floats, decimals, bytes of one size

float-width : (bits : ℕ) → (bits ≡ 16) ⊎ (bits ≡ 32) ⊎ (bits ≡ 64) → bits ≡ 8 * (bits / 8)
float-width bits (inl e) = omega (arith, e)
float-width bits (inr (inl e)) = omega (arith, e)
float-width bits (inr (inr e)) = omega (arith, e)

module _ (bits : ℕ) (values : List Value) (fits : Fits (kinds.Float bits) values) where
  float-taken : (k : ℕ) (d : Value) → k < length values → fault_if false (Some (FloatBits (8 * (bits / 8)))) [] (get_or values k d) ≡ None
  float-taken k d lt = subst (λ (n : ℕ). fault_if false (Some (FloatBits n)) [] (get_or values k d) ≡ None) (float-width bits fits.kind_ok) (fits.each k d lt)

  float-sized : All (λ value. length (stored_item (bits / 8) value) ≡ bits / 8) values
  float-sized k d lt = sized-number false (FloatBits (8 * (bits / 8))) (bits / 8) (λ _. refl) (get_or values k d) (float-taken k d lt)

  float-reads : Reads (kinds.Float bits) values
  float-reads = record {
    rest = in_place (bits / 8) values;
    is = refl;
    ok = fixed-ok (bits / 8) values float-sized;
    texts = refl;
    item_is = λ i lt valid.
        bits-is (bits / 8) (get_or values i Null) _ (taken false (FloatBits (8 * (bits / 8))) (get_or values i Null) (float-taken i Null lt) valid)
        (λ number. number-stored (bits / 8) values float-sized i number lt);
  }

module _ (size : ℕ) (values : List Value) (fits : Fits (kinds.FixedBinary size) values) where
  bytes-sized : All (λ value. length (stored_item size value) ≡ size) values
  bytes-sized k d lt = sized-bytes false size (get_or values k d) (fits.each k d lt)

  fixed-reads : Reads (kinds.FixedBinary size) values
  fixed-reads = record {
    rest = in_place size values;
    is = refl;
    ok = fixed-ok size values bytes-sized;
    texts = refl;
    item_is = λ i lt valid.
        sized-is size (get_or values i Null) _ (taken false (SizedHex size) (get_or values i Null) (fits.each i Null lt) valid)
        (stored-there size values bytes-sized i lt);
  }

-- ---- truth values

truth-reads : (values : List Value) → Fits kinds.Bool values → Reads kinds.Bool values
truth-reads values fits = record {
  rest = as_bits values;
  is = refl;
  ok = bits-ok values;
  texts = refl;
  item_is = λ i lt valid. truth-is (get_or values i Null) _ (taken false Truths (get_or values i Null) (fits.each i Null lt) valid) (bit-there values i lt);
}

-- ---- bytes and texts between offsets

within : (wide : Bool) (form : Form) (total : ℕ) → is_by_offsets form ≡ true → is_within wide form total ≡ true
    → (if is_by_offsets form then nat_lt total (2 ^ 63) else true) ≡ true → total < limit wide
within false form total is small bounded = ltb-true total (2 ^ 31) (subst (λ b. (if b then nat_lt total (2 ^ 31) else true) ≡ true) is small)
within true form total is small bounded = ltb-true total (2 ^ 63) (subst (λ b. (if b then nat_lt total (2 ^ 63) else true) ≡ true) is bounded)

binary-reads : (wide : Bool) (values : List Value) → Fits (kinds.Binary wide) values → Reads (kinds.Binary wide) values
binary-reads wide values fits =
    let small = within wide HexBytes (length (concat (map bytes_of values))) refl fits.small fits.bounded in
    record {
      rest = by_offsets wide values;
      is = refl;
      ok = offsets-ok wide values small;
      texts = refl;
      item_is = λ i lt valid. binary-is (get_or values i Null) _ (taken wide HexBytes (get_or values i Null) (fits.each i Null lt) valid)
          (data-there wide values small i lt);
    }

-- the bytes of a value that a column of texts takes are text where it isn't null
text-or-null : (wide : Bool) (value : Value) → fault_if wide (Some Text) [] value ≡ None → (not (is_null value) && not (is_utf8 (bytes_of value))) ≡ false
text-or-null wide Null e = refl
text-or-null wide (Bytes bytes) e = ap not (taken wide Text (Bytes bytes) e refl).text
text-or-null wide (Truth truth) e = absurd (cc ((taken wide Text (Truth truth) e refl).form_ok))
text-or-null wide value e = absurd (cc ((taken wide Text value e refl).form_ok))

texts-reads : (wide : Bool) (values : List Value) → Fits (kinds.Utf8 wide) values → Reads (kinds.Utf8 wide) values
texts-reads wide values fits =
    let small = within wide Text (length (concat (map bytes_of values))) refl fits.small fits.bounded in
    let members = own values (by_offsets wide values) in
    record {
      rest = by_offsets wide values;
      is = refl;
      ok = offsets-ok wide values small;
      texts = below-none (not_text wide members) (length values) (λ i lt.
          no-fault (is_valid members i && not (is_utf8 (data_of wide members i))) i (pos (utf8_valid_len (data_of wide members i)))
          (pos (length (data_of wide members i)))
          (ap (λ (valid : Bool). valid && not (is_utf8 (data_of wide members i))) (valid-at values (by_offsets wide values) i lt)
          ∙ ap (λ (text : List ℕ). not (is_null (get_or values i Null)) && not (is_utf8 text)) (data-there wide values small i lt)
          ∙ text-or-null wide (get_or values i Null) (fits.each i Null lt)));
      item_is = λ i lt valid. text-is (get_or values i Null) _ (taken wide Text (get_or values i Null) (fits.each i Null lt) valid)
          (data-there wide values small i lt);
    }

module _ (precision : ℕ) (scale : ℤ) (values : List Value) (fits : Fits (kinds.Decimal precision scale false) values) where
  decimal-sized : All (λ value. length (stored_item 16 value) ≡ 16) values
  decimal-sized k d lt = sized-number false (Decimals precision (places scale)) 16 (λ _. refl) (get_or values k d) (fits.each k d lt)

  decimal-reads : Reads (kinds.Decimal precision scale false) values
  decimal-reads = record {
    rest = in_place 16 values;
    is = refl;
    ok = fixed-ok 16 values decimal-sized;
    texts = refl;
    item_is = λ i lt valid.
        decimal-is precision (places scale) (get_or values i Null) _
        (taken false (Decimals precision (places scale)) (get_or values i Null) (fits.each i Null lt) valid)
        (λ number. number-stored 16 values decimal-sized i number lt);
  }

-- ---- each type

pub reads : (kind : DataType) (values : List Value) → Fits kind values → Reads kind values
reads kinds.Bool values fits = truth-reads values fits
reads (kinds.Float bits) values fits = float-reads bits values fits
reads (kinds.Binary wide) values fits = binary-reads wide values fits
reads (kinds.Utf8 wide) values fits = texts-reads wide values fits
reads (kinds.FixedBinary size) values fits = fixed-reads size values fits
reads (kinds.Decimal precision scale false) values fits = decimal-reads precision scale values fits
reads (kinds.Decimal precision scale true) values fits = absurd fits.flat
reads kinds.IntervalDayTime values fits = absurd fits.flat
reads kinds.IntervalMonthDayNano values fits = absurd fits.flat
reads kinds.Utf8View values fits = absurd fits.flat
reads kind values fits = wholes-read kind values (storage_of kind) refl refl tt (λ _. refl) fits
