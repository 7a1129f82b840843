-- The bytes of a column of texts are UTF-8, since each text is.
use Rattle.std.proofs.Common.{◌≡◌, ◌∙◌, ◌+◌, Bool, true, false, List, [], ◌∷◌, length, refl, sym, subst}
use Rattle.std.specs.Prelude.{not, ◌&&◌, if◌then◌else◌, map, Option, None, Some, All, IsUtf8}
use Rattle.std.specs.List.{concat}
use Rattle.std.specs.Str.{is_utf8}
use Rattle.std.proofs.lemmas.List.Elements.{All-head, All-tail}
use Rattle.std.proofs.lemmas.Str.{IsUtf8-append, IsUtf8-nil, IsUtf8-from_is_utf8}
use Rattle.data_types.specs.promise.FieldText.{Form, Truths, Wholes, FloatBits, Text, HexBytes, SizedHex, Decimals, form_of}
use Rattle.data_types.specs.promise.Value.{Value, Null, Truth, Whole, Bits, Bytes, Items, Fields, bytes_of}
use Rattle.data_types.specs.declared.kind.DataType.{DataType}
use Rattle.col_build.specs.promise.Encoding.{is_wide, is_within}
use Rattle.col_build.specs.Encoding.{fault_if}
use Rattle.col_build.specs.Holding.{HasBytes}
use Rattle.col_build.specs.Settled.{HoldsWhole}
use Rattle.col_build.specs.declared.builder.Builder.{Builder}
use Rattle.col_build.specs.declared.item.PushFault.TheVariants.{OutOfRange, NotText}
use Rattle.col_build.specs.declared.shape.Shape.{Shape}
use Rattle.col_build.specs.declared.shape.Shape.TheVariants as shapes
use Rattle.col_build.proofs.FinishFacts.{shaped}
use Rattle.col_build.proofs.ShapeFacts.{shape_if}

tested : (near text : Bool) → (if not (true && near) then Some OutOfRange else if not text then Some NotText else None) ≡ None → text ≡ true
tested false text taken = cc
tested true false taken = cc
tested true true taken = refl

text-item : (wide : Bool) (value : Value) → fault_if wide (Some Text) [] value ≡ None → IsUtf8 (bytes_of value)
text-item wide (Bytes bytes) taken = IsUtf8-from_is_utf8 bytes (tested (is_within wide Text (0 + length bytes)) (is_utf8 bytes) taken)
text-item wide Null taken = IsUtf8-nil
text-item wide (Truth t) taken = IsUtf8-nil
text-item wide (Whole n) taken = IsUtf8-nil
text-item wide (Bits n) taken = IsUtf8-nil
text-item wide (Items vs) taken = IsUtf8-nil
text-item wide (Fields vs) taken = IsUtf8-nil

text-items : (wide : Bool) (values : List Value) → All (λ value. fault_if wide (Some Text) [] value ≡ None) values → IsUtf8 (concat (map bytes_of values))
text-items wide [] taken = IsUtf8-nil
text-items wide (value ∷ values) taken =
    let Taken : Value → Type 0 = λ v. fault_if wide (Some Text) [] v ≡ None in
    IsUtf8-append (bytes_of value) (concat (map bytes_of values)) (text-item wide value (All-head Taken value values taken))
    (text-items wide values (All-tail Taken value values taken))

-- the form of a shape whose items are text is that of texts
text-form : (wide w : Bool) (form : Option Form) (values : List Value) → shape_if wide form ≡ shapes.Between w true
    → All (λ value. fault_if wide form [] value ≡ None) values → IsUtf8 (concat (map bytes_of values))
text-form wide w None values is taken = cc
text-form wide w (Some Truths) values is taken = cc
text-form wide w (Some (Wholes bits signed)) values is taken = cc
text-form wide w (Some (FloatBits bits)) values is taken = cc
text-form wide w (Some Text) values is taken = text-items wide values taken
text-form wide w (Some HexBytes) values is taken = cc
text-form wide w (Some (SizedHex size)) values is taken = cc
text-form wide w (Some (Decimals precision places)) values is taken = cc

pub text-held : (builder : Builder) (kind : DataType) (values : List Value) (wide : Bool) → HoldsWhole builder kind values → builder.shape ≡ shapes.Between wide true
    → IsUtf8 builder.bytes.items
text-held builder kind values wide holds is =
    let Has : Shape → Type 0 = λ shape. HasBytes shape values builder.offsets.items builder.bytes.items in
    subst IsUtf8 (sym (subst Has is holds.bytes).1)
    (text-form (is_wide kind) wide (form_of kind) values (sym (shaped builder kind values holds) ∙ is) holds.fits.each)
