-- The blocks of a column's encoding.
use Rattle.std.proofs.Common.{◌≡◌, ◌∙◌, ◌<◌, ◌+◌, ◌/◌, ◌++◌, ℕ, zero, suc, Bool, true, false, List, [], ◌∷◌, length, map, All, refl, sym, ap}
use Rattle.std.proofs.Common.{subst, inl, inr, arith}
use Rattle.std.specs.Prelude.{Option, None, Some, ◌==◌, not, if◌then◌else◌}
use Rattle.std.specs.List.{concat, flat_map, list_any}
use Rattle.std.proofs.Math.Nat.{zero-add}
use Rattle.std.proofs.lemmas.Bool.Decides.{nat_tests}
use Rattle.std.proofs.lemmas.List.{length-append, length-replicate}
use Rattle.std.proofs.lemmas.List.Elements.{All-head, All-tail}
use Rattle.data_types.specs.promise.Packed.{le_bytes, stored}
use Rattle.data_types.specs.Packed.{IsWidth}
use Rattle.data_types.specs.ColumnForms.{HasForm, IsColumnKind}
use Rattle.data_types.specs.promise.FieldText.{Form, Truths, Wholes, FloatBits, Text, HexBytes, SizedHex, Decimals, form_of}
use Rattle.data_types.specs.FieldText.{IsOfForm, IsOfSome, IsValueOf}
use Rattle.data_types.specs.promise.Value.{Value, Null, Truth, Whole, Bits, Bytes, Items, Fields, bytes_of, is_null}
use Rattle.data_types.specs.declared.kind.DataType.{DataType}
use Rattle.col_build.proofs.ShapeFacts.{FormOk, form-ok}
use Rattle.col_build.specs.promise.Encoding.{bit_bytes, buffers_by, buffers_if, if_some, in_place, is_set, is_wide, null_total, stored_item, validity_of}
use Rattle.col_build.specs.promise.Finished.{blocks_of, present_count}
use Rattle.stage_model.specs.promise.Traffic.{flat_blocks, form_blocks, one_if_any, validity_blocks}
use Rattle.stage_model.specs.Traffic.{row_blocks}

-- ---- the validity bitmap

not-zero : (n : ℕ) → (1 + n == 0) ≡ false
not-zero n = grind (arith, nat_tests)

nulls-any : (values : List Value) → (null_total values == 0) ≡ not (list_any is_null values)
nulls-any [] = refl
nulls-any (Null ∷ values) = not-zero (null_total values)
nulls-any (Truth t ∷ values) = nulls-any values
nulls-any (Whole n ∷ values) = nulls-any values
nulls-any (Bits n ∷ values) = nulls-any values
nulls-any (Bytes b ∷ values) = nulls-any values
nulls-any (Items vs ∷ values) = nulls-any values
nulls-any (Fields vs ∷ values) = nulls-any values

validity-by : (any : Bool) (bytes : List ℕ) (buffers : List (Option (List ℕ))) → present_count ((if not any then None else Some bytes) ∷ buffers)
    ≡ (if any then 1 else 0) + present_count buffers
validity-by true bytes buffers = refl
validity-by false bytes buffers = sym (zero-add (present_count buffers))

validity-is : (values : List Value) (buffers : List (Option (List ℕ))) → present_count (validity_of values ∷ buffers)
    ≡ validity_blocks values + present_count buffers
validity-is values buffers =
    let bytes = bit_bytes (map (λ value. not (is_null value)) values) in
    ap (λ (b : Bool). present_count ((if b then None else Some bytes) ∷ buffers)) (nulls-any values)
    ∙ validity-by (list_any is_null values) bytes buffers

-- ---- a buffer that is there where it has bytes

if-any : (bytes : List ℕ) → present_count (if_some bytes ∷ []) ≡ one_if_any bytes
if-any [] = refl
if-any (byte ∷ bytes) = refl

long-any : {X : Type 0} (xs : List X) → 0 < length xs → one_if_any xs ≡ 1
long-any [] long = absurd (omega (arith, long))
long-any (x ∷ xs) long = refl

bits-any : (flags : List Bool) → one_if_any (bit_bytes flags) ≡ one_if_any flags
bits-any [] = refl
bits-any (a ∷ []) = refl
bits-any (a ∷ b ∷ []) = refl
bits-any (a ∷ b ∷ c ∷ []) = refl
bits-any (a ∷ b ∷ c ∷ d ∷ []) = refl
bits-any (a ∷ b ∷ c ∷ d ∷ e ∷ []) = refl
bits-any (a ∷ b ∷ c ∷ d ∷ e ∷ f ∷ []) = refl
bits-any (a ∷ b ∷ c ∷ d ∷ e ∷ f ∷ g ∷ []) = refl
bits-any (a ∷ b ∷ c ∷ d ∷ e ∷ f ∷ g ∷ h ∷ flags) = refl

map-any : {X Y : Type 0} (f : X → Y) (xs : List X) → one_if_any (map f xs) ≡ one_if_any xs
map-any f [] = refl
map-any f (x ∷ xs) = refl

-- ---- items in their place

length-bytes : (width n : ℕ) → length (le_bytes width n) ≡ width
length-bytes zero n = refl
length-bytes (suc width) n = omega (arith, length-bytes width (n / 256))

abbrev Wide : ℕ → Value → Type 0
Wide width v = length (stored_item width v) ≡ width

in-place-any : (width : ℕ) (values : List Value) → 0 < width → All (Wide width) values → one_if_any (flat_map (stored_item width) values) ≡ row_blocks values
in-place-any width [] above wide = refl
in-place-any width (v ∷ values) above wide =
    long-any (flat_map (stored_item width) (v ∷ values))
    (omega (arith, length-append (stored_item width v) (flat_map (stored_item width) values), All-head (Wide width) v values wide, above))

empty : (values : List Value) → All (Wide 0) values → flat_map (stored_item 0) values ≡ []
empty [] wide = refl
empty (v ∷ values) wide =
    none (stored_item 0 v) (flat_map (stored_item 0) values) (All-head (Wide 0) v values wide) (empty values (All-tail (Wide 0) v values wide))
  where
    none : (xs ys : List ℕ) → length xs ≡ 0 → ys ≡ [] → xs ++ ys ≡ []
    none [] ys e f = f
    none (x ∷ xs) ys e f = absurd (omega (arith, e))

in-place-is : (width : ℕ) (values : List Value) → 0 < width → All (Wide width) values
    → present_count (in_place width values) ≡ validity_blocks values + row_blocks values
in-place-is width values above wide =
    validity-is values (if_some (flat_map (stored_item width) values) ∷ [])
    ∙ ap (λ n. validity_blocks values + n) (if-any (flat_map (stored_item width) values) ∙ in-place-any width values above wide)

sized-is : (size : ℕ) (values : List Value) → All (Wide size) values
    → present_count (in_place size values) ≡ validity_blocks values + (if size == 0 then 0 else row_blocks values)
sized-is zero values wide =
    validity-is values (if_some (flat_map (stored_item 0) values) ∷ [])
    ∙ ap (λ n. validity_blocks values + n) (if-any (flat_map (stored_item 0) values) ∙ ap (one_if_any {X = ℕ}) (empty values wide))
sized-is (suc size) values wide =
    let some : (suc size == 0) ≡ false = grind (arith, nat_tests) in
    in-place-is (suc size) values (omega arith) wide ∙ ap (λ b. validity_blocks values + (if b then 0 else row_blocks values)) (sym some)

-- ---- each form

-- the numbers of a form are of whole bytes
abbrev IsWhole : Form → Type 0
IsWhole (Wholes bits signed) = 0 < bits / 8
IsWhole (FloatBits bits) = 0 < bits / 8
IsWhole _ = Unit {0}

abbrev IsWholeIf : Option Form → Type 0
IsWholeIf None = Unit {0}
IsWholeIf (Some form) = IsWhole form

some-bytes : (width : ℕ) → IsWidth width → 0 < width
some-bytes width (inl e) = omega (arith, e)
some-bytes width (inr (inl e)) = omega (arith, e)
some-bytes width (inr (inr (inl e))) = omega (arith, e)
some-bytes width (inr (inr (inr (inl e)))) = omega (arith, e)
some-bytes width (inr (inr (inr (inr e)))) = omega (arith, e)

is-whole : (form : Option Form) → FormOk form → IsWholeIf form
is-whole (Some (Wholes bits signed)) ok = some-bytes (bits / 8) ok.1
is-whole (Some (FloatBits bits)) ok = some-bytes (bits / 8) ok.1
is-whole _ ok = tt

-- ---- the values of a form
-- a null, or a value of the form
abbrev IsOf : Form → Value → Type 0
IsOf form Null = Unit {0}
IsOf form v = IsOfForm form v

wide-whole : (width bits : ℕ) (signed : Bool) (v : Value) → IsOf (Wholes bits signed) v → Wide width v
wide-whole width bits signed Null of = length-replicate width 0
wide-whole width bits signed (Whole n) of = length-bytes width (stored width n)
wide-whole width bits signed _ of = absurd of

wide-decimal : (precision places : ℕ) (v : Value) → IsOf (Decimals precision places) v → Wide 16 v
wide-decimal precision places Null of = refl
wide-decimal precision places (Whole n) of = length-bytes 16 (stored 16 n)
wide-decimal precision places _ of = absurd of

wide-bits : (width bits : ℕ) (v : Value) → IsOf (FloatBits bits) v → Wide width v
wide-bits width bits Null of = length-replicate width 0
wide-bits width bits (Bits n) of = length-bytes width n
wide-bits width bits _ of = absurd of

wide-sized : (size : ℕ) (v : Value) → IsOf (SizedHex size) v → Wide size v
wide-sized size Null of = length-replicate size 0
wide-sized size (Bytes b) of = of.0
wide-sized size _ of = absurd of

form-is : (wide : Bool) (form : Form) (values : List Value) → IsWhole form → All (IsOf form) values
    → present_count (buffers_by wide form values) ≡ validity_blocks values + form_blocks (Some form) values
form-is wide Truths values whole are =
    validity-is values (if_some (bit_bytes (map is_set values)) ∷ [])
    ∙ ap (λ n. validity_blocks values + n) (if-any (bit_bytes (map is_set values)) ∙ bits-any (map is_set values) ∙ map-any is_set values)
form-is wide (Wholes bits signed) values whole are =
    in-place-is (bits / 8) values whole (λ k d small. wide-whole (bits / 8) bits signed _ (are k d small))
form-is wide (FloatBits bits) values whole are = in-place-is (bits / 8) values whole (λ k d small. wide-bits (bits / 8) bits _ (are k d small))
form-is wide Text values whole are = validity-is values _ ∙ ap (λ n. validity_blocks values + (1 + n)) (if-any (concat (map bytes_of values)))
form-is wide HexBytes values whole are = validity-is values _ ∙ ap (λ n. validity_blocks values + (1 + n)) (if-any (concat (map bytes_of values)))
form-is wide (SizedHex size) values whole are = sized-is size values (λ k d small. wide-sized size _ (are k d small))
form-is wide (Decimals precision places) values whole are =
    in-place-is 16 values (omega arith) (λ k d small. wide-decimal precision places _ (are k d small))

some-is : (wide : Bool) (form : Option Form) (values : List Value) → HasForm form → IsWholeIf form
    → ((form' : Form) → form ≡ Some form' → All (IsOf form') values)
    → present_count (buffers_if wide form values) ≡ validity_blocks values + form_blocks form values
some-is wide None values has whole are = absurd has
some-is wide (Some form) values has whole are = form-is wide form values whole (are form refl)

value-of : (kind : DataType) (form : Form) (v : Value) → form_of kind ≡ Some form → IsValueOf kind v → IsOf form v
value-of kind form Null is of = tt
value-of kind form (Truth t) is of = subst (λ (o : Option Form). IsOfSome o (Truth t)) is of
value-of kind form (Whole n) is of = subst (λ (o : Option Form). IsOfSome o (Whole n)) is of
value-of kind form (Bits n) is of = subst (λ (o : Option Form). IsOfSome o (Bits n)) is of
value-of kind form (Bytes b) is of = subst (λ (o : Option Form). IsOfSome o (Bytes b)) is of
value-of kind form (Items vs) is of = subst (λ (o : Option Form). IsOfSome o (Items vs)) is of
value-of kind form (Fields vs) is of = subst (λ (o : Option Form). IsOfSome o (Fields vs)) is of

-- a column of values of a type is made of these blocks
pub blocks-are : (kind : DataType) (values : List Value) → IsColumnKind kind → All (IsValueOf kind) values → blocks_of kind values ≡ flat_blocks kind values
blocks-are kind values is are =
    some-is (is_wide kind) (form_of kind) values is.1 (is-whole (form_of kind) (form-ok kind is.0)) (λ form e k d small. value-of kind form _ e (are k d small))
