-- A builder with one value many times more, whose items have no bytes of their own.
use Rattle.std.proofs.Common.{◌≡◌, ◌≢◌, ◌≤◌, ◌∙◌, ◌+◌, ◌*◌, ◌^◌, ◌++◌, ℕ, zero, suc, Bool, true, false, List, [], ◌∷◌, length, replicate, refl, sym, ap}
use Rattle.std.proofs.Common.{subst, arith, append-nil, inl, inr, length-append}
use Rattle.std.proofs.Math.Nat.{suc-mul}
use Rattle.std.proofs.lemmas.Grind.{flat_map-append}
use Rattle.std.proofs.lemmas.List.{length-map, length-replicate, map-append}
use Rattle.std.proofs.lemmas.List.Elements.{All-append, All-cons, All-nil}
use Rattle.std.specs.List.{All, flat_map}
use Rattle.std.specs.Prelude.{not, ◌==◌, if◌then◌else◌, map, Option, None, Some}
use Rattle.data_types.specs.promise.FieldText.{Form, Truths, Wholes, FloatBits, Text, HexBytes, SizedHex, Decimals, form_of}
use Rattle.data_types.specs.promise.Value.{Value, Null, Truth, Whole, Bits, Bytes, Items, Fields, byte_total}
use Rattle.data_types.specs.declared.kind.DataType.{DataType}
use Rattle.col_build.specs.promise.Encoding.{are_within, bit_bytes, if_some, is_set, is_wide, null_total, stored_item}
use Rattle.data_types.specs.promise.Value.{is_null}
use Rattle.col_build.specs.Encoding.{Fits, are_bounded, push_fault}
use Rattle.col_build.specs.promise.Encoding.{validity_of}
use Rattle.col_build.specs.Holding.{HasBytes, HasValidity, Holds, bytes_in, offsets_in}
use Rattle.col_build.specs.Shapes.{range_fault, shape_fault}
use Rattle.col_build.specs.Times.{AddsBits, IsBitwise, TakesTimes}
use Rattle.col_build.specs.declared.builder.Builder.{Builder}
use Rattle.col_build.specs.declared.shape.Shape.{Shape}
use Rattle.col_build.specs.declared.shape.Shape.TheVariants as shapes
use Rattle.col_build.proofs.FitsFacts.{taken-alone}
use Rattle.col_build.proofs.ShapeFacts.{fault-is, shape-same, shape_if}
use Rattle.col_build.proofs.ValidityFacts.{bits-shown, flags-length, flags_of, not-zero, null-none, null-one, nulls-append, shown-flags, validity-none}

-- ---- values that are alike

map-replicate : {X Y : Type 0} (f : X → Y) (n : ℕ) (x : X) → map f (replicate n x) ≡ replicate n (f x)
map-replicate f zero x = refl
map-replicate f (suc n) x = ap (λ ys. f x ∷ ys) (map-replicate f n x)

pub map-behind : {Y : Type 0} (f : Value → Y) (values : List Value) (n : ℕ) (value : Value)
    → map f (values ++ replicate n value) ≡ map f values ++ replicate n (f value)
map-behind f values n value = map-append f values (replicate n value) ∙ ap (λ ys. map f values ++ ys) (map-replicate f n value)

all-alike : (P : Value → Type 0) (n : ℕ) (value : Value) → P value → All P (replicate n value)
all-alike P zero value is = All-nil P
all-alike P (suc n) value is = All-cons P value (replicate n value) is (all-alike P n value is)

pub nulls-alike : (n : ℕ) (value : Value) → null_total (replicate n value) ≡ n * null_total (value ∷ [])
nulls-alike zero value = omega arith
nulls-alike (suc n) value = omega (arith, nulls-append (value ∷ []) (replicate n value), nulls-alike n value, suc-mul n (null_total (value ∷ [])))

pub nulls-are : (n : ℕ) (value : Value) (null : Bool) → is_null value ≡ null → null_total (replicate n value) ≡ (if null then n else 0)
nulls-are n value true is = nulls-alike n value ∙ ap (λ m. n * m) (null-one value is) ∙ omega arith
nulls-are n value false is = nulls-alike n value ∙ ap (λ m. n * m) (null-none value is) ∙ omega arith

-- ---- what the column takes

free-within : (wide : Bool) (form : Option Form) (total : ℕ) → IsBitwise (shape_if wide form) → are_within wide form total ≡ true
free-within wide None total is = refl
free-within true (Some form) total is = refl
free-within false (Some Truths) total is = refl
free-within false (Some (Wholes bits signed)) total is = refl
free-within false (Some (FloatBits bits)) total is = refl
free-within false (Some Text) total (inl e) = cc
free-within false (Some Text) total (inr e) = cc
free-within false (Some HexBytes) total (inl e) = cc
free-within false (Some HexBytes) total (inr e) = cc
free-within false (Some (SizedHex size)) total is = refl
free-within false (Some (Decimals precision places)) total is = refl

free-bounded : (wide : Bool) (form : Option Form) (total : ℕ) → IsBitwise (shape_if wide form) → are_bounded form total ≡ true
free-bounded wide None total is = refl
free-bounded wide (Some Truths) total is = refl
free-bounded wide (Some (Wholes bits signed)) total is = refl
free-bounded wide (Some (FloatBits bits)) total is = refl
free-bounded wide (Some Text) total (inl e) = cc
free-bounded wide (Some Text) total (inr e) = cc
free-bounded wide (Some HexBytes) total (inl e) = cc
free-bounded wide (Some HexBytes) total (inr e) = cc
free-bounded wide (Some (SizedHex size)) total is = refl
free-bounded wide (Some (Decimals precision places)) total is = refl

fits-alike : (kind : DataType) (values : List Value) (value : Value) (times : ℕ) → Fits kind values → IsBitwise (shape_if (is_wide kind) (form_of kind))
    → push_fault kind [] value ≡ None → length values + times ≤ 2 ^ 40
    → Fits kind (values ++ replicate times value)
fits-alike kind values value times fits bitwise taken few = record {
  kind_ok = fits.kind_ok;
  flat = fits.flat;
  few = omega (arith, length-append values (replicate times value), length-replicate times value);
  each = All-append (λ v. push_fault kind [] v ≡ None) values (replicate times value) fits.each
      (all-alike (λ v. push_fault kind [] v ≡ None) times value taken);
  small = free-within (is_wide kind) (form_of kind) (byte_total (values ++ replicate times value)) bitwise;
  bounded = free-bounded (is_wide kind) (form_of kind) (byte_total (values ++ replicate times value)) bitwise;
}

-- the shape of what a builder holds
bitwise-form : (builder : Builder) (kind : DataType) (values : List Value) → Holds builder kind values → IsBitwise builder.shape
    → IsBitwise (shape_if (is_wide kind) (form_of kind))
bitwise-form builder kind values holds bitwise = subst IsBitwise (holds.shape ∙ shape-same kind holds.fits.flat) bitwise

-- ---- the value this many times more

pub record IsTimes (old new : Builder) (values : List Value) (value : Value) (times : ℕ) : Type 0 where
  pub is_kind : new.kind ≡ old.kind
  pub shape : new.shape ≡ old.shape
  pub count : new.count ≡ old.count + times
  pub nulls : new.nulls ≡ old.nulls + null_total (replicate times value)
  pub validity : if_some new.validity.items ≡ validity_of (values ++ replicate times value)
  pub bytes : HasBytes old.shape (values ++ replicate times value) new.offsets.items new.bytes.items

-- nothing is made ahead in such a shape
as-whole : (shape : Shape) (count : ℕ) (values : List Value) (offsets bytes : List ℕ) → IsBitwise shape → HasBytes shape values offsets bytes
    → HasBytes shape values (offsets_in shape count offsets) (bytes_in shape count offsets bytes)
as-whole shape count values offsets bytes (inl e) has =
    let Has : Shape → Type 0 = λ s. HasBytes s values (offsets_in s count offsets) (bytes_in s count offsets bytes) in
    let Whole : Shape → Type 0 = λ s. HasBytes s values offsets bytes in subst Has (sym e) (subst Whole e has)
as-whole shape count values offsets bytes (inr e) has =
    let Has : Shape → Type 0 = λ s. HasBytes s values (offsets_in s count offsets) (bytes_in s count offsets bytes) in
    let Whole : Shape → Type 0 = λ s. HasBytes s values offsets bytes in subst Has (sym e) (subst Whole e has)

taken-first : (builder : Builder) (kind : DataType) (values : List Value) (value : Value) (times : ℕ) → Holds builder kind values
    → TakesTimes builder value (suc times) → push_fault kind [] value ≡ None
taken-first builder kind values value times holds takes =
    let first : push_fault takes.kind takes.values value ≡ None =
    subst (λ (vs : List Value). push_fault takes.kind vs value ≡ None) (append-nil takes.values) (takes.each 0 (omega arith)) in
    let same = takes.holds.is_kind in
    subst (λ (k : DataType). push_fault k [] value ≡ None) (sym same ∙ holds.is_kind)
    (taken-alone takes.kind takes.values value takes.holds.fits.kind_ok takes.holds.fits.flat first)

fits-times : (builder : Builder) (kind : DataType) (values : List Value) (value : Value) (times : ℕ) → Holds builder kind values
    → TakesTimes builder value times → IsBitwise builder.shape → Fits kind (values ++ replicate times value)
fits-times builder kind values value zero holds takes bitwise = subst (Fits kind) (sym (append-nil values)) holds.fits
fits-times builder kind values value (suc times) holds takes bitwise =
    fits-alike kind values value (suc times) holds.fits (bitwise-form builder kind values holds bitwise)
    (taken-first builder kind values value times holds takes) (omega (arith, holds.count, takes.holds.count, takes.few))

pub times-holds : (old new : Builder) (kind : DataType) (values : List Value) (value : Value) (times : ℕ) → Holds old kind values
    → TakesTimes old value times → IsBitwise old.shape → IsTimes old new values value times
    → Holds new kind (values ++ replicate times value)
times-holds old new kind values value times holds takes bitwise more =
    let all = values ++ replicate times value in
    let Has : Shape → Type 0 = λ s. HasBytes s all (offsets_in s new.count new.offsets.items) (bytes_in s new.count new.offsets.items new.bytes.items) in
    record {
      is_kind = more.is_kind ∙ holds.is_kind;
      shape = more.shape ∙ holds.shape;
      count = omega (arith, more.count, holds.count, length-append values (replicate times value), length-replicate times value);
      nulls = omega (arith, more.nulls, holds.nulls, nulls-append values (replicate times value));
      validity = more.validity;
      bytes = subst Has (sym more.shape) (as-whole old.shape new.count all new.offsets.items new.bytes.items bitwise more.bytes);
      fits = fits-times old kind values value times holds takes bitwise;
    }

pub times-few : (builder : Builder) (value : Value) (times : ℕ) → TakesTimes builder value times → builder.count + times ≤ 2 ^ 40
times-few builder value times takes = omega (arith, takes.holds.count, takes.few)

-- ---- the buffers

pub truths-times : (values : List Value) (value : Value) (truth : Bool) (count times : ℕ) (offsets old new : List ℕ) → count ≡ length values
    → is_set value ≡ truth → old ≡ bit_bytes (map is_set values) → AddsBits count truth times old new
    → HasBytes shapes.Truths (values ++ replicate times value) offsets new
truths-times values value truth count times offsets old new counted set has adds =
    adds (map is_set values) (length-map values is_set ∙ sym counted) has
    ∙ ap (λ x. bit_bytes (map is_set values ++ replicate times x)) (sym set) ∙ ap bit_bytes (sym (map-behind is_set values times value))

refused : (fits : Bool) → fits ≡ false → range_fault fits ≡ None → ⊥
refused fits is taken = cc

no-bytes : (total : ℕ) (value : Value) → shape_fault (shapes.Sized 0) total value ≡ None → stored_item 0 value ≡ []
no-bytes total Null taken = refl
no-bytes total (Truth t) taken = cc
no-bytes total (Whole n) taken = cc
no-bytes total (Bits n) taken = cc
no-bytes total (Bytes []) taken = refl
no-bytes total (Bytes (b ∷ bs)) taken = absurd (refused (suc (length bs) == 0) (not-zero (suc (length bs)) (λ e. omega (arith, e))) taken)
no-bytes total (Items vs) taken = cc
no-bytes total (Fields vs) taken = cc

nothing-alike : (n : ℕ) (value : Value) → stored_item 0 value ≡ [] → flat_map (stored_item 0) (replicate n value) ≡ []
nothing-alike zero value is = refl
nothing-alike (suc n) value is = ap (λ (bs : List ℕ). bs ++ flat_map (stored_item 0) (replicate n value)) is ∙ nothing-alike n value is

nothing-more : (values : List Value) (value : Value) (times : ℕ) (bytes : List ℕ) → stored_item 0 value ≡ [] → bytes ≡ flat_map (stored_item 0) values
    → bytes ≡ flat_map (stored_item 0) (values ++ replicate times value)
nothing-more values value times bytes none has =
    has ∙ sym (append-nil (flat_map (stored_item 0) values))
    ∙ ap (λ (bs : List ℕ). flat_map (stored_item 0) values ++ bs) (sym (nothing-alike times value none))
    ∙ sym (flat_map-append (stored_item 0) values (replicate times value))

pub nothing-times : (builder : Builder) (kind : DataType) (values : List Value) (value : Value) (times : ℕ) (offsets : List ℕ)
    → Holds builder kind values → TakesTimes builder value times → builder.shape ≡ shapes.Sized 0
    → HasBytes builder.shape (values ++ replicate times value) offsets builder.bytes.items
nothing-times builder kind values value zero offsets holds takes is =
    let Has : Shape → Type 0 = λ s. HasBytes s values (offsets_in s builder.count builder.offsets.items) (bytes_in s builder.count builder.offsets.items builder.bytes.items) in
    let All : Shape → Type 0 = λ s. HasBytes s (values ++ []) offsets builder.bytes.items in
    subst All (sym is) (subst Has is holds.bytes ∙ ap (flat_map (stored_item 0)) (sym (append-nil values)))
nothing-times builder kind values value (suc times) offsets holds takes is =
    let Has : Shape → Type 0 = λ s. HasBytes s values (offsets_in s builder.count builder.offsets.items) (bytes_in s builder.count builder.offsets.items builder.bytes.items) in
    let All : Shape → Type 0 = λ s. HasBytes s (values ++ replicate (suc times) value) offsets builder.bytes.items in
    let taken = taken-first builder kind values value times holds takes in
    let fault = sym (fault-is kind [] value holds.fits.kind_ok holds.fits.flat) ∙ taken in
    let own = subst (λ (s : Shape). shape_fault s (byte_total []) value ≡ None) (sym holds.shape ∙ is) fault in
    subst All (sym is) (nothing-more values value (suc times) builder.bytes.items (no-bytes (byte_total []) value own) (subst Has is holds.bytes))

-- ---- the validity bits

pub validity-times : (bits new : List ℕ) (count nulls : ℕ) (values : List Value) (value : Value) (null : Bool) (times : ℕ) → nulls ≢ 0
    → HasValidity bits count nulls values → is_null value ≡ null → AddsBits count (not null) times bits new
    → if_some new ≡ validity_of (values ++ replicate times value)
validity-times bits new count nulls values value null times some has is adds =
    shown-flags new (values ++ replicate times value)
    (λ none. some (omega (arith, nulls-append values (replicate times value), has.nulls_counted, none)))
    (
    adds (flags_of values) (flags-length values ∙ sym has.counted) (bits-shown bits count nulls values some has)
    ∙ ap (λ x. bit_bytes (flags_of values ++ replicate times x)) (sym (ap not is))
    ∙ ap bit_bytes (sym (map-behind (λ v. not (is_null v)) values times value))
    )

pub validity-still : (bits : List ℕ) (count nulls : ℕ) (values : List Value) (value : Value) (times : ℕ) → nulls ≡ 0
    → HasValidity bits count nulls values → is_null value ≡ false
    → if_some bits ≡ validity_of (values ++ replicate times value)
validity-still bits count nulls values value times none has valid =
    has.shown ∙ validity-none values (sym has.nulls_counted ∙ none)
    ∙ sym (validity-none (values ++ replicate times value)
    (omega (arith, nulls-append values (replicate times value), nulls-are times value false valid, has.nulls_counted, none)))
