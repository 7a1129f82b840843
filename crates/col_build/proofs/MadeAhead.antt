-- A builder with nothing made ahead holds what it holds, and what is cut is what was ahead.
use Rattle.std.proofs.Common.{◌≡◌, ◌∙◌, ◌+◌, ◌*◌, ◌/◌, ◌<◌, ◌^◌, ℕ, zero, suc, Bool, true, false, List, [], ◌∷◌, length, take, refl, sym, ap, subst, arith, inl, inr}
use Rattle.std.proofs.Common.{length-append}
use Rattle.std.proofs.Math.Nat.{suc-mul}
use Rattle.std.proofs.lemmas.List.{length-map, length-replicate, take_all}
use Rattle.std.proofs.lemmas.List.Elements.{All-head, All-tail}
use Rattle.std.specs.List.{All, concat, flat_map}
use Rattle.std.specs.Prelude.{map, None}
use Rattle.data_types.specs.promise.Packed.{le_bytes, offset_width, stored}
use Rattle.data_types.specs.promise.Storage.{storage_of}
use Rattle.data_types.specs.promise.Value.{Value, Null, Truth, Whole, Bits, Bytes, Items, Fields, byte_total, bytes_of}
use Rattle.data_types.specs.declared.kind.DataType.{DataType}
use Rattle.col_build.specs.promise.Encoding.{ends, stored_item}
use Rattle.col_build.specs.Encoding.{offset_bytes, Fits}
use Rattle.col_build.specs.Holding.{HasBytes, Holds, bytes_in, end_at, kept_bytes, offsets_in}
use Rattle.col_build.specs.Settled.{HoldsWhole, IsNarrow, IsNumbers}
use Rattle.col_build.specs.Shapes.{shape_fault, shape_in}
use Rattle.col_build.specs.declared.builder.Builder.{Builder}
use Rattle.col_build.specs.declared.shape.Shape.{Shape}
use Rattle.col_build.specs.declared.shape.Shape.TheVariants as shapes
use Rattle.col_build.proofs.EndBytes.{end-there}
use Rattle.col_build.proofs.FitsFacts.{narrow-small}
use Rattle.col_build.proofs.ShapeFacts.{fault-is}

-- ---- how long the bytes of items are

pub length-le_bytes : (width number : ℕ) → length (le_bytes width number) ≡ width
length-le_bytes zero number = refl
length-le_bytes (suc width) number = omega (arith, length-le_bytes width (number / 256))

-- pieces of one width
pub length-pieces : {X : Type 0} (f : X → List ℕ) (width : ℕ) (xs : List X) → All (λ x. length (f x) ≡ width) xs
    → length (flat_map f xs) ≡ length xs * width
length-pieces f width [] all = omega arith
length-pieces f width (x ∷ xs) all =
    omega (
      arith,
      length-append (f x) (flat_map f xs),
      All-head (λ x. length (f x) ≡ width) x xs all,
      length-pieces f width xs (All-tail (λ x. length (f x) ≡ width) x xs all),
      suc-mul (length xs) width,
    )

length-ends : (at : ℕ) (items : List (List ℕ)) → length (ends at items) ≡ length items + 1
length-ends at [] = omega arith
length-ends at (item ∷ items) = omega (arith, length-ends (at + length item) items)

pub length-offset_bytes : (wide : Bool) (items : List (List ℕ)) → length (offset_bytes wide items) ≡ (length items + 1) * offset_width wide
length-offset_bytes wide items =
    length-pieces (le_bytes (offset_width wide)) (offset_width wide) (ends 0 items) (λ k d lt. length-le_bytes (offset_width wide) _)
    ∙ ap (λ n. n * offset_width wide) (length-ends 0 items)

whole-wide : (width total : ℕ) (signed : Bool) (value : Value) → shape_fault (shapes.Wholes width signed) total value ≡ None
    → length (stored_item width value) ≡ width
whole-wide width total signed Null taken = length-replicate width 0
whole-wide width total signed (Truth t) taken = cc
whole-wide width total signed (Whole n) taken = length-le_bytes width (stored width n)
whole-wide width total signed (Bits n) taken = cc
whole-wide width total signed (Bytes b) taken = cc
whole-wide width total signed (Items vs) taken = cc
whole-wide width total signed (Fields vs) taken = cc

float-wide : (width total : ℕ) (value : Value) → shape_fault (shapes.Floats width) total value ≡ None → length (stored_item width value) ≡ width
float-wide width total Null taken = length-replicate width 0
float-wide width total (Truth t) taken = cc
float-wide width total (Whole n) taken = cc
float-wide width total (Bits n) taken = length-le_bytes width n
float-wide width total (Bytes b) taken = cc
float-wide width total (Items vs) taken = cc
float-wide width total (Fields vs) taken = cc

-- ---- what there is with nothing ahead

abbrev pub Taken : Shape → Value → Type 0
Taken shape value = shape_fault shape 0 value ≡ None

-- how many bytes numbers have
pub numbers-long : (shape : Shape) (width : ℕ) (values : List Value) (offsets bytes : List ℕ) → IsNumbers width shape → All (Taken shape) values
    → HasBytes shape values offsets bytes → length bytes ≡ length values * width
numbers-long shapes.Truths width values offsets bytes is taken has = absurd is
numbers-long (shapes.Wholes own signed) width values offsets bytes is taken has =
    ap length has ∙ length-pieces (stored_item own) own values (λ k d lt. whole-wide own 0 signed _ (taken k d lt)) ∙ ap (λ n. length values * n) is
numbers-long (shapes.Floats own) width values offsets bytes is taken has =
    ap length has ∙ length-pieces (stored_item own) own values (λ k d lt. float-wide own 0 _ (taken k d lt)) ∙ ap (λ n. length values * n) is
numbers-long (shapes.Sized size) width values offsets bytes is taken has = absurd is
numbers-long (shapes.Between wide text) width values offsets bytes is taken has = absurd is

bytes-whole : (shape : Shape) (count : ℕ) (values : List Value) (offsets bytes : List ℕ) → All (Taken shape) values → count ≡ length values
    → (IsNarrow shape → byte_total values < 2 ^ 31) → HasBytes shape values offsets bytes → bytes_in shape count offsets bytes ≡ bytes
bytes-whole shapes.Truths count values offsets bytes taken is small has = refl
bytes-whole (shapes.Wholes width signed) count values offsets bytes taken is small has =
    take_all (count * width) bytes
    (omega (arith, numbers-long (shapes.Wholes width signed) width values offsets bytes refl taken has, ap (λ n. n * width) is))
bytes-whole (shapes.Floats width) count values offsets bytes taken is small has =
    take_all (count * width) bytes
    (omega (arith, numbers-long (shapes.Floats width) width values offsets bytes refl taken has, ap (λ n. n * width) is))
bytes-whole (shapes.Sized size) count values offsets bytes taken is small has = refl
bytes-whole (shapes.Between true text) count values offsets bytes taken is small has = refl
bytes-whole (shapes.Between false text) count values offsets bytes taken is small has = elim has.0 [
  | inl begun ↦
      let items = map bytes_of values in
      let all : take ((count + 1) * 4) offsets ≡ offset_bytes false items =
      take_all ((count + 1) * 4) offsets (omega (arith, ap length begun, length-offset_bytes false items, length-map values bytes_of)) ∙ begun in
      let reach = end-there offsets items count (is ∙ sym (length-map values bytes_of)) (omega (arith, small (text, refl))) all in
      take_all (end_at offsets count) bytes (omega (arith, reach, ap length has.1))
  | inr none ↦
      take_all (end_at offsets count) bytes (omega (arith, ap length has.1, ap (λ (items : List (List ℕ)). length (concat items)) none.1))
]

offsets-whole : (shape : Shape) (count : ℕ) (values : List Value) (offsets bytes : List ℕ) → count ≡ length values
    → HasBytes shape values offsets bytes → offsets_in shape count offsets ≡ offsets
offsets-whole shapes.Truths count values offsets bytes is has = refl
offsets-whole (shapes.Wholes width signed) count values offsets bytes is has = refl
offsets-whole (shapes.Floats width) count values offsets bytes is has = refl
offsets-whole (shapes.Sized size) count values offsets bytes is has = refl
offsets-whole (shapes.Between true text) count values offsets bytes is has = refl
offsets-whole (shapes.Between false text) count values offsets bytes is has = elim has.0 [
  | inl begun ↦
      take_all ((count + 1) * 4) offsets (omega (arith, ap length begun, length-offset_bytes false (map bytes_of values), length-map values bytes_of))
  | inr none ↦ take_all ((count + 1) * 4) offsets (omega (arith, ap length none.0))
]

-- a column takes each of its values as the first
pub taken-each : (kind : DataType) (values : List Value) → Fits kind values → All (Taken (shape_in (storage_of kind))) values
taken-each kind values fits k d lt = sym (fault-is kind [] _ fits.kind_ok fits.flat) ∙ fits.each k d lt

pub whole_holds : (builder : Builder) (kind : DataType) (values : List Value) → HoldsWhole builder kind values → Holds builder kind values
whole_holds builder kind values holds =
    let taken = subst (λ shape. All (Taken shape) values) (sym holds.shape) (taken-each kind values holds.fits) in
    let offsets = offsets-whole builder.shape builder.count values builder.offsets.items builder.bytes.items holds.count holds.bytes in
    let small = narrow-small kind values builder.shape holds.shape in
    let bytes = bytes-whole builder.shape builder.count values builder.offsets.items builder.bytes.items taken holds.count (λ narrow. small narrow holds.fits) holds.bytes in
    record {
      is_kind = holds.is_kind;
      shape = holds.shape;
      count = holds.count;
      nulls = holds.nulls;
      validity = holds.validity;
      bytes = subst (λ (os : List ℕ). HasBytes builder.shape values os (kept_bytes builder)) (sym offsets)
          (subst (λ (bs : List ℕ). HasBytes builder.shape values builder.offsets.items bs) (sym bytes) holds.bytes);
      fits = holds.fits;
    }
