-- A builder with one more value, by its parts.
use Rattle.std.proofs.Common.{◌≡◌, ◌≢◌, ◌≤◌, ◌<◌, ◌∙◌, ◌+◌, ◌*◌, ◌/◌, ◌^◌, ◌++◌, ℕ, Bool, true, false, List, [], ◌∷◌, length, take, refl, sym, ap}
use Rattle.std.proofs.Common.{subst, arith, add-one, append-nil, inl, inr, length-append}
use Rattle.std.proofs.lemmas.Grind.{flat_map-append}
use Rattle.std.proofs.lemmas.List.{length-map, length-take}
use Rattle.std.specs.List.{All, concat, flat_map}
use Rattle.std.specs.Prelude.{ℤ, map, None}
use Rattle.std.proofs.Math.Nat.{suc-mul}
use Rattle.data_types.specs.promise.Packed.{le_bytes, number_at}
use Rattle.data_types.specs.Packed.{IsWidth}
use Rattle.data_types.specs.promise.FieldText.{form_of, in_range}
use Rattle.data_types.specs.promise.Value.{Value, Truth, Whole, byte_total, bytes_of}
use Rattle.data_types.specs.declared.kind.DataType.{DataType}
use Rattle.col_build.specs.promise.Encoding.{bit_bytes, if_some, is_set, is_wide, null_total, stored_item, validity_of}
use Rattle.col_build.specs.Encoding.{offset_bytes, push_fault}
use Rattle.col_build.specs.Holding.{HasBytes, HasEnd, HasOffsets, HasValidity, Holds, HoldsFew, HoldsFloats, HoldsSome, HoldsWholes, ShapeOk, Takes, bytes_in, kept_bytes, kept_offsets, end_at, offsets_in}
use Rattle.col_build.specs.Settled.{IsNarrow, IsNumbers}
use Rattle.col_build.specs.Shapes.{range_fault, shape_fault, shape_in}
use Rattle.col_build.specs.declared.builder.Builder.{Builder}
use Rattle.col_build.specs.declared.shape.Shape.{Shape}
use Rattle.col_build.specs.declared.shape.Shape.TheVariants as shapes
use Rattle.col_build.proofs.FitsFacts.{fits-more, narrow-small, narrow-within, total-bounded, total-push, within-kind}
use Rattle.col_build.proofs.MadeAhead.{Taken, length-offset_bytes, numbers-long, taken-each}
use Rattle.col_build.proofs.EndBytes.{end-put, end-same, end-there}
use Rattle.col_build.proofs.OffsetBytes.{between-push, offsets-push, offsets-there}
use Rattle.col_build.proofs.Pushes.{fault-of}
use Rattle.col_build.proofs.ShapeFacts.{shape-is, shape-same}
use Rattle.col_build.proofs.ValidityFacts.{nulls-push}

-- ---- what a builder takes

pub fault-kept : (builder : Builder) (kind : DataType) (values : List Value) (value : Value) → Holds builder kind values
    → shape_fault builder.shape (length (kept_bytes builder)) value ≡ push_fault kind values value
fault-kept builder kind values value holds =
    fault-of builder.shape kind values value (kept_offsets builder) (kept_bytes builder) holds.shape holds.fits holds.bytes

-- a value that the builder takes is taken behind whatever it holds
pub taken-kept : (builder : Builder) (kind : DataType) (values : List Value) (value : Value) → Holds builder kind values → Takes builder value
    → push_fault kind values value ≡ None
taken-kept builder kind values value holds takes =
    sym (fault-kept builder kind values value holds) ∙ fault-kept builder takes.0 takes.1 value takes.2 ∙ takes.4

pub shape-kept : (builder : Builder) (kind : DataType) (values : List Value) → Holds builder kind values → ShapeOk builder.shape
shape-kept builder kind values holds = rw holds.shape (shape-is kind holds.fits.kind_ok holds.fits.flat)

pub few_kept : (builder : Builder) (value : Value) → Takes builder value → builder.count < 2 ^ 40
few_kept builder value takes = omega (arith, takes.2.count, takes.3)

-- ---- one more value

bytes-short : (shape : Shape) (count : ℕ) (offsets bytes : List ℕ) → length (bytes_in shape count offsets bytes) ≤ length bytes
bytes-short shapes.Truths count offsets bytes = omega arith
bytes-short (shapes.Wholes width signed) count offsets bytes = omega (arith, length-take (count * width) bytes)
bytes-short (shapes.Floats width) count offsets bytes = omega (arith, length-take (count * width) bytes)
bytes-short (shapes.Sized size) count offsets bytes = omega arith
bytes-short (shapes.Between true text) count offsets bytes = omega arith
bytes-short (shapes.Between false text) count offsets bytes = omega (arith, length-take (end_at offsets count) bytes)

-- the new builder's parts are those of one value more
pub record IsMore (old new : Builder) (values : List Value) (value : Value) : Type 0 where
  pub is_kind : new.kind ≡ old.kind
  pub shape : new.shape ≡ old.shape
  pub count : new.count ≡ old.count + 1
  pub nulls : new.nulls ≡ old.nulls + null_total (value ∷ [])
  pub validity : if_some new.validity.items ≡ validity_of (values ++ value ∷ [])
  pub bytes : HasBytes old.shape (values ++ value ∷ []) (offsets_in old.shape (old.count + 1) new.offsets.items)
      (bytes_in old.shape (old.count + 1) new.offsets.items new.bytes.items)

pub more-holds : (old new : Builder) (kind : DataType) (values : List Value) (value : Value) → Holds old kind values → Takes old value
    → IsMore old new values value → Holds new kind (values ++ value ∷ [])
more-holds old new kind values value holds takes more =
    let all = values ++ value ∷ [] in
    let offsets = offsets_in old.shape (old.count + 1) new.offsets.items in
    let bytes = bytes_in old.shape (old.count + 1) new.offsets.items new.bytes.items in
    let few : length values < 2 ^ 40 = omega (arith, holds.count, takes.2.count, takes.3) in
    let short : length bytes < 2 ^ 63 = omega (arith, new.bytes.ok, new.bytes.small, bytes-short old.shape (old.count + 1) new.offsets.items new.bytes.items) in
    let shaped = subst (λ (s : Shape). HasBytes s all offsets bytes) (holds.shape ∙ shape-same kind holds.fits.flat) more.bytes in
    let bounded = total-bounded (is_wide kind) (form_of kind) all offsets bytes shaped short in
    let Has : Shape → ℕ → Type 0 = λ s n. HasBytes s all (offsets_in s n new.offsets.items) (bytes_in s n new.offsets.items new.bytes.items) in
    record {
      is_kind = more.is_kind ∙ holds.is_kind;
      shape = more.shape ∙ holds.shape;
      count = omega (arith, more.count, holds.count, length-append values (value ∷ []));
      nulls = omega (arith, more.nulls, holds.nulls, nulls-push values value);
      validity = more.validity;
      bytes = subst (λ s. Has s new.count) (sym more.shape) (subst (Has old.shape) (sym more.count) more.bytes);
      fits = fits-more kind values value holds.fits (taken-kept old kind values value holds takes) few bounded;
    }

-- ---- numbers

next-place : (count width : ℕ) → (count + 1) * width ≡ count * width + width
next-place count width = rw add-one (suc-mul count width)

-- one more piece of the same width
pieces-more : (f : Value → List ℕ) (values : List Value) (value : Value) (old new item : List ℕ) → old ≡ flat_map f values → new ≡ old ++ item
    → item ≡ f value → new ≡ flat_map f (values ++ value ∷ [])
pieces-more f values value old new item has is same =
    is ∙ ap (λ (bs : List ℕ). bs ++ item) has
    ∙ ap (λ (bs : List ℕ). flat_map f values ++ bs) (same ∙ sym (append-nil (f value))) ∙ sym (flat_map-append f values (value ∷ []))

pub numbers-more : (shape : Shape) (width count : ℕ) (values : List Value) (value : Value) (offsets others had has old new item : List ℕ)
    → IsNumbers width shape → HasBytes shape values offsets (bytes_in shape count had old)
    → take (count * width + width) new ≡ take (count * width) old ++ item → item ≡ stored_item width value
    → HasBytes shape (values ++ value ∷ []) others (bytes_in shape (count + 1) has new)
numbers-more shapes.Truths width count values value offsets others then now old new item is has put same = absurd is
numbers-more (shapes.Wholes own signed) width count values value offsets others then now old new item is has put same =
    let next : (count + 1) * own ≡ count * width + width = ap (λ n. (count + 1) * n) is ∙ next-place count width in
    let had = subst (λ n. take (count * n) old ≡ flat_map (stored_item n) values) is has in
    ap (λ n. take n new) next ∙ pieces-more (stored_item width) values value (take (count * width) old) _ item had put same
    ∙ ap (λ n. flat_map (stored_item n) (values ++ value ∷ [])) (sym is)
numbers-more (shapes.Floats own) width count values value offsets others then now old new item is has put same =
    let next : (count + 1) * own ≡ count * width + width = ap (λ n. (count + 1) * n) is ∙ next-place count width in
    let had = subst (λ n. take (count * n) old ≡ flat_map (stored_item n) values) is has in
    ap (λ n. take n new) next ∙ pieces-more (stored_item width) values value (take (count * width) old) _ item had put same
    ∙ ap (λ n. flat_map (stored_item n) (values ++ value ∷ [])) (sym is)
numbers-more (shapes.Sized size) width count values value offsets others then now old new item is has put same = absurd is
numbers-more (shapes.Between wide text) width count values value offsets others then now old new item is has put same = absurd is

-- the bytes of the numbers are there
pub numbers-there : (builder : Builder) (width : ℕ) → HoldsSome builder → IsNumbers width builder.shape
    → builder.count * width ≤ length builder.bytes.items
numbers-there builder width some is =
    let values = some.1 in
    let holds = some.2 in
    let taken = subst (λ (s : Shape). All (Taken s) values) (sym holds.shape) (taken-each some.0 values holds.fits) in
    omega (
      arith,
      numbers-long builder.shape width values (kept_offsets builder) (kept_bytes builder) is taken holds.bytes,
      ap (λ n. n * width) holds.count,
      bytes-short builder.shape builder.count builder.offsets.items builder.bytes.items,
    )

-- ---- whole numbers, floats and truth values

range-true : (fits : Bool) → range_fault fits ≡ None → fits ≡ true
range-true true taken = refl
range-true false taken = cc

pub fault-none : (builder : Builder) (value : Value) → Takes builder value → shape_fault builder.shape (length (kept_bytes builder)) value ≡ None
fault-none builder value takes = fault-kept builder takes.0 takes.1 value takes.2 ∙ takes.4

pub whole-range : (builder : Builder) (number : ℤ) (width : ℕ) (signed : Bool) → Takes builder (Whole number) → builder.shape ≡ shapes.Wholes width signed
    → in_range (8 * width) signed number ≡ true
whole-range builder number width signed takes is =
    range-true (in_range (8 * width) signed number)
    (subst (λ (s : Shape). shape_fault s (length (kept_bytes builder)) (Whole number) ≡ None) is (fault-none builder (Whole number) takes))

eighth : (width : ℕ) → 8 * width / 8 ≡ width
eighth width = omega arith

pub wholes_shape : (builder : Builder) (value : Value) (width : ℕ) → Takes builder value → HoldsWholes width builder
    → (signed : Bool) × (builder.shape ≡ shapes.Wholes width signed)
wholes_shape builder value width takes wholes =
    let has = wholes takes.0 takes.1 takes.2 in
    (has.0, takes.2.shape ∙ ap shape_in has.1 ∙ ap (λ n. shapes.Wholes n has.0) (eighth width))

pub floats_shape : (builder : Builder) (value : Value) (width : ℕ) → Takes builder value → HoldsFloats width builder
    → builder.shape ≡ shapes.Floats width
floats_shape builder value width takes floats =
    takes.2.shape ∙ ap shape_in (floats takes.0 takes.1 takes.2) ∙ ap (λ n. shapes.Floats n) (eighth width)

truth-shape : (shape : Shape) (total : ℕ) (truth : Bool) → shape_fault shape total (Truth truth) ≡ None → shape ≡ shapes.Truths
truth-shape shapes.Truths total truth taken = refl
truth-shape (shapes.Wholes width signed) total truth taken = cc
truth-shape (shapes.Floats width) total truth taken = cc
truth-shape (shapes.Sized size) total truth taken = cc
truth-shape (shapes.Between wide text) total truth taken = cc

pub truths-shape : (builder : Builder) (truth : Bool) → Takes builder (Truth truth) → builder.shape ≡ shapes.Truths
truths-shape builder truth takes = truth-shape builder.shape (length (kept_bytes builder)) truth (fault-none builder (Truth truth) takes)

pub are_wholes : (shape : Shape) (width : ℕ) (signed : Bool) → shape ≡ shapes.Wholes width signed → IsNumbers width shape
are_wholes shape width signed is = subst (IsNumbers width) (sym is) refl

pub are_floats : (shape : Shape) (width : ℕ) → shape ≡ shapes.Floats width → IsNumbers width shape
are_floats shape width is = subst (IsNumbers width) (sym is) refl

pub numbers-width : (shape : Shape) (width : ℕ) → IsNumbers width shape → ShapeOk shape → IsWidth width
numbers-width shapes.Truths width is ok = absurd is
numbers-width (shapes.Wholes own signed) width is ok = subst IsWidth is ok.0
numbers-width (shapes.Floats own) width is ok = subst IsWidth is ok.0
numbers-width (shapes.Sized size) width is ok = absurd is
numbers-width (shapes.Between wide text) width is ok = absurd is

pub width-small : (width : ℕ) → IsWidth width → width ≤ 16
width-small width (inl e) = omega arith
width-small width (inr (inl e)) = omega arith
width-small width (inr (inr (inl e))) = omega arith
width-small width (inr (inr (inr (inl e)))) = omega arith
width-small width (inr (inr (inr (inr e)))) = omega arith

-- a width that the numbers of a builder have
pub numbers_small : (builder : Builder) (width : ℕ) → HoldsSome builder → IsNumbers width builder.shape → width ≤ 16
numbers_small builder width some is =
    width-small width (numbers-width builder.shape width is (shape-kept builder some.0 some.1 some.2))

pub wholes_width : (builder : Builder) (width : ℕ) (signed : Bool) → HoldsSome builder → builder.shape ≡ shapes.Wholes width signed → IsWidth width
wholes_width builder width signed some is =
    numbers-width builder.shape width (are_wholes builder.shape width signed is) (shape-kept builder some.0 some.1 some.2)

pub floats_width : (builder : Builder) (width : ℕ) → HoldsSome builder → builder.shape ≡ shapes.Floats width → IsWidth width × (width ≢ 16)
floats_width builder width some is = subst ShapeOk is (shape-kept builder some.0 some.1 some.2)

pub any_width : (builder : Builder) (width : ℕ) → HoldsSome builder → IsNumbers width builder.shape → IsWidth width
any_width builder width some is = numbers-width builder.shape width is (shape-kept builder some.0 some.1 some.2)

-- what a number that is added asks
pub ruleset whole_adds = (few_kept, wholes_shape, are_wholes, numbers_small, wholes_width)

pub ruleset float_adds = (few_kept, floats_shape, are_floats, numbers_small, floats_width)

pub few_held : (builder : Builder) → HoldsFew builder → builder.count < 2 ^ 40
few_held builder few = omega (arith, few.2.count, few.3)

-- and a null
pub ruleset null_adds = (few_held, are_wholes, are_floats, numbers_small, any_width)

-- the validity bits of the values are there
pub bits-held : (builder : Builder) (kind : DataType) (values : List Value) → Holds builder kind values
    → HasValidity builder.validity.items builder.count builder.nulls values
bits-held builder kind values holds = record { counted = holds.count; nulls_counted = holds.nulls; shown = holds.validity }

-- ---- bytes between narrow offsets

narrow-next : (text : Bool) (count : ℕ) (values : List Value) (value : Value) (item offsets others old new : List ℕ) → bytes_of value ≡ item
    → count ≡ length values → byte_total (values ++ value ∷ []) < 2 ^ 31 → count * 4 + 8 ≤ length offsets
    → take (end_at offsets count + length item) new ≡ take (end_at offsets count) old ++ item
    → take (count * 4 + 4 + 4) others ≡ take (count * 4 + 4) offsets ++ le_bytes 4 (end_at offsets count + length item)
    → HasBytes (shapes.Between false text) values (take ((count + 1) * 4) offsets) (take (end_at offsets count) old)
    → HasBytes (shapes.Between false text) (values ++ value ∷ []) (take ((count + 1 + 1) * 4) others) (take (end_at others (count + 1)) new)
narrow-next text count values value item offsets others old new same counted small room stored put has =
    let items = map bytes_of values in
    let end = end_at offsets count in
    let here : (count + 1) * 4 ≡ count * 4 + 4 = omega arith in
    let next : (count + 1 + 1) * 4 ≡ count * 4 + 4 + 4 = omega arith in
    let some : take ((count + 1) * 4) offsets ≢ [] = λ none. absurd (omega (arith, ap length none, length-take ((count + 1) * 4) offsets)) in
    let there : take ((count + 1) * 4) offsets ≡ offset_bytes false items = offsets-there false items (take ((count + 1) * 4) offsets) some has.0 in
    let total : length (concat items) + length item < 2 ^ 31 = omega (arith, small, total-push values value, ap length same) in
    let reach : end ≡ length (concat items) = end-there offsets items count (counted ∙ sym (length-map values bytes_of)) (omega (arith, total)) there in
    let last : end_at others (count + 1) ≡ end + length item =
    ap (λ k. number_at others k 4) here ∙ end-put others offsets (count * 4 + 4) (end + length item) (omega (arith, room)) (omega (arith, reach, total)) put in
    between-push false values value item (take ((count + 1 + 1) * 4) others) (take end old) (take (end_at others (count + 1)) new) same
    (inl (
    ap (λ n. take n others) next ∙ put ∙ ap (λ (bs : List ℕ). bs ++ le_bytes 4 (end + length item)) (ap (λ n. take n offsets) (sym here) ∙ there)
    ∙ sym (offsets-push false items item (end + length item) (omega (arith, reach)))
    ))
    has.1 (ap (λ n. take n new) last ∙ stored)

pub narrow-more : (shape : Shape) (text : Bool) (count : ℕ) (values : List Value) (value : Value) (item offsets others old new : List ℕ)
    → shape ≡ shapes.Between false text → bytes_of value ≡ item → count ≡ length values → byte_total (values ++ value ∷ []) < 2 ^ 31
    → count * 4 + 8 ≤ length offsets
    → take (end_at offsets count + length item) new ≡ take (end_at offsets count) old ++ item
    → take (count * 4 + 4 + 4) others ≡ take (count * 4 + 4) offsets ++ le_bytes 4 (end_at offsets count + length item)
    → HasBytes shape values (offsets_in shape count offsets) (bytes_in shape count offsets old)
    → HasBytes shape (values ++ value ∷ []) (offsets_in shape (count + 1) others) (bytes_in shape (count + 1) others new)
narrow-more shape text count values value item offsets others old new narrow same counted small room stored put has =
    let Had : Shape → Type 0 = λ s. HasBytes s values (offsets_in s count offsets) (bytes_in s count offsets old) in
    let Has : Shape → Type 0 = λ s. HasBytes s (values ++ value ∷ []) (offsets_in s (count + 1) others) (bytes_in s (count + 1) others new) in
    subst Has (sym narrow) (narrow-next text count values value item offsets others old new same counted small room stored put (subst Had narrow has))

-- the bytes behind the last offset say nothing
pub narrow-same : (shape : Shape) (count : ℕ) (values : List Value) (offsets old new : List ℕ) → IsNarrow shape
    → take (end_at offsets count) new ≡ take (end_at offsets count) old
    → HasBytes shape values (offsets_in shape count offsets) (bytes_in shape count offsets old)
    → HasBytes shape values (offsets_in shape count offsets) (bytes_in shape count offsets new)
narrow-same shape count values offsets old new narrow same has =
    let Had : Shape → Type 0 = λ s. HasBytes s values (offsets_in s count offsets) (bytes_in s count offsets old) in
    let Has : Shape → Type 0 = λ s. HasBytes s values (offsets_in s count offsets) (bytes_in s count offsets new) in
    let had = subst Had narrow.1 has in
    subst Has (sym narrow.1) (had.0, same ∙ had.1)

-- nor what is behind the last of them
pub offsets-same : (shape : Shape) (count : ℕ) (values : List Value) (others offsets bytes : List ℕ) → IsNarrow shape
    → take (count * 4 + 4) others ≡ take (count * 4 + 4) offsets
    → HasBytes shape values (offsets_in shape count offsets) (bytes_in shape count offsets bytes)
    → HasBytes shape values (offsets_in shape count others) (bytes_in shape count others bytes)
offsets-same shape count values others offsets bytes narrow kept has =
    let here : (count + 1) * 4 ≡ count * 4 + 4 = omega arith in
    let Had : Shape → Type 0 = λ s. HasBytes s values (offsets_in s count offsets) (bytes_in s count offsets bytes) in
    let Has : Shape → Type 0 = λ s. HasBytes s values (offsets_in s count others) (bytes_in s count others bytes) in
    let Kept : List ℕ → ℕ → Type 0 = λ os end. HasBytes (shapes.Between false narrow.0) values os (take end bytes) in
    let same : take ((count + 1) * 4) others ≡ take ((count + 1) * 4) offsets =
    ap (λ n. take n others) here ∙ kept ∙ ap (λ n. take n offsets) (sym here) in
    subst Has (sym narrow.1)
    (subst (λ (os : List ℕ). Kept os (end_at others count)) (sym same)
    (subst (Kept (take ((count + 1) * 4) offsets)) (sym (end-same others offsets count kept)) (subst Had narrow.1 has)))

-- the offsets of the items are there, once they have begun
begun : (count : ℕ) (items : List (List ℕ)) (offsets : List ℕ) → count ≡ length items → offsets ≢ []
    → HasOffsets false items (take ((count + 1) * 4) offsets) → count * 4 + 4 ≤ length offsets
begun count items offsets is some (inl has) =
    omega (arith, ap length has, length-take ((count + 1) * 4) offsets, length-offset_bytes false items)
begun count items [] is some (inr none) = absurd (some refl)
begun count items (byte ∷ offsets) is some (inr none) =
    absurd (omega (arith, ap length none.0, length-take ((count + 1) * 4) (byte ∷ offsets)))

pub narrow-there : (builder : Builder) → HoldsSome builder → IsNarrow builder.shape → builder.offsets.items ≢ []
    → builder.count * 4 + 4 ≤ length builder.offsets.items
narrow-there builder holding narrow some =
    let values = holding.1 in
    let holds = holding.2 in
    let Has : Shape → Type 0 = λ s. HasBytes s values (offsets_in s builder.count builder.offsets.items) (bytes_in s builder.count builder.offsets.items builder.bytes.items) in
    let has = subst Has narrow.1 holds.bytes in
    begun builder.count (map bytes_of values) builder.offsets.items (holds.count ∙ sym (length-map values bytes_of)) some has.0

-- ---- truth values

pub truths-bits : (builder : Builder) (kind : DataType) (values : List Value) → builder.shape ≡ shapes.Truths → Holds builder kind values
    → builder.bytes.items ≡ bit_bytes (map is_set values)
truths-bits builder kind values is holds =
    let Has : Shape → Type 0 = λ s. HasBytes s values (offsets_in s builder.count builder.offsets.items) (bytes_in s builder.count builder.offsets.items builder.bytes.items) in
    subst Has is holds.bytes

-- ---- where the next bytes are stored

-- the bytes of the items are there
pub narrow-inside : (builder : Builder) → HoldsSome builder → IsNarrow builder.shape → builder.count * 4 + 4 ≤ length builder.offsets.items
    → end_at builder.offsets.items builder.count ≤ length builder.bytes.items
narrow-inside builder holding narrow begun =
    let values = holding.1 in
    let holds = holding.2 in
    let items = map bytes_of values in
    let offsets = builder.offsets.items in
    let Has : Shape → Type 0 = λ s. HasBytes s values (offsets_in s builder.count offsets) (bytes_in s builder.count offsets builder.bytes.items) in
    let has = subst Has narrow.1 holds.bytes in
    let first = take ((builder.count + 1) * 4) offsets in
    let some : first ≢ [] = λ none. absurd (omega (arith, ap length none, length-take ((builder.count + 1) * 4) offsets)) in
    let small = narrow-small holding.0 values builder.shape holds.shape narrow holds.fits in
    let reach = end-there offsets items builder.count (holds.count ∙ sym (length-map values bytes_of)) (omega (arith, small)) (offsets-there false items first some has.0) in
    omega (arith, reach, ap length has.1, length-take (end_at offsets builder.count) builder.bytes.items)

-- an offset is there, or none is yet
pub narrow-begun : (builder : Builder) → HoldsSome builder → IsNarrow builder.shape → HasEnd builder.offsets.items builder.count
narrow-begun builder holding narrow = some builder.offsets.items refl
  where
    some : (offsets : List ℕ) → builder.offsets.items ≡ offsets → HasEnd offsets builder.count
    some [] is = inl refl
    some (byte ∷ offsets) is =
        inr (omega (arith, narrow-there builder holding narrow (λ none. cc (sym is ∙ none)), ap length is))

-- nor with one value more
pub total-small : (builder : Builder) (kind : DataType) (values : List Value) (value : Value) → Holds builder kind values → Takes builder value
    → IsNarrow builder.shape → byte_total (values ++ value ∷ []) < 2 ^ 31
total-small builder kind values value holds takes narrow =
    narrow-within (is_wide kind) (form_of kind) narrow.0 (byte_total (values ++ value ∷ []))
    (sym (shape-same kind holds.fits.flat) ∙ sym holds.shape ∙ narrow.1)
    (within-kind (is_wide kind) (form_of kind) values value holds.fits.small (taken-kept builder kind values value holds takes))
