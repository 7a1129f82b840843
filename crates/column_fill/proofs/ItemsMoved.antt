-- The items of some numbers, one after the other.
use Rattle.std.proofs.Common.{◌≡◌, ◌≢◌, ◌∙◌, ◌≤◌, ◌<◌, ◌+◌, ◌*◌, ◌^◌, ◌++◌, ℕ, ℤ, Bool, List, [], ◌∷◌, length, map, take, get_or}
use Rattle.std.proofs.Common.{refl, sym, ap, subst, arith}
use Rattle.std.proofs.lemmas.List.{get_or-map, length-map, length-take, map_more, take-map}
use Rattle.data_types.specs.ColumnForms.{IsColumnKind}
use Rattle.data_types.specs.FieldText.{IsValueOf}
use Rattle.data_types.specs.promise.Storage.{storage_of}
use Rattle.data_types.specs.promise.Table.{Kind}
use Rattle.data_types.specs.promise.Value.{Value, Null, Bytes, Truth, Whole, byte_total, bytes_of}
use Rattle.data_types.specs.declared.kind.DataType.{DataType}
use Rattle.data_types.specs.declared.storage.Storage.{Storage}
use Rattle.data_types.specs.declared.storage.Storage.TheVariants as stored
use Rattle.col_build.specs.Holding.{Holds, HoldsWholes, Takes as IsTaken}
use Rattle.col_build.specs.declared.builder.Builder.{Builder}
use Rattle.raw_array.specs.promise.Members.{ArrayTree}
use Rattle.data_types.specs.promise.ColumnKinds.{type_of_kind}
use Rattle.data_types.specs.promise.KindTrees.{KindTree}
use Rattle.layout_rules.specs.promise.Values.{value_at}
use Rattle.arr_import.specs.Window.{Window, item_at, whole}
use Rattle.stream_face.specs.Lawful.{AreValues}
use Rattle.column_fill.specs.Takes.{IsStored, Takes}
use Rattle.column_fill.proofs.ValuesTaken.{before-small, value-stored, value-taken}

-- an item of all items of an array of the kind
pub item-of : (kind : Kind) (typed : KindTree) (array : ArrayTree) (w : Window) (j : ℕ) → w ≡ whole typed array → typed ≡ type_of_kind kind
    → item_at w j ≡ value_at (type_of_kind kind) array j
item-of kind typed array w j is same =
    let e : 0 + j ≡ j = omega arith in
    ap (λ (v : Window). item_at v j) is ∙ (λ n. value_at (same n) array (e n))

-- the items of one number more
pub one-more : (f : ℕ → Value) (kept : List ℕ) (k : ℕ) → k < length kept → map f (take (k + 1) kept) ≡ map f (take k kept) ++ f (get_or kept k 0) ∷ []
one-more f kept k small = map_more f kept k 0 small

-- the column takes the next of its values
pub takes-next : (kind : DataType) (f : ℕ → Value) (kept : List ℕ) (k : ℕ) (builder : Builder) (storage : Storage) → IsColumnKind kind
    → AreValues kind (map f kept) → length kept ≤ 2 ^ 30 → k < length kept
    → Holds builder kind (map f (take k kept)) → storage ≡ storage_of kind
    → Takes builder storage (f (get_or kept k 0))
takes-next kind f kept k builder storage is are few small holds stored =
    let items = map f kept in
    let long : length items ≡ length kept = length-map kept f in
    let within : k < length items = omega (arith, long, small) in
    let here : get_or items k Null ≡ f (get_or kept k 0) = get_or-map f kept k 0 Null small in
    let of : IsValueOf kind (f (get_or kept k 0)) = subst (IsValueOf kind) here (are.0 k Null within) in
    let before : take k items ≡ map f (take k kept) = take-map f k kept in
    let total = ap byte_total before in
    let own = ap (λ (v : Value). length (bytes_of v)) here in
    let fewer = length-map (take k kept) f in
    let shorter = length-take k kept in
    record {
      kind = kind;
      values = map f (take k kept);
      holds = holds;
      few = omega (arith, fewer, shorter, few);
      stored = stored;
      is = subst (λ (s : Storage). IsStored s (f (get_or kept k 0))) (sym stored) (value-stored kind (f (get_or kept k 0)) of);
      taken = value-taken kind (map f (take k kept)) (f (get_or kept k 0)) is of (omega (arith, before-small items k Null within, total, own, are.1));
    }

-- ---- what a builder takes by the adds

pub taken : (builder : Builder) (storage : Storage) (value : Value) → Takes builder storage value → IsTaken builder value
taken builder storage value takes = (takes.kind, takes.values, takes.holds, takes.few, takes.taken)

-- the column of a type whose values are whole numbers of this many bytes
pub holds-wholes : (builder : Builder) (kind : DataType) (values : List Value) (width : ℕ) (signed : Bool) → Holds builder kind values
    → storage_of kind ≡ stored.Wholes (8 * width) signed → HoldsWholes width builder
holds-wholes builder kind values width signed holds is = λ type vs own. (signed, ap storage_of (sym own.is_kind ∙ holds.is_kind) ∙ is)

-- ---- what isn't a value of its storage is null

null-or-truth : (v : Value) → IsStored stored.Truths v → ((truth : Bool) → v ≢ Truth truth) → v ≡ Null
null-or-truth Null is none = refl
null-or-truth (Truth t) is none = absurd (none t refl)
null-or-truth _ is none = absurd is

null-or-whole : (bits : ℕ) (signed : Bool) (v : Value) → IsStored (stored.Wholes bits signed) v → ((number : ℤ) → v ≢ Whole number) → v ≡ Null
null-or-whole bits signed Null is none = refl
null-or-whole bits signed (Whole n) is none = absurd (none n refl)
null-or-whole bits signed _ is none = absurd is

null-or-bytes : (wide text : Bool) (v : Value) → IsStored (stored.Between wide text) v → ((bytes : List ℕ) → v ≢ Bytes bytes) → v ≡ Null
null-or-bytes wide text Null is none = refl
null-or-bytes wide text (Bytes bytes) is none = absurd (none bytes refl)
null-or-bytes wide text _ is none = absurd is

pub no-truth : (builder : Builder) (v : Value) → Takes builder stored.Truths v → ((truth : Bool) → v ≢ Truth truth) → v ≡ Null
no-truth builder v takes none = null-or-truth v takes.is none

pub no-bytes : (builder : Builder) (wide text : Bool) (v : Value) → Takes builder (stored.Between wide text) v
    → ((bytes : List ℕ) → v ≢ Bytes bytes) → v ≡ Null
no-bytes builder wide text v takes none = null-or-bytes wide text v takes.is none

pub no-whole : (builder : Builder) (bits : ℕ) (signed : Bool) (v : Value) → Takes builder (stored.Wholes bits signed) v
    → ((number : ℤ) → v ≢ Whole number) → v ≡ Null
no-whole builder bits signed v takes none = null-or-whole bits signed v takes.is none
