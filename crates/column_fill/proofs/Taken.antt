-- A column takes each of the values that can be a column's, behind those before it.
use Rattle.std.proofs.Common.{◌≡◌, ◌≢◌, ◌∙◌, ◌≤◌, ◌<◌, ◌+◌, ◌-◌, ◌^◌, ◌++◌, ℕ, suc, Bool, true, false, List, [], ◌∷◌, length, map, take, drop, get_or}
use Rattle.std.proofs.Common.{replicate, refl, sym, ap, subst, arith}
use Rattle.std.proofs.Math.Seq.{get_or-append_seam, split_at}
use Rattle.std.proofs.lemmas.Bool.Decides.{nat_tests}
use Rattle.std.proofs.lemmas.List.{append_assoc, length-append, length-replicate, map-append, replicate-append-replicate}
use Rattle.std.proofs.lemmas.Grind.{flat_map-append}
use Rattle.std.specs.Prelude.{Option, None, Some, if◌then◌else◌, nat_lt}
use Rattle.std.specs.List.{concat, flat_map}
use Rattle.data_types.specs.promise.FieldText.{Form, form_of}
use Rattle.data_types.specs.promise.Storage.{storage_of}
use Rattle.data_types.specs.promise.Value.{Value, Null, byte_total, bytes_of}
use Rattle.data_types.specs.declared.kind.DataType.{DataType}
use Rattle.data_types.specs.declared.storage.Storage.{Storage}
use Rattle.col_build.specs.promise.Encoding.{are_within, is_by_offsets, is_wide, is_within}
use Rattle.col_build.specs.Encoding.{Fits, push_fault}
use Rattle.col_build.specs.Holding.{Holds}
use Rattle.col_build.specs.Times.{TakesTimes}
use Rattle.col_build.specs.declared.builder.Builder.{Builder}
use Rattle.data_types.specs.promise.Table.{Flat}
use Rattle.raw_array.specs.promise.Members.{ArrayTree}
use Rattle.data_types.specs.promise.ColumnKinds.{type_of_kind}
use Rattle.data_types.specs.promise.KindTrees.{kind_in}
use Rattle.layout_rules.specs.promise.Values.{tree_items, value_at}
use Rattle.arr_import.specs.Plain.{ShowsItems, is_valid_in, storage_in, valid_item}
use Rattle.arr_import.specs.declared.plain.Plain.{Plain}
use Rattle.arr_import.specs.Window.{Window, item_at, whole}
use Rattle.column_fill.specs.Takes.{IsStored, Takes}
use Rattle.column_fill.proofs.ItemsMoved.{item-of}
use Rattle.column_fill.proofs.ValuesTaken.{taken-behind, taken-stored}
use Rattle.column_fill.specs.Gathered.{CanGather, CanGatherPlaces, shown_at, values_at}

-- ---- fewer bytes are reached where more are

form-fewer : (wide : Bool) (form : Form) (few many : ℕ) → few ≤ many → is_within wide form many ≡ true → is_within wide form few ≡ true
form-fewer true form few many le near = refl
form-fewer false form few many le near =
    elim (is_by_offsets form) as (λ b. (if b then nat_lt many (2 ^ 31) else true) ≡ true → (if b then nat_lt few (2 ^ 31) else true) ≡ true) [
      | true ↦ λ e. grind (arith, nat_tests, le, e)
      | false ↦ λ e. refl
    ] near

fewer : (wide : Bool) (form : Option Form) (few many : ℕ) → few ≤ many → are_within wide form many ≡ true → are_within wide form few ≡ true
fewer wide None few many le near = refl
fewer wide (Some form) few many le near = form-fewer wide form few many le near

total-append : (xs ys : List Value) → byte_total (xs ++ ys) ≡ byte_total xs + byte_total ys
total-append [] ys = omega arith
total-append (x ∷ xs) ys =
    omega (
      arith,
      total-append xs ys,
      length-append (bytes_of x) (concat (map bytes_of (xs ++ ys))),
      length-append (bytes_of x) (concat (map bytes_of xs)),
    )

total-cons : (v : Value) (vs : List Value) → byte_total (v ∷ vs) ≡ length (bytes_of v) + byte_total vs
total-cons v vs = length-append (bytes_of v) (concat (map bytes_of vs))

-- ---- one value

alone : (kind : DataType) (before after : List Value) (v : Value) → Fits kind (before ++ v ∷ after) → push_fault kind [] v ≡ None
alone kind before after v items =
    let many = length-append before (v ∷ after) in
    subst (λ (w : Value). push_fault kind [] w ≡ None) (get_or-append_seam before v after Null) (items.each (length before) Null (omega (arith, many)))

taken-one : (kind : DataType) (before after : List Value) (v : Value) → Fits kind (before ++ v ∷ after) → push_fault kind before v ≡ None
taken-one kind before after v items =
    let total = total-append before (v ∷ after) in
    let own = total-cons v after in
    taken-behind kind before v (alone kind before after v items)
    (fewer (is_wide kind) (form_of kind) (byte_total before + length (bytes_of v)) (byte_total (before ++ v ∷ after)) (omega (arith, total, own)) items.small)

stored-one : (kind : DataType) (before after : List Value) (v : Value) (storage : Storage) → Fits kind (before ++ v ∷ after) → storage ≡ storage_of kind
    → IsStored storage v
stored-one kind before after v storage items stored =
    subst (λ (s : Storage). IsStored s v) (sym stored) (taken-stored kind v (alone kind before after v items))

pub takes-one : (kind : DataType) (before after all : List Value) (v : Value) (builder : Builder) (storage : Storage) → all ≡ before ++ v ∷ after
    → Fits kind all → Holds builder kind before → storage ≡ storage_of kind → Takes builder storage v
takes-one kind before after all v builder storage split are holds stored =
    let items = subst (Fits kind) split are in
    record {
      kind = kind;
      values = before;
      holds = holds;
      few = omega (arith, items.few, length-append before (v ∷ after));
      stored = stored;
      is = stored-one kind before after v storage items stored;
      taken = taken-one kind before after v items;
    }

-- ---- the items of numbers

pub next-of : (f : ℕ → Value) (kept : List ℕ) (k : ℕ) → k < length kept
    → map f kept ≡ map f (take k kept) ++ f (get_or kept k 0) ∷ map f (drop (suc k) kept)
next-of f kept k small =
    ap (map f) (split_at kept k 0 small) ∙ map-append f (take k kept) (get_or kept k 0 ∷ drop (suc k) kept)

-- ---- an item that is there as often

repeat-split : (v : Value) (times j : ℕ) → j < times → replicate times v ≡ replicate j v ++ v ∷ replicate (times - suc j) v
repeat-split v times j small =
    let whole : times ≡ j + suc (times - suc j) = omega (arith, small) in
    ap (λ n. replicate n v) whole ∙ sym (replicate-append-replicate j (suc (times - suc j)) v)

inside-repeat : (before after : List Value) (v : Value) (times j : ℕ) → j < times
    → before ++ (replicate times v ++ after) ≡ (before ++ replicate j v) ++ v ∷ (replicate (times - suc j) v ++ after)
inside-repeat before after v times j small =
    let more = replicate (times - suc j) v in
    ap (λ (vs : List Value). before ++ (vs ++ after)) (repeat-split v times j small)
    ∙ ap (λ (vs : List Value). before ++ vs) (append_assoc (replicate j v) (v ∷ more) after)
    ∙ sym (append_assoc before (replicate j v) (v ∷ (more ++ after)))

pub takes-times : (kind : DataType) (before after : List Value) (v : Value) (times : ℕ) (builder : Builder)
    → Fits kind (before ++ (replicate times v ++ after)) → Holds builder kind before → TakesTimes builder v times
takes-times kind before after v times builder items holds = record {
  kind = kind;
  values = before;
  holds = holds;
  few = omega (
    arith,
    items.few,
    length-append before (replicate times v ++ after),
    length-append (replicate times v) after,
    length-replicate times v,
  );
  each = λ i small. taken-one kind (before ++ replicate i v) (replicate (times - suc i) v ++ after) v
      (subst (Fits kind) (inside-repeat before after v times i small) items);
}

pub stored-times : (kind : DataType) (before after : List Value) (v : Value) (times : ℕ) (storage : Storage)
    → Fits kind (before ++ (replicate times v ++ after)) → storage ≡ storage_of kind → times ≢ 0 → IsStored storage v
stored-times kind before after v times storage items stored often =
    stored-one kind (before ++ []) (replicate (times - 1) v ++ after) v storage
    (subst (Fits kind) (inside-repeat before after v times 0 (omega (arith, often))) items) stored

-- ---- the items of runs

pub run-split : {X : Type 0} (f : X → List Value) (runs : List X) (k : ℕ) (none : X) → k < length runs
    → flat_map f runs ≡ flat_map f (take k runs) ++ (f (get_or runs k none) ++ flat_map f (drop (suc k) runs))
run-split f runs k none small =
    ap (flat_map f) (split_at runs k none small) ∙ flat_map-append f (take k runs) (get_or runs k none ∷ drop (suc k) runs)

-- ---- the items of a column that is read by its places

-- a function gives the same of each
map-same : (f g : ℕ → Value) (kept : List ℕ) → ((k : ℕ) → k < length kept → f (get_or kept k 0) ≡ g (get_or kept k 0)) → map f kept ≡ map g kept
map-same f g [] same = refl
map-same f g (i ∷ kept) same =
    ap (λ (v : Value). v ∷ map f kept) (same 0 (omega arith))
    ∙ ap (λ (vs : List Value). g i ∷ vs) (map-same f g kept (λ k small. same (suc k) (omega (arith, small))))

-- the items of an array, by their places
pub shown-is : (kind : DataType) (array : ArrayTree) (start : ℕ) (kept : List ℕ) (items : Plain) (w : Window) → w ≡ whole (type_of_kind (Flat kind)) array
    → CanGather kind array start kept → ShowsItems items w.count (item_at w)
    → values_at (type_of_kind (Flat kind)) array start kept ≡ shown_at items start kept
shown-is kind array start kept items w is can shows =
    map-same (λ i. value_at (type_of_kind (Flat kind)) array (start + i))
    (λ i. if is_valid_in items (start + i) then valid_item items (start + i) else Null) kept
    (λ k small.
    let n = start + get_or kept k 0 in
    let all : tree_items array ≡ w.count = sym (ap (λ (v : Window). v.count) is) in
    let inside : n < w.count = subst (λ m. n < m) all (can.inside k 0 small) in
    sym (item-of (Flat kind) (type_of_kind (Flat kind)) array w n is refl) ∙ shows.items n inside)

pub places-gather : (kind : DataType) (array : ArrayTree) (start : ℕ) (kept : List ℕ) (items : Plain) (w : Window) → w ≡ whole (type_of_kind (Flat kind)) array
    → CanGather kind array start kept → ShowsItems items w.count (item_at w) → storage_in items ≡ storage_of (kind_in w.typed)
    → CanGatherPlaces kind items start kept
places-gather kind array start kept items w is can shows stored = record {
  there = λ k d small.
      let all : tree_items array ≡ w.count = sym (ap (λ (v : Window). v.count) is) in
      shows.there (start + get_or kept k d) (subst (λ m. start + get_or kept k d < m) all (can.inside k d small));
  stored = stored ∙ ap (λ (v : Window). storage_of (kind_in v.typed)) is;
  fits = subst (Fits kind) (shown-is kind array start kept items w is can shows) can.items;
}
