-- The indices of a column with a dictionary: what they are, and what they stand for.
use Rattle.std.proofs.Common.{◌≡◌, ◌≢◌, ◌∙◌, ◌≤◌, ◌<◌, ◌+◌, ◌*◌, ◌-◌, ◌^◌, ◌||◌, ℕ, ℤ, zero, suc, pos, negsuc, Bool, true, false, List, [], ◌∷◌}
use Rattle.std.proofs.Common.{rules, length, map, get_or, All, Option, None, Some, refl, sym, ap, subst, arith}
use Rattle.std.proofs.lemmas.List.{length-map}
use Rattle.std.proofs.lemmas.List.Elements.{All-cons, All-head, All-tail}
use Rattle.std.specs.Prelude.{◌≤ℤ◌, nat_lt, if◌then◌else◌}
use Rattle.std.specs.List.{list_any}
use Rattle.data_types.specs.ColumnForms.{IsColumnKind}
use Rattle.data_types.specs.FieldText.{IsValueOf}
use Rattle.data_types.specs.promise.Table.{Dict}
use Rattle.data_types.specs.promise.Value.{Value, Null, Truth, Whole, Bits, Bytes, Items, Fields, byte_total, bytes_of, is_null}
use Rattle.data_types.specs.declared.kind.DataType.{DataType}
use Rattle.data_types.specs.promise.Packed.{meant, number_at}
use Rattle.tree_model.specs.promise.TreeData.{Released, Live, Trees, no_trees, more_trees, absent, present}
use Rattle.tree_model.specs.promise.TreeParts.{IsLive, children_of, dictionary_of}
use Rattle.tree_model.specs.Tree.{Depth, dictionary_at}
use Rattle.raw_array.specs.promise.Members.{ArrayMembers, ArrayTree, members_of}
use Rattle.col_build.specs.Encoding.{Fits}
use Rattle.col_build.specs.promise.Finished.{blocks_of}
use Rattle.data_types.specs.promise.ColumnKinds.{type_of_kind}
use Rattle.data_types.specs.promise.KindTrees.{KindTree}
use Rattle.layout_rules.specs.promise.Layout.{buffer, bytes, end, first, is_valid, natural, stored_number}
use Rattle.layout_rules.specs.Layout.{IsLong}
use Rattle.layout_rules.specs.promise.Rules.{one_if, window_limit}
use Rattle.layout_rules.specs.promise.Values.{each, tree_items, value_at, values_of}
use Rattle.layout_rules.specs.promise.Walk.{LayoutOk}
use Rattle.layout_rules.specs.Within.{IndexWithin}
use Rattle.arr_export.specs.ArrayTrees.{AreIndices, IsPlaceOf, flat_type, looked_up}
use Rattle.stage_model.specs.promise.Traffic.{flat_blocks}
use Rattle.stage_model.specs.Traffic.{index_blocks, row_blocks}
use Rattle.stream_face.specs.Lawful.{AreValues}
use Rattle.column_fill.specs.Gathered.{values_at}
use Rattle.stage_filter.specs.Kept.{index_in}
use Rattle.stage_filter.specs.KeptTrees.{index_type, indices_at}
use Rattle.stage_filter.specs.Moving.{CanMove}
use Rattle.column_fill.proofs.ColumnBlocks.{blocks-are}
use Rattle.stage_filter.proofs.LawTypes.{ItemsLaw, PartsLaw, RootLaw}
use Rattle.column_fill.proofs.Counts.{length-each}
use Rattle.stage_filter.proofs.Sifted.{total-cons}
use Rattle.column_fill.proofs.ValuesTaken.{values-fit}

-- ---- one index

-- an index into a dictionary, or null, and the value that it stands for
pub record IsIndex (type : KindTree) (dictionary : ArrayTree) (index value : Value) : Type 0 where
  pub of : IsValueOf index_type index
  pub no_bytes : bytes_of index ≡ []
  pub place : IsPlaceOf (tree_items dictionary) index
  pub looked : looked_up (values_of type dictionary) index ≡ value
  pub nulls : All (λ v. v ≢ Null) (values_of type dictionary) → is_null index ≡ is_null value

there : {X : Type 0} → (f : ℕ → X) (from n i : ℕ) (d : X) → i < n → get_or (each f from n) i d ≡ f (from + i)
there f from zero i d small = absurd (omega (arith, small))
there f from (suc n) zero d small = let e : from ≡ from + 0 = omega arith in ap f e
there f from (suc n) (suc i) d small =
    let e : suc from + i ≡ from + suc i = omega arith in
    there f (suc from) n i d (omega (arith, small)) ∙ ap f e

entry : (type : KindTree) (d : ArrayTree) (n : ℕ) → n < tree_items d → get_or (values_of type d) n Null ≡ value_at type d n
entry type d n small = let e : 0 + n ≡ n = omega arith in there (value_at type d) 0 (tree_items d) n Null small ∙ ap (value_at type d) e

not-null : (v : Value) → v ≢ Null → is_null v ≡ false
not-null Null differs = absurd (differs refl)
not-null (Truth t) differs = refl
not-null (Whole n) differs = refl
not-null (Bits n) differs = refl
not-null (Bytes b) differs = refl
not-null (Items vs) differs = refl
not-null (Fields vs) differs = refl

full-entry : (type : KindTree) (d : ArrayTree) (n : ℕ) → n < tree_items d → All (λ v. v ≢ Null) (values_of type d) → is_null (value_at type d n) ≡ false
full-entry type d n small full =
    let within : n < length (values_of type d) = omega (arith, length-each (value_at type d) 0 (tree_items d), small) in
    not-null (value_at type d n) (subst (λ (v : Value). v ≢ Null) (entry type d n small) (full n Null within))

at-index : (type : KindTree) (d : ArrayTree) (valid : Bool) (number : ℤ)
    → (valid ≡ true → (pos 0 ≤ℤ number) × (natural number < tree_items d)) → ((n : ℕ) → number ≡ pos n → nat_lt n (2 ^ 31) ≡ true)
    → IsIndex type d (if valid then Whole number else Null) (if valid then value_at type d (natural number) else Null)
at-index type d false number within small = record { of = tt; no_bytes = refl; place = tt; looked = refl; nulls = λ full. refl }
at-index type d true (pos n) within small =
    record {
      of = small n refl;
      no_bytes = refl;
      place = (within refl).1;
      looked = entry type d n (within refl).1;
      nulls = λ full. sym (full-entry type d n (within refl).1 full);
    }
at-index type d true (negsuc n) within small = let low = (within refl).0 in absurd (omega (arith, low))

-- a number of four bytes that isn't below 0 is in the range of an index
meant-by : (b : Bool) (stored n : ℕ) → nat_lt stored (2 ^ 31) ≡ b → (if b then pos stored else negsuc (2 ^ 32 - 1 - stored)) ≡ pos n
    → nat_lt n (2 ^ 31) ≡ true
meant-by true stored n e is = let same : stored ≡ n = cc in subst (λ m. nat_lt m (2 ^ 31) ≡ true) same e
meant-by false stored n e is = absurd (cc)

meant-small : (stored n : ℕ) → meant 4 true stored ≡ pos n → nat_lt n (2 ^ 31) ≡ true
meant-small stored n is = meant-by (nat_lt stored (2 ^ 31)) stored n refl is

of-node : (kind : DataType) (own : ArrayMembers) (children : Trees ArrayMembers) (d : ArrayTree) (j : ℕ) → IndexWithin index_type own j d
    → IsIndex (flat_type kind None) d (value_at (flat_type index_type None) (Live own children (present d)) j)
    (value_at (type_of_kind (Dict kind)) (Live own children (present d)) j)
of-node kind own children d j within =
    at-index (flat_type kind None) d (is_valid own j) (stored_number 4 true own j) within
    (λ n is. meant-small (number_at (bytes own 1) ((first own + j) * 4) 4) n is)

-- ---- the dictionary of an array

-- a lawful array with a dictionary of values
pub record HasDictionary (kind : DataType) (array : ArrayTree) : Type 0 where
  pub live : IsLive array
  pub there : IsLive (dictionary_at array)
  pub ok : LayoutOk (flat_type kind None) (dictionary_at array)
  pub not_deep : Depth (dictionary_at array) ≤ 1
  pub index : (j : ℕ) → j < tree_items array
      → IsIndex (flat_type kind None) (dictionary_at array) (value_at (flat_type index_type None) array j) (value_at (type_of_kind (Dict kind)) array j)

no-parts : (t : ArrayTree) → length (children_of t) ≡ 0 → one_if (dictionary_of t) ≡ 0 → Depth t ≤ 1
no-parts Released none alone = omega arith
no-parts (Live own no_trees absent) none alone = omega arith
no-parts (Live own no_trees (present d)) none alone = absurd (omega (arith, alone))
no-parts (Live own (more_trees c cs) d) none alone = absurd (omega (arith, none))

module _ (root : RootLaw) (parts : PartsLaw) (items : ItemsLaw) where
  one-dictionary : (kind : DataType) (array : ArrayTree) → LayoutOk (type_of_kind (Dict kind)) array → IsLive array → one_if (dictionary_of array) ≡ 1
      → HasDictionary kind array
  one-dictionary kind Released ok live one = absurd live
  one-dictionary kind (Live own children absent) ok live one = absurd (omega (arith, one))
  one-dictionary kind (Live own children (present d)) ok live one =
      let typed = type_of_kind (Dict kind) in
      let array : ArrayTree = Live own children (present d) in
      let behind : LayoutOk (flat_type kind None) d = (parts typed array tt ok).dict (flat_type kind None) d refl refl in
      let node = root (flat_type kind None) d tt behind in
      record {
        live = tt;
        there = node.live;
        ok = behind;
        not_deep = no-parts d node.kids node.dict;
        index = λ j small. of-node kind own children d j ((items typed array tt ok).index j (flat_type kind None) d small refl tt refl);
      }

  pub has-dictionary : (kind : DataType) (array : ArrayTree) → LayoutOk (type_of_kind (Dict kind)) array → HasDictionary kind array
  has-dictionary kind array ok =
      let node = root (type_of_kind (Dict kind)) array tt ok in
      one-dictionary kind array ok node.live node.dict

-- ---- where the index of an item is

-- the buffers have an index at a place, which is that of an item
pub record IsPlace (array : ArrayTree) (validity : Option (List ℕ)) (stored : List ℕ) (place j : ℕ) : Type 0 where
  pub near : place < window_limit
  pub long : IsLong (place + 1) validity
  pub there : (place + 1) * 4 ≤ length stored
  pub is : index_in validity stored place ≡ value_at (flat_type index_type None) array j

long-less : (validity : Option (List ℕ)) (few many : ℕ) → few ≤ many → IsLong many validity → IsLong few validity
long-less None few many le long = tt
long-less (Some bits) few many le long = omega (arith, le, long)

own-index : (array : ArrayTree) (j : ℕ) → IsLive array
    → index_in (buffer (members_of array) 0) (bytes (members_of array) 1) (first (members_of array) + j) ≡ value_at (flat_type index_type None) array j
own-index Released j live = absurd live
own-index (Live own children d) j live = refl

place-of : RootLaw → ItemsLaw → (kind : DataType) (array : ArrayTree) → LayoutOk (type_of_kind (Dict kind)) array
    → (j place : ℕ) (validity : Option (List ℕ)) (stored : List ℕ) → j < tree_items array → place ≡ first (members_of array) + j
    → validity ≡ buffer (members_of array) 0 → stored ≡ bytes (members_of array) 1
    → IsPlace array validity stored place j
place-of root items kind array ok j place validity stored small is valid same =
    let node = root (type_of_kind (Dict kind)) array tt ok in
    let within = (items (type_of_kind (Dict kind)) array tt ok).stored j small in
    let size = ap (length {A = ℕ}) same in
    record {
      near = omega (arith, is, small, node.many, node.near);
      long = subst (IsLong (place + 1)) (sym valid)
          (long-less (buffer (members_of array) 0) (place + 1) (end (members_of array)) (omega (arith, is, small, node.many)) node.long);
      there = omega (arith, is, size, within);
      is = (λ n. index_in (valid n) (same n) (is n)) ∙ own-index array j node.live;
    }

-- where the index of the next of some items is
pub next-place : RootLaw → ItemsLaw → (kind : DataType) (array : ArrayTree) (start : ℕ) (kept : List ℕ) → CanMove (Dict kind) array start kept
    → (k number from : ℕ) (validity : Option (List ℕ)) (stored : List ℕ) → k < length kept → number ≡ get_or kept k 0 → from ≡ first (members_of array)
    → validity ≡ buffer (members_of array) 0 → stored ≡ bytes (members_of array) 1
    → IsPlace array validity stored (from + start + number) (start + number)
next-place root items kind array start kept can k number from validity stored small is begins valid same =
    let inside = can.inside k 0 small in
    place-of root items kind array can.ok (start + number) (from + start + number)
    validity stored (omega (arith, is, inside)) (omega (arith, begins)) valid same

-- ---- the indices of some items

map-all : (P : Value → Type 0) (f : ℕ → Value) (Q : ℕ → Type 0) (kept : List ℕ) → ((i : ℕ) → Q i → P (f i)) → All Q kept → All P (map f kept)
map-all P f Q [] each all = λ k d small. absurd (omega (arith, small))
map-all P f Q (i ∷ kept) each all =
    All-cons P (f i) (map f kept) (each i (All-head Q i kept all)) (map-all P f Q kept each (All-tail Q i kept all))

no-bytes : (f : ℕ → Value) (Q : ℕ → Type 0) (kept : List ℕ) → ((i : ℕ) → Q i → bytes_of (f i) ≡ []) → All Q kept → byte_total (map f kept) ≡ 0
no-bytes f Q [] each all = refl
no-bytes f Q (i ∷ kept) each all =
    let none = ap (length {A = ℕ}) (each i (All-head Q i kept all)) in
    omega (arith, none, total-cons (f i) (map f kept), no-bytes f Q kept each (All-tail Q i kept all))

map-twice : (g : Value → Value) (f h : ℕ → Value) (Q : ℕ → Type 0) (kept : List ℕ) → ((i : ℕ) → Q i → g (f i) ≡ h i) → All Q kept
    → map g (map f kept) ≡ map h kept
map-twice g f h Q [] each all = refl
map-twice g f h Q (i ∷ kept) each all = λ n. each i (All-head Q i kept all) n ∷ map-twice g f h Q kept each (All-tail Q i kept all) n

same-nulls : (f h : ℕ → Value) (Q : ℕ → Type 0) (kept : List ℕ) → ((i : ℕ) → Q i → is_null (f i) ≡ is_null (h i)) → All Q kept
    → list_any is_null (map f kept) ≡ list_any is_null (map h kept)
same-nulls f h Q [] each all = refl
same-nulls f h Q (i ∷ kept) each all = λ n. each i (All-head Q i kept all) n || same-nulls f h Q kept each (All-tail Q i kept all) n

same-rows : (f h : ℕ → Value) (kept : List ℕ) → row_blocks (map f kept) ≡ row_blocks (map h kept)
same-rows f h [] = refl
same-rows f h (i ∷ kept) = refl

pub index-kind : IsColumnKind index_type
index-kind = (search rules, tt)

module _ (kind : DataType) (array : ArrayTree) (start : ℕ) (kept : List ℕ) (has : HasDictionary kind array)
    (inside : All (λ i. start + i < tree_items array) kept) where
  abbrev index_at : ℕ → Value
  index_at i = value_at (flat_type index_type None) array (start + i)

  abbrev entry_at : ℕ → Value
  entry_at i = value_at (type_of_kind (Dict kind)) array (start + i)

  abbrev IsInside : ℕ → Type 0
  IsInside i = start + i < tree_items array

  pub index-values : AreValues index_type (indices_at array start kept)
  index-values = (
    map-all (IsValueOf index_type) index_at IsInside kept (λ i small. (has.index (start + i) small).of) inside,
    let none = no-bytes index_at IsInside kept (λ i small. (has.index (start + i) small).no_bytes) inside in omega (arith, none),
  )

  pub indices-fit : length kept ≤ 2 ^ 30 → Fits index_type (indices_at array start kept)
  indices-fit few =
      let long = length-map kept index_at in values-fit index_type (indices_at array start kept) index-kind index-values (omega (arith, long, few))

  pub are-indices : AreIndices index_type (indices_at array start kept) (dictionary_at array)
  are-indices = record {
    kind_ok = tt;
    live = has.there;
    not_deep = omega (arith, has.not_deep);
    places = map-all (IsPlaceOf (tree_items (dictionary_at array))) index_at IsInside kept (λ i small. (has.index (start + i) small).place) inside;
  }

  pub looked-up : map (looked_up (values_of (flat_type kind None) (dictionary_at array))) (indices_at array start kept)
      ≡ values_at (type_of_kind (Dict kind)) array start kept
  looked-up =
      map-twice (looked_up (values_of (flat_type kind None) (dictionary_at array))) index_at entry_at IsInside kept
      (λ i small. (has.index (start + i) small).looked) inside

  -- where no value of the dictionary is null, an index is null where its value is
  pub blocks-of-indices : All (λ v. v ≢ Null) (values_of (flat_type kind None) (dictionary_at array))
      → blocks_of index_type (indices_at array start kept) ≡ index_blocks (values_at (type_of_kind (Dict kind)) array start kept)
  blocks-of-indices full =
      let nulls = same-nulls index_at entry_at IsInside kept (λ i small. (has.index (start + i) small).nulls full) inside in
      let same : flat_blocks index_type (indices_at array start kept) ≡ index_blocks (values_at (type_of_kind (Dict kind)) array start kept) =
      λ n. (if nulls n then 1 else 0) + same-rows index_at entry_at kept n in
      blocks-are index_type (indices_at array start kept) index-kind index-values.0 ∙ same
