-- The items of an array by how its type is stored.
use Rattle.std.proofs.Common.{◌≡◌, ℕ, zero, suc, ◌+◌, ◌/◌, ◌<◌, Bool, true, false, List, [], ◌∷◌, length, get_or, map}
use Rattle.std.proofs.Common.{Option, None, Some, inl, inr, refl, ap, ◌∙◌, sym, subst, true≢false, arith}
use Rattle.std.specs.Prelude.{◌⊎◌, ◌==◌, ◌||◌, IsTrue, if◌then◌else◌}
use Rattle.std.specs.Global.{Box}
use Rattle.std.proofs.lemmas.Bool.{cases_eq}
use Rattle.std.proofs.lemmas.Bool.Decides.{nat_tests}
use Rattle.std.proofs.lemmas.List.{get_or-map, length-map}
use Rattle.std.proofs.Math.Logic.{∥∥₁_elim, ∥∥₁_map}
use Rattle.std.proofs.Props.{props}
use Rattle.data_types.specs.declared.kind.DataType.{DataType}
use Rattle.data_types.specs.declared.kind.DataType.TheVariants as kinds
use Rattle.data_types.specs.declared.kind.Tick.{Tick}
use Rattle.data_types.specs.declared.kind.Tick.TheVariants as ticks
use Rattle.data_types.specs.Kinds.{KindOk}
use Rattle.data_types.specs.promise.Storage.{storage_of}
use Rattle.data_types.specs.promise.Value.{values}
use Rattle.data_types.specs.promise.Value.Value.{Null, Fields}
use Rattle.data_types.specs.Packed.{IsWidth}
use Rattle.tree_model.specs.promise.TreeData.{Released, Live, absent, present, trees, maybe_tree, tree_list}
use Rattle.tree_model.specs.promise.TreeParts.{IsLive, children_of, child_at, dictionary_of}
use Rattle.tree_model.specs.Tree.{Depth}
use Rattle.raw_array.specs.promise.Members.{ArrayMembers, ArrayTree, members_of}
use Rattle.data_types.specs.declared.typed.Typed.{Typed, out-Typed}
use Rattle.layout_rules.specs.declared.layout.Layout.TheVariants.{ByChildren}
use Rattle.data_types.specs.promise.KindTrees.{KindTree}
use Rattle.data_types.specs.KindTrees.{NodesOk, AllNodesOk, DictNodesOk, KidsOk, DictOk, IsOneChild, IsPairOfColumns}
use Rattle.data_types.specs.promise.TypedView.{typed_of}
use Rattle.data_types.specs.TypedView.{kind_of, kids_of, dict_in}
use Rattle.layout_rules.specs.promise.Layout.{laid_out, layout_of, bytes, first, is_valid}
use Rattle.layout_rules.specs.promise.Values.{Reader, each, child_item, field_items, row_items, item_or_entry, value_at, readers, reader_of, tree_items}
use Rattle.layout_rules.specs.Values.{item}
use Rattle.layout_rules.specs.Within.{StoredWithin, ItemsWithin, IndexWithin, ViewWithin, DataWithin}
use Rattle.data_types.specs.declared.storage.Storage.{Storage}
use Rattle.data_types.specs.declared.storage.Storage.TheVariants as storages
use Rattle.arr_import.specs.StoredItems.{stored_item, IsThere, IsListStorage, IsViewStorage, AreItemsThere, IsIndexThere, IsOwn}
use Rattle.arr_import.specs.Window.{Window, Home, IsDictionary, IsStruct, IsStructValue, index_at, home_from, home_of}

-- ---- the widths of numbers

int_width : (bits : ℕ) → ∥ (bits ≡ 8) ⊎ (bits ≡ 16) ⊎ (bits ≡ 32) ⊎ (bits ≡ 64) ∥₁ → IsWidth (bits / 8) × (bits / 8 < 16)
int_width bits h =
    elim (cases_eq bits 8) [
      | inl e ↦ (inl (omega (arith, e)), omega (arith, e))
      | inr a ↦ elim (cases_eq bits 16) [
        | inl e ↦ (inr (inl (omega (arith, e))), omega (arith, e))
        | inr b ↦ elim (cases_eq bits 32) [
          | inl e ↦ (inr (inr (inl (omega (arith, e)))), omega (arith, e))
          | inr c ↦ elim (cases_eq bits 64) [
            | inl e ↦ (inr (inr (inr (inl (omega (arith, e))))), omega (arith, e))
            | inr d ↦ absurd (∥∥₁_elim h (hlevel props)
                (λ s. elim s [ inl e ↦ a e | inr s ↦ elim s [ inl e ↦ b e | inr s ↦ elim s [ inl e ↦ c e | inr e ↦ d e ] ] ]))
          ]
        ]
      ]
    ]

float_width : (bits : ℕ) → ∥ (bits ≡ 16) ⊎ (bits ≡ 32) ⊎ (bits ≡ 64) ∥₁ → IsWidth (bits / 8) × (bits / 8 < 16)
float_width bits h =
    int_width bits (∥∥₁_map h (λ s. inr s))

narrow : (width : ℕ) (signed : Bool) → width < 16 → width ≡ 16 → IsTrue signed
narrow width signed h e = absurd (omega (arith, h, e))

-- the numbers that are stored are of whole bytes
abbrev AreWhole : Storage → Type 0
AreWhole (storages.Wholes bits signed) = IsWidth (bits / 8) × (bits / 8 ≡ 16 → IsTrue signed)
AreWhole (storages.Floats bits) = IsWidth (bits / 8) × (bits / 8 ≡ 16 → IsTrue false)
AreWhole _ = Unit {0}

-- whole numbers of these many bits are
abbrev is_common : Storage → Bool
is_common (storages.Wholes bits signed) = (bits == 32) || (bits == 64)
is_common (storages.Floats bits) = false
is_common _ = true

common-whole : (storage : Storage) → is_common storage ≡ true → AreWhole storage
common-whole (storages.Wholes bits signed) is = by (cases_eq bits 32) (cases_eq bits 64)
  where
    by : (bits ≡ 32) ⊎ ¬ (bits ≡ 32) → (bits ≡ 64) ⊎ ¬ (bits ≡ 64) → AreWhole (storages.Wholes bits signed)
    by (inl e) other = (inr (inr (inl (omega (arith, e)))), λ widest. absurd (omega (arith, e, widest)))
    by (inr a) (inl e) = (inr (inr (inr (inl (omega (arith, e))))), λ widest. absurd (omega (arith, e, widest)))
    by (inr a) (inr b) = absurd (grind (arith, nat_tests, is, a, b))
common-whole (storages.Floats bits) is = absurd (true≢false (sym is))
common-whole _ is = tt

of-tick : (tick : Tick) → is_common (storage_of (kinds.TimeOfDay tick)) ≡ true
of-tick ticks.Second = refl
of-tick _ = refl

are-whole : (kind : DataType) → ∥ KindOk kind ∥₁ → AreWhole (storage_of kind)
are-whole (kinds.Int bits signed) ok = let width = int_width bits ok in (width.0, narrow (bits / 8) signed width.1)
are-whole (kinds.Float bits) ok = let width = float_width bits ok in (width.0, narrow (bits / 8) false width.1)
are-whole (kinds.Decimal precision scale false) ok = (inr (inr (inr (inr refl))), λ widest. refl)
are-whole (kinds.Decimal precision scale true) ok = tt
are-whole (kinds.TimeOfDay tick) ok = common-whole (storage_of (kinds.TimeOfDay tick)) (of-tick tick)
are-whole kind ok = common-whole (storage_of kind) refl

-- what a lawful array's buffers have of an item, by how it is stored
there : (storage : Storage) (own : ArrayMembers) (place : ℕ) → AreWhole storage → StoredWithin (laid_out storage) own place
    → IsThere storage (bytes own 1) (bytes own 2) place
there (storages.Wholes bits signed) own place whole h = record { width_is = whole.0; widest = whole.1; there = h }
there (storages.Floats bits) own place whole h = record { width_is = whole.0; widest = whole.1; there = h }
there storages.Nothing own place whole h = tt
there (storages.FixedLists size) own place whole h = tt
there storages.Children own place whole h = tt
there _ own place whole h = h

pub item-there : (kind : DataType) (storage : Storage) (own : ArrayMembers) (stored text : List ℕ) (place : ℕ) → storage ≡ storage_of kind
    → stored ≡ bytes own 1 → text ≡ bytes own 2
    → ∥ KindOk kind ∥₁ → StoredWithin (layout_of kind) own place → IsThere storage stored text place
item-there kind storage own stored text place s b t ok h =
    subst (λ a. IsThere a stored text place) (sym s)
    (subst (λ a. IsThere (storage_of kind) a text place) (sym b)
    (subst (λ a. IsThere (storage_of kind) (bytes own 1) a place) (sym t) (there (storage_of kind) own place (are-whole kind ok) h)))

-- ---- views

view-named : (storage : Storage) (own : ArrayMembers) (i : ℕ) → IsViewStorage storage → IsTrue (is_valid own i) → ViewWithin (laid_out storage) own i
    → DataWithin own i
view-named (storages.Views text) own i is valid h = h valid
view-named storage own i is valid h = absurd is

-- where the data of a valid view are
pub view-there : (kind : DataType) (storage : Storage) (own : ArrayMembers) (i : ℕ) → storage ≡ storage_of kind → IsViewStorage storage → is_valid own i ≡ true
    → ViewWithin (layout_of kind) own i → DataWithin own i
view-there kind storage own i s is v h = view-named (storage_of kind) own i (subst IsViewStorage s is) v h

-- ---- a node of kinds that is in order

pub kind-ok : (t : Typed) → typed_of t ≡ Live (kind_of t) (trees (kids_of t)) (maybe_tree (dict_in (out-Typed t).dict)) → ∥ NodesOk (typed_of t) ∥₁
    → ∥ KindOk (kind_of t) ∥₁
kind-ok t e h = ∥∥₁_map h (λ ok. (subst NodesOk e ok).0)

all-nodes-ok : (t : Typed) → typed_of t ≡ Live (kind_of t) (trees (kids_of t)) (maybe_tree (dict_in (out-Typed t).dict)) → NodesOk (typed_of t)
    → AllNodesOk (trees (kids_of t))
all-nodes-ok t e ok = (subst NodesOk e ok).3

each-ok : (kids : List Typed) (k : ℕ) (d : Typed) → k < length kids → AllNodesOk (trees (map typed_of kids)) → NodesOk (typed_of (get_or kids k d))
each-ok [] k d h ok = absurd (omega (arith, h))
each-ok (t ∷ ts) zero d h ok = ok.0
each-ok (t ∷ ts) (suc k) d h ok = each-ok ts k d (omega (arith, h)) ok.1

pub kid-ok : (t : Typed) → typed_of t ≡ Live (kind_of t) (trees (kids_of t)) (maybe_tree (dict_in (out-Typed t).dict)) → (k : ℕ) (kid : Typed)
    → k < length (out-Typed t).kids.items → kid ≡ get_or (out-Typed t).kids.items k kid → ∥ NodesOk (typed_of t) ∥₁ → ∥ NodesOk (typed_of kid) ∥₁
kid-ok t e k kid h is ok =
    ∥∥₁_map ok (λ nodes. subst (λ u. NodesOk (typed_of u)) (sym is) (each-ok (out-Typed t).kids.items k kid h (all-nodes-ok t e nodes)))

-- the kid at a place has the tree at the place
pub kid-tree : (kids : List Typed) (k : ℕ) (kid : Typed) → k < length kids → kid ≡ get_or kids k kid → get_or (map typed_of kids) k Released ≡ typed_of kid
kid-tree kids k kid h is = get_or-map typed_of kids k kid Released h ∙ ap typed_of (sym is)

-- ---- the one child of a list

one-of : (kids : List KindTree) (P : KindTree → Type 0) → IsOneChild (trees kids) P → length kids ≡ 1
one-of [] P h = absurd h
one-of (kid ∷ []) P h = refl
one-of (kid ∷ other ∷ others) P h = absurd h

one-kid : (kind : DataType) (kids : List KindTree) → KidsOk kind (trees kids) → IsListStorage (storage_of kind) → length kids ≡ 1
one-kid (kinds.List wide) kids ok h = one-of kids (λ kid. Unit {0}) ok
one-kid (kinds.FixedList size) kids ok h = one-of kids (λ kid. Unit {0}) ok
one-kid kinds.Map kids ok h = one-of kids IsPairOfColumns ok
one-kid (kinds.Decimal precision scale false) kids ok h = absurd h
one-kid (kinds.Decimal precision scale true) kids ok h = absurd h
one-kid kind kids ok h = absurd h

pub one-child : (t : Typed) → typed_of t ≡ Live (kind_of t) (trees (kids_of t)) (maybe_tree (dict_in (out-Typed t).dict))
    → (storage : Storage) → storage ≡ storage_of (kind_of t) → IsListStorage storage → ∥ NodesOk (typed_of t) ∥₁ → length (kids_of t) ≡ 1
one-child t e storage s list ok =
    ∥∥₁_elim ok (hlevel props) (λ nodes. one-kid (kind_of t) (kids_of t) (subst NodesOk e nodes).1 (subst IsListStorage s list))

items-there : (storage : Storage) (own : ArrayMembers) (place total : ℕ) → ItemsWithin (laid_out storage) own place total
    → AreItemsThere storage (bytes own 1) place total
items-there (storages.Lists wide) own place total h = h
items-there (storages.FixedLists size) own place total h = h
items-there _ own place total h = tt

pub are-items-there : (kind : DataType) (storage : Storage) (own : ArrayMembers) (stored : List ℕ) (place total : ℕ) → storage ≡ storage_of kind
    → stored ≡ bytes own 1
    → ItemsWithin (layout_of kind) own place total → AreItemsThere storage stored place total
are-items-there kind storage own stored place total s b h =
    subst (λ a. AreItemsThere a stored place total) (sym s)
    (subst (λ a. AreItemsThere (storage_of kind) a place total) (sym b) (items-there (storage_of kind) own place total h))

-- the items of the one child
pub each-child : (kids : List KindTree) (children : List ArrayTree) (a n : ℕ) → 0 < length kids → 0 < length children
    → each (child_item (readers (trees kids)) children) a n ≡ each (value_at (get_or kids 0 Released) (get_or children 0 Released)) a n
each-child [] children a n h l = absurd (omega (arith, h))
each-child (kid ∷ kids) [] a n h l = absurd (omega (arith, l))
each-child (kid ∷ kids) (child ∷ rest) a n h l = refl

-- ---- whole numbers may have a dictionary

abbrev pub is_int : DataType → Bool
is_int (kinds.Int bits signed) = true
is_int _ = false

int-behind : (kind : DataType) (dict : KindTree) → DictOk kind (present dict) → is_int kind ≡ true
int-behind (kinds.Int bits signed) dict ok = refl
int-behind kind dict ok = absurd ok

pub index-int : (t : Typed) → typed_of t ≡ Live (kind_of t) (trees (kids_of t)) (maybe_tree (dict_in (out-Typed t).dict)) → (dict : KindTree)
    → dict_in (out-Typed t).dict ≡ Some dict → ∥ NodesOk (typed_of t) ∥₁ → is_int (kind_of t) ≡ true
index-int t e dict d ok =
    ∥∥₁_elim ok (hlevel props) (λ nodes. int-behind (kind_of t) dict (subst (λ o. DictOk (kind_of t) (maybe_tree o)) d (subst NodesOk e nodes).2))

entry-at : (kind : DataType) (dict : KindTree) (kids : List Reader) (own : ArrayMembers) (children : List ArrayTree) (dictionary : ArrayTree) (j : ℕ)
    → is_int kind ≡ true
    → item_or_entry (Some (value_at dict)) kind kids own children (Some dictionary) j ≡ value_at dict dictionary (index_at kind own j)
entry-at (kinds.Int bits signed) dict kids own children dictionary j h = refl
entry-at kind dict kids own children dictionary j h = absurd (true≢false (sym h))

within-stored : (kind : DataType) (own : ArrayMembers) (j : ℕ) (dictionary : ArrayTree) → is_int kind ≡ true → is_valid own j ≡ true
    → IndexWithin kind own j dictionary
    → IsIndexThere (storage_of kind) own j (index_at kind own j) (tree_items dictionary)
within-stored (kinds.Int bits signed) own j dictionary h v w = ((w v).0, refl, (w v).1)
within-stored kind own j dictionary h v w = absurd (true≢false (sym h))

pub index-there : (kind : DataType) (storage : Storage) (own : ArrayMembers) (j : ℕ) (dictionary : ArrayTree) → storage ≡ storage_of kind → is_int kind ≡ true
    → is_valid own j ≡ true → IndexWithin kind own j dictionary
    → IsIndexThere storage own j (index_at kind own j) (tree_items dictionary)
index-there kind storage own j dictionary s h v w = subst (λ a. IsIndexThere a own j (index_at kind own j) (tree_items dictionary)) (sym s)
    (within-stored kind own j dictionary h v w)

behind-ok : (d : Option (Box Typed)) (box : Box Typed) → d ≡ Some box → DictNodesOk (maybe_tree (dict_in d)) → NodesOk (typed_of box.value)
behind-ok d box e ok = subst (λ o. DictNodesOk (maybe_tree (dict_in o))) e ok

pub dict-ok : (t : Typed) → typed_of t ≡ Live (kind_of t) (trees (kids_of t)) (maybe_tree (dict_in (out-Typed t).dict)) → (box : Box Typed)
    → (out-Typed t).dict ≡ Some box
    → ∥ NodesOk (typed_of t) ∥₁ → ∥ NodesOk (typed_of box.value) ∥₁
dict-ok t e box d ok = ∥∥₁_map ok (λ nodes. behind-ok (out-Typed t).dict box d (subst NodesOk e nodes).4)

-- ---- the items of an array, by what its node has

at-node : (kind : DataType) (kids : List KindTree) (dict : Option KindTree) (array : ArrayTree) (j : ℕ) → IsLive array
    → value_at (Live kind (trees kids) (maybe_tree dict)) array j
    ≡ (if is_valid (members_of array) j
    then item_or_entry (reader_of (maybe_tree dict)) kind (readers (trees kids)) (members_of array) (children_of array) (dictionary_of array) j else Null)
at-node kind kids dict Released j live = absurd live
at-node kind kids dict (Live own children dictionary) j live = refl

module _ (t : Typed) (e : typed_of t ≡ Live (kind_of t) (trees (kids_of t)) (maybe_tree (dict_in (out-Typed t).dict))) (array : ArrayTree) (j : ℕ)
    (live : IsLive array) where
  value-node : value_at (typed_of t) array j
      ≡ (if is_valid (members_of array) j
      then item_or_entry (reader_of (maybe_tree (dict_in (out-Typed t).dict))) (kind_of t) (readers (trees (kids_of t)))
      (members_of array) (children_of array) (dictionary_of array) j
      else Null)
  value-node = ap (λ k. value_at k array j) e ∙ at-node (kind_of t) (kids_of t) (dict_in (out-Typed t).dict) array j live

  pub value-null : is_valid (members_of array) j ≡ false → value_at (typed_of t) array j ≡ Null
  value-null n =
      value-node
      ∙ ap (λ b. if b
      then item_or_entry (reader_of (maybe_tree (dict_in (out-Typed t).dict))) (kind_of t) (readers (trees (kids_of t)))
      (members_of array) (children_of array) (dictionary_of array) j
      else Null) n

  module _ (v : is_valid (members_of array) j ≡ true) where
    valid-node : value_at (typed_of t) array j ≡ item_or_entry (reader_of (maybe_tree (dict_in (out-Typed t).dict))) (kind_of t) (readers (trees (kids_of t)))
        (members_of array) (children_of array) (dictionary_of array) j
    valid-node =
        value-node
        ∙ ap (λ b. if b
        then item_or_entry (reader_of (maybe_tree (dict_in (out-Typed t).dict))) (kind_of t) (readers (trees (kids_of t)))
        (members_of array) (children_of array) (dictionary_of array) j
        else Null) v

    -- without a dictionary, by how the type is stored
    pub value-item : dict_in (out-Typed t).dict ≡ None → (storage : Storage) → storage ≡ storage_of (kind_of t)
        → value_at (typed_of t) array j ≡ stored_item storage (readers (trees (kids_of t))) (members_of array) (children_of array) j
    value-item none storage s =
        valid-node
        ∙ ap (λ d. item_or_entry (reader_of (maybe_tree d)) (kind_of t) (readers (trees (kids_of t)))
        (members_of array) (children_of array) (dictionary_of array) j) none
        ∙ ap (λ a. stored_item a (readers (trees (kids_of t))) (members_of array) (children_of array) j) (sym s)

    -- the value of an item with an index is the dictionary's at the index
    pub value-entry : (dict : KindTree) (dictionary : ArrayTree) → dict_in (out-Typed t).dict ≡ Some dict
        → dictionary_of array ≡ Some dictionary
        → is_int (kind_of t) ≡ true → value_at (typed_of t) array j ≡ value_at dict dictionary (index_at (kind_of t) (members_of array) j)
    value-entry dict dictionary d a h =
        valid-node
        ∙ ap (λ o. item_or_entry (reader_of (maybe_tree o)) (kind_of t) (readers (trees (kids_of t)))
        (members_of array) (children_of array) (dictionary_of array) j) d
        ∙ ap (λ o. item_or_entry (Some (value_at dict)) (kind_of t) (readers (trees (kids_of t))) (members_of array) (children_of array) o j) a
        ∙ entry-at (kind_of t) dict (readers (trees (kids_of t))) (members_of array) (children_of array) dictionary j h

  -- null, or by how the type is stored
  pub own-item : (is_valid (members_of array) j ≡ true → dict_in (out-Typed t).dict ≡ None) → (storage : Storage) → storage ≡ storage_of (kind_of t)
      → value_at (typed_of t) array j ≡ (if is_valid (members_of array) j
      then stored_item storage (readers (trees (kids_of t))) (members_of array) (children_of array) j else Null)
  own-item own storage s = by (is_valid (members_of array) j) refl
    where
      by : (b : Bool) → is_valid (members_of array) j ≡ b
          → value_at (typed_of t) array j ≡ (if b then stored_item storage (readers (trees (kids_of t))) (members_of array) (children_of array) j else Null)
      by true v = value-item v (own v) storage s
      by false n = value-null n

-- ---- the home of an item

home-node : (kind : DataType) (kids : List KindTree) (dict : KindTree) (array dictionary : ArrayTree) (start count i : ℕ) → IsLive array
    → dictionary_of array ≡ Some dictionary
    → is_valid (members_of array) (start + i) ≡ true
    → home_from (Live kind (trees kids) (maybe_tree (Some dict))) array start count i
    ≡ home_from dict dictionary 0 (tree_items dictionary) (index_at kind (members_of array) (start + i))
home-node kind kids dict Released dictionary start count i live a v = absurd live
home-node kind kids dict (Live own children absent) dictionary start count i live a v = absurd (cc)
home-node kind kids dict (Live own children (present behind)) dictionary start count i live a v =
    let same : behind ≡ dictionary = cc in
    ap (λ b. if b then home_from dict behind 0 (tree_items behind) (index_at kind own (start + i)) else here) v
    ∙ ap (λ d. home_from dict d 0 (tree_items d) (index_at kind own (start + i))) same
  where
    here : Home
    here =
        record {
          window = record {
            typed = Live kind (trees kids) (present dict);
            array = Live own children (present behind);
            start = start;
            count = count;
          };
          place = i;
        }

-- an index that isn't null goes on to the dictionary
pub home-entry : (t : Typed) → typed_of t ≡ Live (kind_of t) (trees (kids_of t)) (maybe_tree (dict_in (out-Typed t).dict))
    → (array : ArrayTree) (start count i : ℕ) → IsLive array
    → is_valid (members_of array) (start + i) ≡ true → (w : Window) → IsDictionary w (dict_in (out-Typed t).dict) (dictionary_of array)
    → home_from (typed_of t) array start count i ≡ home_of w (index_at (kind_of t) (members_of array) (start + i))
home-entry t e array start count i live v w d =
    ap (λ k. home_from k array start count i) e
    ∙ ap (λ o. home_from (Live (kind_of t) (trees (kids_of t)) (maybe_tree o)) array start count i) d.typed
    ∙ home-node (kind_of t) (kids_of t) w.typed array w.array start count i live d.array v
    ∙ ap (λ u. home_of u (index_at (kind_of t) (members_of array) (start + i))) (sym d.whole)

-- ---- items at home
-- else the item is at home
home-null_node : (kind : DataType) (kids : List KindTree) (dict : Option KindTree) (array : ArrayTree) (start count i : ℕ)
    → is_valid (members_of array) (start + i) ≡ false
    → home_from (Live kind (trees kids) (maybe_tree dict)) array start count i ≡
    record { window = record { typed = Live kind (trees kids) (maybe_tree dict); array = array; start = start; count = count }; place = i }
home-null_node kind kids None array start count i n = refl
home-null_node kind kids (Some dict) Released start count i n = refl
home-null_node kind kids (Some dict) (Live own children absent) start count i n = refl
home-null_node kind kids (Some dict) (Live own children (present dictionary)) start count i n =
    ap (λ b. if b then home_from dict dictionary 0 (tree_items dictionary) (index_at kind own (start + i)) else here) n
  where
    here : Home
    here =
        record {
          window = record {
            typed = Live kind (trees kids) (present dict);
            array = Live own children (present dictionary);
            start = start;
            count = count;
          };
          place = i;
        }

home-plain_node : (kind : DataType) (kids : List KindTree) (dict : Option KindTree) (array : ArrayTree) (start count i : ℕ) → dict ≡ None
    → home_from (Live kind (trees kids) (maybe_tree dict)) array start count i ≡
    record { window = record { typed = Live kind (trees kids) (maybe_tree dict); array = array; start = start; count = count }; place = i }
home-plain_node kind kids None array start count i n = refl
home-plain_node kind kids (Some dict) array start count i n = absurd (cc)

pub home-null : (t : Typed) → typed_of t ≡ Live (kind_of t) (trees (kids_of t)) (maybe_tree (dict_in (out-Typed t).dict))
    → (array : ArrayTree) (start count i : ℕ)
    → is_valid (members_of array) (start + i) ≡ false
    → home_from (typed_of t) array start count i ≡ record { window = record { typed = typed_of t; array = array; start = start; count = count }; place = i }
home-null t e array start count i n =
    ap (λ k. home_from k array start count i) e
    ∙ home-null_node (kind_of t) (kids_of t) (dict_in (out-Typed t).dict) array start count i n
    ∙ ap (λ k. record { window = record { typed = k; array = array; start = start; count = count }; place = i }) (sym e)

pub home-plain : (t : Typed) → typed_of t ≡ Live (kind_of t) (trees (kids_of t)) (maybe_tree (dict_in (out-Typed t).dict))
    → (array : ArrayTree) (start count i : ℕ)
    → dict_in (out-Typed t).dict ≡ None
    → home_from (typed_of t) array start count i ≡ record { window = record { typed = typed_of t; array = array; start = start; count = count }; place = i }
home-plain t e array start count i n =
    ap (λ k. home_from k array start count i) e
    ∙ home-plain_node (kind_of t) (kids_of t) (dict_in (out-Typed t).dict) array start count i n
    ∙ ap (λ k. record { window = record { typed = k; array = array; start = start; count = count }; place = i }) (sym e)

-- a dictionary has fewer levels
fewer : (kind : DataType) (kids : List KindTree) (dict : Option KindTree) (w : KindTree) → dict ≡ Some w
    → Depth w < Depth (Live kind (trees kids) (maybe_tree dict))
fewer kind kids None w d = absurd (cc)
fewer kind kids (Some dict) w d =
    let same : dict ≡ w = cc in
    subst (λ u. Depth w < Depth (Live kind (trees kids) (present u))) (sym same) (omega arith)

pub fewer-levels : (t : Typed) → typed_of t ≡ Live (kind_of t) (trees (kids_of t)) (maybe_tree (dict_in (out-Typed t).dict)) → (w : KindTree)
    → dict_in (out-Typed t).dict ≡ Some w → Depth w < Depth (typed_of t)
fewer-levels t e w d = subst (λ k. Depth w < Depth k) (sym e) (fewer (kind_of t) (kids_of t) (dict_in (out-Typed t).dict) w d)

pub ruleset homes = (home-entry, home-null, home-plain, fewer-levels)

-- ---- structs

struct-layout : (kind : DataType) (kids : List KindTree) (dict : Option KindTree) → IsStruct (Live kind (trees kids) (maybe_tree dict))
    → layout_of kind ≡ ByChildren
struct-layout kinds.Struct kids dict h = refl
struct-layout kind kids dict h = absurd h

pub struct-typed : (t : Typed) → typed_of t ≡ Live (kind_of t) (trees (kids_of t)) (maybe_tree (dict_in (out-Typed t).dict)) → IsStruct (typed_of t)
    → layout_of (kind_of t) ≡ ByChildren
struct-typed t e h = struct-layout (kind_of t) (kids_of t) (dict_in (out-Typed t).dict) (subst IsStruct e h)

listed-trees : (kids : List KindTree) → tree_list (trees kids) ≡ kids
listed-trees [] = refl
listed-trees (kid ∷ kids) = ap (λ ks. kid ∷ ks) (listed-trees kids)

-- the kids of a type are the children of its tree
pub kids-typed : (t : Typed) → typed_of t ≡ Live (kind_of t) (trees (kids_of t)) (maybe_tree (dict_in (out-Typed t).dict))
    → children_of (typed_of t) ≡ kids_of t
kids-typed t e = ap children_of e ∙ listed-trees (kids_of t)

field-at : (kids : List KindTree) (children : List ArrayTree) (k n : ℕ) → k < length kids → k < length children
    → get_or (field_items (readers (trees kids)) children n) k Null ≡ value_at (get_or kids k Released) (get_or children k Released) n
field-at [] children k n h l = absurd (omega (arith, h))
field-at (kid ∷ kids) [] k n h l = absurd (omega (arith, l))
field-at (kid ∷ kids) (child ∷ rest) zero n h l = refl
field-at (kid ∷ kids) (child ∷ rest) (suc k) n h l = field-at kids rest k n (omega (arith, h)) (omega (arith, l))

row-node : (kind : DataType) (kids : List KindTree) (dict : Option KindTree) (array : ArrayTree) (j : ℕ) → IsLive array
    → row_items (Live kind (trees kids) (maybe_tree dict)) array j ≡ field_items (readers (trees kids)) (children_of array) (first (members_of array) + j)
row-node kind kids dict Released j live = absurd live
row-node kind kids dict (Live own children dictionary) j live = refl

-- ---- the row of a struct's item
item-row : (kind : DataType) (kids : List KindTree) (own : ArrayMembers) (children : List ArrayTree) (j : ℕ)
    → IsStructValue (item kind (readers (trees kids)) own children j)
    → (kind ≡ kinds.Struct) × (item kind (readers (trees kids)) own children j ≡ Fields (values (field_items (readers (trees kids)) children (first own + j))))
item-row kinds.Struct kids own children j h = (refl, refl)
item-row (kinds.Decimal precision scale false) kids own children j h = absurd h
item-row (kinds.Decimal precision scale true) kids own children j h = absurd h
item-row kind kids own children j h = absurd h

module _ (t : Typed) (e : typed_of t ≡ Live (kind_of t) (trees (kids_of t)) (maybe_tree (dict_in (out-Typed t).dict))) (array : ArrayTree) (j : ℕ)
    (live : IsLive array) where
  row-typed : row_items (typed_of t) array j ≡ field_items (readers (trees (kids_of t))) (children_of array) (first (members_of array) + j)
  row-typed = ap (λ k. row_items k array j) e ∙ row-node (kind_of t) (kids_of t) (dict_in (out-Typed t).dict) array j live

  own-row : is_valid (members_of array) j ≡ true → dict_in (out-Typed t).dict ≡ None → IsStructValue (value_at (typed_of t) array j)
      → IsStruct (typed_of t) × (value_at (typed_of t) array j ≡ Fields (values (row_items (typed_of t) array j)))
  own-row v none h =
      let is =
      valid-node t e array j live v
      ∙ ap (λ d. item_or_entry (reader_of (maybe_tree d)) (kind_of t) (readers (trees (kids_of t)))
      (members_of array) (children_of array) (dictionary_of array) j) none in
      let row = item-row (kind_of t) (kids_of t) (members_of array) (children_of array) j (subst IsStructValue is h) in (
        subst IsStruct (sym (e ∙ ap (λ k. Live k (trees (kids_of t)) (maybe_tree (dict_in (out-Typed t).dict))) row.0)) tt,
        is ∙ row.1 ∙ ap (λ r. Fields (values r)) (sym row-typed),
      )

  -- the value of an item at home, where it is a struct's
  pub home-row : (is_valid (members_of array) j ≡ true → dict_in (out-Typed t).dict ≡ None) → IsStructValue (value_at (typed_of t) array j)
      → IsStruct (typed_of t) × (value_at (typed_of t) array j ≡ Fields (values (row_items (typed_of t) array j)))
  home-row own h = by (is_valid (members_of array) j) refl
    where
      by : (b : Bool) → is_valid (members_of array) j ≡ b
          → IsStruct (typed_of t) × (value_at (typed_of t) array j ≡ Fields (values (row_items (typed_of t) array j)))
      by true v = own-row v (own v) h
      by false n = absurd (subst IsStructValue (value-null t e array j live n) h)

-- the k-th item of a row is the child's
pub row-field : (t : Typed) → typed_of t ≡ Live (kind_of t) (trees (kids_of t)) (maybe_tree (dict_in (out-Typed t).dict)) → (array : ArrayTree) (j k : ℕ)
    → IsLive array
    → k < length (kids_of t) → k < length (children_of array)
    → get_or (row_items (typed_of t) array j) k Null ≡ value_at (get_or (kids_of t) k Released) (child_at array k) (first (members_of array) + j)
row-field t e array j k live h l =
    ap (λ r. get_or r k Null) (row-typed t e array j live)
    ∙ field-at (kids_of t) (children_of array) k (first (members_of array) + j) h l

pub children-count : (t : Typed) → typed_of t ≡ Live (kind_of t) (trees (kids_of t)) (maybe_tree (dict_in (out-Typed t).dict))
    → length (children_of (typed_of t)) ≡ length (out-Typed t).kids.items
children-count t e = ap length (kids-typed t e) ∙ length-map (out-Typed t).kids.items typed_of

pub ruleset children = (children-count)

-- ---- the items of one kind

own-behind : (kind : DataType) → IsOwn (storage_of kind) → is_int kind ≡ true → ⊥
own-behind (kinds.Int bits signed) own h = own
own-behind kind own h = true≢false (sym h)

-- what isn't stored as whole numbers has no dictionary
pub no-dictionary : (t : Typed) → typed_of t ≡ Live (kind_of t) (trees (kids_of t)) (maybe_tree (dict_in (out-Typed t).dict)) → (storage : Storage)
    → storage ≡ storage_of (kind_of t)
    → IsOwn storage → ∥ NodesOk (typed_of t) ∥₁ → dict_in (out-Typed t).dict ≡ None
no-dictionary t e storage s own ok = by (dict_in (out-Typed t).dict) refl
  where
    by : (dict : Option KindTree) → dict_in (out-Typed t).dict ≡ dict → dict_in (out-Typed t).dict ≡ None
    by None is = is
    by (Some dict) is = absurd (own-behind (kind_of t) (subst IsOwn s own) (index-int t e dict is ok))
