-- What is read of a lawful array lies within its parts.
use Rattle.std.proofs.Common.{◌≡◌, ℕ, zero, suc, ◌+◌, ◌*◌, ◌/◌, ◌<◌, ◌≤◌, ◌==◌, ◌&&◌, Bool, true, false, ℤ, pos, negsuc, List, [], ◌∷◌, ◌++◌, length, map}
use Rattle.std.proofs.Common.{get_or, Option, None, Some, refl, ap, ◌∙◌, sym, subst, true≢false, arith}
use Rattle.std.specs.Prelude.{if◌then◌else◌, is_none, int_lt, ◌≤ℤ◌, IsTrue, ◌^◌}
use Rattle.std.specs.Option.{option_or}
use Rattle.std.specs.Global.{Box}
use Rattle.std.proofs.Math.Nat.{mul-le-mul_right}
use Rattle.data_types.specs.declared.kind.DataType.{DataType}
use Rattle.data_types.specs.declared.kind.DataType.TheVariants as kinds
use Rattle.data_types.specs.promise.Packed.{offset_width}
use Rattle.tree_model.specs.promise.TreeData.{Released, Live, Trees, no_trees, more_trees, MaybeTree, absent, present, tree_list, option_tree}
use Rattle.tree_model.specs.promise.TreeParts.{IsLive, children_of}
use Rattle.tree_model.specs.promise.TreeParts.{dictionary_of, child_at}
use Rattle.raw_array.specs.promise.Members.{ArrayMembers, ArrayTree, members_of}
use Rattle.data_types.specs.declared.typed.Typed.{Typed}
use Rattle.layout_rules.specs.declared.layout.Layout.{Layout}
use Rattle.layout_rules.specs.declared.layout.Layout.TheVariants.{NoBuffers, FixedWidth, TruthBits, ByOffsets, ListOffsets, FixedItems, ByChildren, Views}
use Rattle.layout_rules.specs.declared.rule.LayoutRule.{LayoutRule}
use Rattle.layout_rules.specs.declared.rule.Numbers.{Numbers}
use Rattle.data_types.specs.promise.KindTrees.{KindTree}
use Rattle.data_types.specs.promise.TypedView.{typed_of}
use Rattle.data_types.specs.TypedView.{dict_in}
use Rattle.layout_rules.specs.promise.Layout.{layout_of, buffer_count, items, first, end, natural, bytes, offset, offsets_need, is_valid, stored_number, view_width}
use Rattle.layout_rules.specs.promise.Rules.{Node, fails, fault_if, in_order, first_below, buffer_absent, offsets_fall_if, is_behind_offsets, is_outside}
use Rattle.layout_rules.specs.Rules.{buffer_short}
use Rattle.layout_rules.specs.promise.Rules.{items_need, short_child, child_short, live_length, length_if, index_wrong, indices_wrong, views_misplaced}
use Rattle.data_types.specs.promise.Ways.{Steps, dictionary_step}
use Rattle.layout_rules.specs.promise.Walk.{LayoutOk, first_fault, first_some}
use Rattle.layout_rules.specs.Walk.{fault_from, fault_by, own_fault, children_fault, dictionary_fault, rules_fault}
use Rattle.layout_rules.specs.promise.Walk.{fault_at, node_fault, node_of, visit_fault, visits, walks_of, walk_of, walk_children, walk_dictionary}
use Rattle.layout_rules.specs.promise.Values.{tree_items}
use Rattle.layout_rules.specs.Within.{StoredWithin, ItemsWithin, IndexWithin, ViewWithin}
use Rattle.data_types.proofs.Levels.{typed_out}
use Rattle.layout_rules.proofs.Firsts.{first_below-none_at}
use Rattle.layout_rules.proofs.Long.{long-bytes, long-data, long-list, long-fixed, long-truth, long-views, long-named}
use Rattle.layout_rules.proofs.Walks.{first_some-append, fault_from-live}
use Rattle.layout_rules.proofs.Lawful.{first_fault-lawful, lawful-first_fault, left-none, right-none}
use Rattle.layout_rules.proofs.TextData.{offsets-from, offsets-rise, offsets-next, offsets-within, offsets-last, natural-rise, not_zero}
use Rattle.layout_rules.proofs.Placed.{view-within}
use Rattle.layout_rules.proofs.Roots.{Level, tree_in, level_in, lawful-level_in, root-live, root-end, root-children, root-short, root-absent, root-falls}
use Rattle.layout_rules.proofs.Roots.{root-child_short, root-indices, views-placed, tree_items-items}

-- ---- lawful, and no fault

pub is_none-none : {X : Type 0} → (o : Option X) → IsTrue (is_none o) → o ≡ None
is_none-none None h = refl
is_none-none (Some x) h = absurd (true≢false (sym h))

pub lawful-no_fault : (typed : KindTree) (array : ArrayTree) → IsTrue (is_none (first_fault typed array)) → LayoutOk typed array
lawful-no_fault typed array h = first_fault-lawful typed array (is_none-none (first_fault typed array) h)

pub no_fault-lawful : (typed : KindTree) (array : ArrayTree) → LayoutOk typed array → IsTrue (is_none (first_fault typed array))
no_fault-lawful typed array h = ap is_none (lawful-first_fault typed array h)

-- ---- the fault of a part doesn't depend on the way to it

other-path : (p q : Steps) (rule : LayoutRule) (numbers : Option Numbers) → fault_at p rule numbers ≡ None → fault_at q rule numbers ≡ None
other-path p q rule None e = refl
other-path p q rule (Some numbers) e = grind arith

rules-path : (p q : Steps) (node : Node) (some : List LayoutRule) → rules_fault some p node ≡ None → rules_fault some q node ≡ None
rules-path p q node [] e = refl
rules-path p q node (rule ∷ others) e =
    ap (λ o. option_or o (rules_fault others q node)) (other-path p q rule (fails rule node) (left-none (fault_by p node rule) (rules_fault others p node) e))
    ∙ rules-path p q node others
    (right-none (fault_by p node rule) (rules_fault others p node) (left-none (fault_by p node rule) (rules_fault others p node) e) e)

node-path : (p q : Steps) (node : Option Node) → node_fault p node ≡ None → node_fault q node ≡ None
node-path p q None e = grind arith
node-path p q (Some node) e = rules-path p q node in_order e

both-none : {X : Type 0} → (a b : Option X) → a ≡ None → b ≡ None → option_or a b ≡ None
both-none a b e f = ap (λ o. option_or o b) e ∙ f

mutual
  pub any-path : (typed : KindTree) (p q : Steps) (array : ArrayTree) → fault_from typed p array ≡ None → fault_from typed q array ≡ None
  any-path Released p q array e = refl
  any-path (Live kind kids dict) p q Released e =
      both-none (node_fault q None) None (node-path p q None (left-none (node_fault p None) None e)) refl
  any-path (Live kind kids dict) p q (Live own children dictionary) e =
      let node = node_of kind kids dict (Live own children dictionary) in
      let below =
      λ (path : Steps). first_some visit_fault
      (walk_children (walks_of kids) 0 path (tree_list children) ++ walk_dictionary (walk_of dict) path (option_tree dictionary)) in
      let at : node_fault p node ≡ None = left-none (node_fault p node) (below p) e in
      let rest : below p ≡ None = right-none (node_fault p node) (below p) at e in
      let split =
      λ (path : Steps). first_some-append visit_fault (walk_children (walks_of kids) 0 path (tree_list children))
      (walk_dictionary (walk_of dict) path (option_tree dictionary)) in
      let kids_fault = λ (path : Steps). first_some visit_fault (walk_children (walks_of kids) 0 path (tree_list children)) in
      let dict_fault = λ (path : Steps). first_some visit_fault (walk_dictionary (walk_of dict) path (option_tree dictionary)) in
      let both : option_or (kids_fault p) (dict_fault p) ≡ None = sym (split p) ∙ rest in
      let first : kids_fault p ≡ None = left-none (kids_fault p) (dict_fault p) both in
      both-none (node_fault q node) (below q) (node-path p q node at)
      (split q
      ∙ both-none (kids_fault q) (dict_fault q)
      (kids-path kids 0 p q (tree_list children) first)
      (dict-path dict p q (option_tree dictionary) (right-none (kids_fault p) (dict_fault p) first both)))

  kids-path : (kids : Trees DataType) (k : ℕ) (p q : Steps) (children : List ArrayTree)
      → first_some visit_fault (walk_children (walks_of kids) k p children) ≡ None
      → first_some visit_fault (walk_children (walks_of kids) k q children) ≡ None
  kids-path no_trees k p q children e = refl
  kids-path (more_trees kid kids) k p q [] e = refl
  kids-path (more_trees kid kids) k p q (child ∷ rest) e =
      let here = λ (path : Steps). fault_from kid (path ++ k ∷ []) child in
      let others = λ (path : Steps). first_some visit_fault (walk_children (walks_of kids) (suc k) path rest) in
      let split = λ (path : Steps). first_some-append visit_fault (visits kid (path ++ k ∷ []) child) (walk_children (walks_of kids) (suc k) path rest) in
      let both : option_or (here p) (others p) ≡ None = sym (split p) ∙ e in
      let first : here p ≡ None = left-none (here p) (others p) both in
      split q
      ∙ both-none (here q) (others q)
      (any-path kid (p ++ k ∷ []) (q ++ k ∷ []) child first)
      (kids-path kids (suc k) p q rest (right-none (here p) (others p) first both))

  dict-path : (dict : MaybeTree DataType) (p q : Steps) (dictionary : Option ArrayTree)
      → first_some visit_fault (walk_dictionary (walk_of dict) p dictionary) ≡ None
      → first_some visit_fault (walk_dictionary (walk_of dict) q dictionary) ≡ None
  dict-path absent p q dictionary e = refl
  dict-path (present dict) p q None e = refl
  dict-path (present dict) p q (Some dictionary) e = any-path dict (p ++ dictionary_step ∷ []) (q ++ dictionary_step ∷ []) dictionary e

pub lawful-from : (typed : KindTree) (path : Steps) (array : ArrayTree) → fault_from typed path array ≡ None → LayoutOk typed array
lawful-from typed path array e = first_fault-lawful typed array (any-path typed path [] array e)

-- ---- the parts of a lawful array

child-none : (kids : List KindTree) (n : ℕ) (path : Steps) (children : List ArrayTree) (k : ℕ) → children_fault kids n path children ≡ None
    → length children ≡ length kids → k < length kids
    → LayoutOk (get_or kids k Released) (get_or children k Released)
child-none [] n path children k e same h = absurd (omega (arith, h))
child-none (kid ∷ kids) n path [] k e same h = absurd (omega (arith, same))
child-none (kid ∷ kids) n path (child ∷ rest) zero e same h =
    lawful-from kid (path ++ n ∷ []) child (left-none (fault_from kid (path ++ n ∷ []) child) (children_fault kids (suc n) path rest) e)
child-none (kid ∷ kids) n path (child ∷ rest) (suc k) e same h =
    let here = fault_from kid (path ++ n ∷ []) child in
    let others = children_fault kids (suc n) path rest in
    child-none kids (suc n) path rest k (right-none here others (left-none here others e) e) (omega (arith, same)) (omega (arith, h))

dictionary-none : (dict : Option KindTree) (dictionary : Option ArrayTree) (typed : KindTree) (array : ArrayTree) → dictionary_fault dict [] dictionary ≡ None
    → dict ≡ Some typed → dictionary ≡ Some array → LayoutOk typed array
dictionary-none dict dictionary typed array e d a =
    lawful-from typed ([] ++ dictionary_step ∷ []) array
    (sym (ap (λ o. dictionary_fault o [] dictionary) d ∙ ap (λ o. dictionary_fault (Some typed) [] o) a) ∙ e)

-- ---- what the buffers have of an item

one_more : (first count i width size : ℕ) → i < count → (first + count) * width ≤ size → (first + i + 1) * width ≤ size
one_more first count i width size h l =
    let below : first + i + 1 ≤ first + count = omega (arith, h) in
    omega (arith, mul-le-mul_right width below, l)

some_offsets : (wide : Bool) (n : ℕ) → 0 < n → offsets_need wide n ≡ (n + 1) * offset_width wide
some_offsets wide zero h = absurd (omega (arith, h))
some_offsets wide (suc n) h = refl

two_offsets : (wide : Bool) (own : ArrayMembers) (i : ℕ) → i < items own → offsets_need wide (end own) ≤ length (bytes own 1)
    → (first own + i + 1 + 1) * offset_width wide ≤ length (bytes own 1)
two_offsets wide own i h l =
    let below : first own + i + 1 + 1 ≤ end own + 1 = omega (arith, h) in
    let some : 0 < end own = omega (arith, h) in
    omega (arith, mul-le-mul_right (offset_width wide) below, some_offsets wide (end own) some, l)

stored-within : (layout : Layout) (own : ArrayMembers) (i : ℕ) → i < items own
    → first_below (buffer_absent layout own) (buffer_count layout (length own.buffers)) ≡ None
    → first_below (buffer_short layout own) (buffer_count layout (length own.buffers)) ≡ None
    → offsets_fall_if (is_behind_offsets layout) own ≡ None
    → StoredWithin layout own (first own + i)
stored-within NoBuffers own i h e f r = tt
stored-within (FixedWidth width) own i h e f r = one_more (first own) (items own) i width (length (bytes own 1)) h (long-fixed width own e f)
stored-within TruthBits own i h e f r = omega (arith, h, long-truth own e f)
stored-within (ByOffsets wide) own i h e f r = (
  record {
    there = two_offsets wide own i h (long-bytes wide own e f);
    from = offsets-from wide own i r h;
    rise = offsets-rise wide own i r h;
  },
  offsets-within wide own i r h (long-bytes wide own e f) (long-data wide own e f),
)
stored-within (ListOffsets wide) own i h e f r = record {
  there = two_offsets wide own i h (long-list wide own e f);
  from = offsets-from wide own i r h;
  rise = offsets-rise wide own i r h;
}
stored-within (FixedItems size) own i h e f r = tt
stored-within ByChildren own i h e f r = tt
stored-within Views own i h e f r = one_more (first own) (items own) i view_width (length (bytes own 1)) h (long-views own e f)

view-there : (layout : Layout) (own : ArrayMembers) (i : ℕ) → i < items own
    → first_below (buffer_absent layout own) (buffer_count layout (length own.buffers)) ≡ None
    → first_below (buffer_short layout own) (buffer_count layout (length own.buffers)) ≡ None
    → views_misplaced layout own ≡ None
    → ViewWithin layout own i
view-there Views own i h e f p = view-within own i (long-named own e f) p h
view-there NoBuffers own i h e f p = tt
view-there (FixedWidth width) own i h e f p = tt
view-there TruthBits own i h e f p = tt
view-there (ByOffsets wide) own i h e f p = tt
view-there (ListOffsets wide) own i h e f p = tt
view-there (FixedItems size) own i h e f p = tt
view-there ByChildren own i h e f p = tt

-- ---- what a child has of an item

not_short : (needed k : ℕ) (own : ArrayMembers) → short_child needed k (Some own.length) ≡ None → needed ≤ items own
not_short needed k own e = by own.length e
  where
    by : (found : ℤ) → fault_if (int_lt found (pos needed)) k found (pos needed) ≡ None → needed ≤ natural found
    by (pos n) e = grind arith
    by (negsuc n) e = grind arith

child-long : (needed n : ℕ) (children : List ArrayTree) (k : ℕ) → child_short needed n children ≡ None → IsLive (get_or children k Released)
    → k < length children → needed ≤ tree_items (get_or children k Released)
child-long needed n [] k e live h = absurd live
child-long needed n (Released ∷ rest) zero e live h = absurd live
child-long needed n (Live own below dictionary ∷ rest) zero e live h =
    not_short needed n own (left-none (short_child needed n (Some own.length)) (child_short needed (suc n) rest) e)
child-long needed n (child ∷ rest) (suc k) e live h =
    let here = short_child needed n (live_length child) in
    let others = child_short needed (suc n) rest in
    child-long needed (suc n) rest k (right-none here others (left-none here others e) e) live (omega (arith, h))

some_need : (n need : ℕ) → 0 < n → (if n == 0 then 0 else need) ≡ need
some_need n need h = ap (λ b. if b then 0 else need) (not_zero n h)

items-within : (layout : Layout) (own : ArrayMembers) (i total : ℕ) → i < items own
    → offsets_fall_if (is_behind_offsets layout) own ≡ None → items_need layout own ≤ total
    → ItemsWithin layout own (first own + i) total
items-within NoBuffers own i total h r l = tt
items-within (FixedWidth width) own i total h r l = tt
items-within TruthBits own i total h r l = tt
items-within (ByOffsets wide) own i total h r l = tt
items-within (ListOffsets wide) own i total h r l =
    let some : 0 < end own = omega (arith, h) in
    let rise = natural-rise (offset wide own (first own + i + 1)) (offset wide own (end own)) (offsets-next wide own i r h) (offsets-last wide own i r h) in
    omega (arith, rise, some_need (end own) (natural (offset wide own (end own))) some, l)
items-within (FixedItems size) own i total h r l = one_more (first own) (items own) i size total h l
items-within ByChildren own i total h r l = omega (arith, h, l)
items-within Views own i total h r l = tt

-- ---- an index

not_outside : (z : ℤ) (total : ℤ) (i : ℕ) → fault_if (is_outside total z) i z total ≡ None → (pos 0 ≤ℤ z) × (natural z < natural total)
not_outside (pos n) (pos total) i e = (grind arith, grind arith)
not_outside (pos n) (negsuc total) i e = absurd (grind arith)
not_outside (negsuc n) total i e = absurd (grind arith)

valid-none : (valid outside : Bool) (i : ℕ) (z total : ℤ) → fault_if (valid && outside) i z total ≡ None → IsTrue valid → fault_if outside i z total ≡ None
valid-none true outside i z total e h = e
valid-none false outside i z total e h = absurd (true≢false (sym h))

index-within : (kind : DataType) (own : ArrayMembers) (i : ℕ) (dictionary : ArrayTree) → i < items own → IsLive dictionary
    → indices_wrong kind own (live_length dictionary) ≡ None → IndexWithin kind own i dictionary
index-within kind own i Released h live e = absurd live
index-within (kinds.Int bits signed) own i (Live members below behind) h live e = λ valid.
    not_outside (stored_number (bits / 8) signed own i) members.length i
    (valid-none (is_valid own i) (is_outside members.length (stored_number (bits / 8) signed own i)) i (stored_number (bits / 8) signed own i) members.length
    (first_below-none_at (index_wrong (bits / 8) signed own members.length) (items own) i h e) valid)
index-within kind own i (Live members below behind) h live e = tt

-- ---- an array that has a type is live, and has at most 2^40 items

pub live-of : (typed : KindTree) (array : ArrayTree) → IsLive typed → LayoutOk typed array → IsLive array
live-of Released array live h = absurd live
live-of (Live kind kids dict) array live h = root-live (level_in kind kids dict) array (lawful-level_in kind kids dict array h)

pub few-of : (typed : KindTree) (array : ArrayTree) → IsLive typed → LayoutOk typed array → tree_items array ≤ 2 ^ 40
few-of Released array live h = absurd live
few-of (Live kind kids dict) array live h =
    omega (arith, root-end (level_in kind kids dict) array (lawful-level_in kind kids dict array h), tree_items-items array)

-- the code's kids and dictionary have types

pub kid-typed : (kids : List Typed) (k : ℕ) → k < length (map typed_of kids) → IsLive (get_or (map typed_of kids) k Released)
kid-typed [] k h = absurd (omega (arith, h))
kid-typed (t ∷ ts) zero h = subst IsLive (sym (typed_out t)) tt
kid-typed (t ∷ ts) (suc k) h = kid-typed ts k (omega (arith, h))

pub dict-typed : (dict : Option (Box Typed)) (typed : KindTree) → dict_in dict ≡ Some typed → IsLive typed
dict-typed None typed e = absurd (cc)
dict-typed (Some box) typed e =
    let same : typed_of box.value ≡ typed = cc in
    subst IsLive (sym (typed_out box.value) ∙ same) tt

-- ---- what is read of an item, and the parts

module _ (t : Level) (array : ArrayTree) (h : LayoutOk (tree_in t) array) where
  parts-none : (children_fault t.kids 0 [] (children_of array) ≡ None) × (dictionary_fault t.dict [] (dictionary_of array) ≡ None)
  parts-none =
      let own = own_fault (tree_in t) [] array in
      let kids = children_fault t.kids 0 [] (children_of array) in
      let dict = dictionary_fault t.dict [] (dictionary_of array) in
      let all : option_or own (option_or kids dict) ≡ None =
      sym (fault_from-live t.kind t.kids t.dict [] array (root-live t array h)) ∙ lawful-first_fault (tree_in t) array h in
      let below : option_or kids dict ≡ None = right-none own (option_or kids dict) (left-none own (option_or kids dict) all) all in
      let first : kids ≡ None = left-none kids dict below in
      (first, right-none kids dict first below)

  pub child-lawful : (k : ℕ) → k < length t.kids → LayoutOk (get_or t.kids k Released) (child_at array k)
  child-lawful k l = child-none t.kids 0 [] (children_of array) k parts-none.0 (root-children t array h) l

  pub dictionary-lawful : (dict : KindTree) (dictionary : ArrayTree) → t.dict ≡ Some dict → dictionary_of array ≡ Some dictionary → LayoutOk dict dictionary
  dictionary-lawful dict dictionary d a = dictionary-none t.dict (dictionary_of array) dict dictionary parts-none.1 d a

  pub item-stored : (i : ℕ) → i < tree_items array → StoredWithin (layout_of t.kind) (members_of array) (first (members_of array) + i)
  item-stored i l =
      stored-within (layout_of t.kind) (members_of array) i (subst (λ n. i < n) (tree_items-items array) l) (root-absent t array h)
      (root-short t array h) (root-falls t array h)

  pub item-view : (i : ℕ) → i < tree_items array → ViewWithin (layout_of t.kind) (members_of array) i
  item-view i l =
      view-there (layout_of t.kind) (members_of array) i (subst (λ n. i < n) (tree_items-items array) l) (root-absent t array h) (root-short t array h)
      (views-placed t array h)

  pub child-needed : (k : ℕ) → k < length t.kids → IsLive (child_at array k)
      → items_need (layout_of t.kind) (members_of array) ≤ tree_items (child_at array k)
  child-needed k m live =
      child-long (items_need (layout_of t.kind) (members_of array)) 0 (children_of array) k (root-child_short t array h) live
      (omega (arith, m, root-children t array h))

  pub item-children : (i k : ℕ) → i < tree_items array → k < length t.kids → IsLive (child_at array k)
      → ItemsWithin (layout_of t.kind) (members_of array) (first (members_of array) + i) (tree_items (child_at array k))
  item-children i k l m live =
      items-within (layout_of t.kind) (members_of array) i (tree_items (child_at array k)) (subst (λ n. i < n) (tree_items-items array) l)
      (root-falls t array h) (child-needed k m live)

  pub item-index : (i : ℕ) (dictionary : ArrayTree) → i < tree_items array → dictionary_of array ≡ Some dictionary → IsLive dictionary
      → IndexWithin t.kind (members_of array) i dictionary
  item-index i dictionary l d live =
      index-within t.kind (members_of array) i dictionary (subst (λ n. i < n) (tree_items-items array) l) live
      (sym (ap (λ o. indices_wrong t.kind (members_of array) (length_if o)) d) ∙ root-indices t array h)
