-- Each rule says of a tree what it says of what the tree shows.
use Rattle.std.proofs.Common.{◌≡◌, ◌∙◌, ℕ, zero, suc, ◌+◌, ℤ, pos, negsuc, Bool, not, ◌&&◌, ◌==◌, List, length, Option, None, Some, refl, ap, sym}
use Rattle.std.specs.Prelude.{if◌then◌else◌, is_some, nat_lt, ◌||◌}
use Rattle.std.specs.Option.{option_or}
use Rattle.std.specs.Ordering.{int_eq}
use Rattle.data_types.specs.declared.kind.DataType.{DataType}
use Rattle.tree_model.specs.promise.TreeData.{Released, Live, Trees, no_trees, more_trees, MaybeTree, absent, present, tree_list, option_tree}
use Rattle.tree_model.specs.Tree.{map_trees, map_maybe}
use Rattle.raw_array.specs.promise.Members.{ArrayMembers, ArrayTree}
use Rattle.layout_rules.specs.declared.layout.Layout.{Layout}
use Rattle.layout_rules.specs.declared.layout.Layout.TheVariants.{NoBuffers, FixedWidth, TruthBits, ByOffsets, ListOffsets, FixedItems, ByChildren, Views}
use Rattle.layout_rules.specs.declared.rule.LayoutRule.{LayoutRule}
use Rattle.layout_rules.specs.declared.rule.LayoutRule.TheVariants as rules
use Rattle.layout_rules.specs.declared.rule.Numbers.{Numbers}
use Rattle.layout_rules.specs.promise.Layout.{bytes_or_none, end, first, is_valid, is_valid_by, items, layout_of, natural, need, offset_in, offsets_need}
use Rattle.layout_rules.specs.promise.Rules.{Node, buffer_absent, child_short, count_wrong, fails, falls_in, fault, fault_if, first_below, in_order}
use Rattle.layout_rules.specs.Rules.{buffer_short}
use Rattle.layout_rules.specs.promise.Rules.{indices_wrong, is_behind_offsets, is_negative, items_need, length_if, live_length, null_count_wrong, null_count_wrong_in}
use Rattle.layout_rules.specs.promise.Rules.{null_total, offsets_fall, offsets_fall_if, one_if, prefixes_wrong, short_child, texts_wrong, views_misplaced}
use Rattle.data_types.specs.promise.Ways.{Steps}
use Rattle.layout_rules.specs.promise.Walk.{fault_at, first_some, node_fault, node_of}
use Rattle.array_laws.specs.Shown.{shown, shown_members}
use Rattle.array_laws.proofs.PlaceRules.{below-same, each-shown, indices-by_place, places-by_place, prefixes-by_place, texts-by_place}
use Rattle.array_laws.proofs.ShownParts.{funext, shown-bytes}
use Rattle.array_laws.proofs.Sizes.{count-same, count_of, counts_nulls, named-same, nulls-in, offset-same}

-- ---- buffers, offsets and nulls
module _ (m : ArrayMembers) where
  need-shown : (l : Layout) (k : ℕ) → need l (shown_members m) k ≡ need l m k
  need-shown l zero = refl
  need-shown (FixedWidth width) (suc k) = refl
  need-shown TruthBits (suc k) = refl
  need-shown (ByOffsets wide) (suc zero) = refl
  need-shown (ByOffsets wide) (suc (suc k)) =
      ap (λ b. if (end m == 0) || nat_lt (length (bytes_or_none b)) (offsets_need wide (end m)) then 0 else natural
      (offset_in wide (bytes_or_none b) (end m)))
      ((shown-bytes m).bytes 1)
  need-shown (ListOffsets wide) (suc k) = refl
  need-shown NoBuffers (suc k) = refl
  need-shown (FixedItems size) (suc k) = refl
  need-shown ByChildren (suc k) = refl
  need-shown Views (suc zero) = refl
  need-shown Views (suc (suc k)) = named-same m (shown_members m) (shown-bytes m) k

  absent-shown : (l : Layout) (k : ℕ) → buffer_absent l (shown_members m) k ≡ buffer_absent l m k
  absent-shown l zero = refl
  absent-shown l (suc k) = λ i.
      fault_if (not (is_some ((shown-bytes m).bytes (suc k) i)) && nat_lt 0 (need-shown l (suc k) i)) (suc k) (pos 0) (pos (need-shown l (suc k) i))

  short-shown : (l : Layout) (k : ℕ) → buffer_short l (shown_members m) k ≡ buffer_short l m k
  short-shown l k = λ i.
      let found = length (bytes_or_none ((shown-bytes m).bytes k i)) in
      fault_if (is_some ((shown-bytes m).bytes k i) && nat_lt found (need-shown l k i)) k (pos found) (pos (need-shown l k i))

  fall-shown : (wide : Bool) → offsets_fall wide (shown_members m) ≡ offsets_fall wide m
  fall-shown wide = λ i. fall_in (bytes_or_none ((shown-bytes m).bytes 1 i))
    where
      fall_in : List ℕ → Option Numbers
      fall_in offsets =
          let at_first = offset_in wide offsets (first m) in
          if end m == 0 then None
          else if is_negative at_first then fault 0 (pos 0) at_first
          else first_below (falls_in wide offsets (first m)) (items m)

  falls-shown : (o : Option Bool) → offsets_fall_if o (shown_members m) ≡ offsets_fall_if o m
  falls-shown None = refl
  falls-shown (Some wide) = fall-shown wide

  valid-shown : (k : ℕ) → is_valid (shown_members m) k ≡ is_valid m k
  valid-shown k = ap (λ b. is_valid_by b (first m + k)) ((shown-bytes m).bytes 0)

  pub total-shown : (n : ℕ) → null_total (shown_members m) n ≡ null_total m n
  total-shown zero = refl
  total-shown (suc n) = λ i. total-shown n i + (if valid-shown n i then 0 else 1)

  nulls-shown : null_count_wrong (shown_members m) ≡ null_count_wrong m
  nulls-shown = λ i. nulls_said (pos (total-shown (items m) i))
    where
      nulls_said : ℤ → Option Numbers
      nulls_said nulls = fault_if (not (int_eq m.null_count (negsuc 0)) && not (int_eq m.null_count nulls)) 0 m.null_count nulls

  nulls-shown_in : (l : Layout) → null_count_wrong_in l (shown_members m) ≡ null_count_wrong_in l m
  nulls-shown_in l = nulls-in l (shown_members m) ∙ ap (λ wrong. if counts_nulls l then wrong else None) nulls-shown ∙ sym (nulls-in l m)

  items_need-shown : (l : Layout) → items_need l (shown_members m) ≡ items_need l m
  items_need-shown NoBuffers = refl
  items_need-shown (FixedWidth width) = refl
  items_need-shown TruthBits = refl
  items_need-shown (ByOffsets wide) = refl
  items_need-shown (ListOffsets wide) = ap (λ z. if end m == 0 then 0 else natural z) (offset-same wide m (shown_members m) (shown-bytes m) (end m))
  items_need-shown (FixedItems size) = refl
  items_need-shown ByChildren = refl
  items_need-shown Views = refl

-- ---- children and dictionary

length-shown : (t : ArrayTree) → live_length (shown t) ≡ live_length t
length-shown Released = refl
length-shown (Live m ts d) = refl

children-shown : (needed k : ℕ) (ts : Trees ArrayMembers)
    → child_short needed k (tree_list (map_trees shown_members ts)) ≡ child_short needed k (tree_list ts)
children-shown needed k no_trees = refl
children-shown needed k (more_trees t ts) = λ i. option_or (short_child needed k (length-shown t i)) (children-shown needed (suc k) ts i)

count-shown : (ts : Trees ArrayMembers) → length (tree_list (map_trees shown_members ts)) ≡ length (tree_list ts)
count-shown no_trees = refl
count-shown (more_trees t ts) = ap suc (count-shown ts)

one-shown : (d : MaybeTree ArrayMembers) → one_if (option_tree (map_maybe shown_members d)) ≡ one_if (option_tree d)
one-shown absent = refl
one-shown (present t) = refl

dictionary-shown : (d : MaybeTree ArrayMembers) → length_if (option_tree (map_maybe shown_members d)) ≡ length_if (option_tree d)
dictionary-shown absent = refl
dictionary-shown (present t) = length-shown t

-- ---- a node

module _ (kind : DataType) (kids : Trees DataType) (dict : MaybeTree DataType) (m : ArrayMembers) (ts : Trees ArrayMembers) (d : MaybeTree ArrayMembers) where
  abbrev whole_node : Node
  whole_node = record { kind = kind; kids = tree_list kids; dict = option_tree dict; own = m; children = tree_list ts; dictionary = option_tree d }

  abbrev shown_node : Node
  shown_node = record {
    kind = kind;
    kids = tree_list kids;
    dict = option_tree dict;
    own = shown_members m;
    children = tree_list (map_trees shown_members ts);
    dictionary = option_tree (map_maybe shown_members d);
  }

  abbrev l : Layout
  l = layout_of kind

  below-shown : (f g : ℕ → Option Numbers) → ((k : ℕ) → f k ≡ g k) → first_below f (count_of l (shown_members m)) ≡ first_below g (count_of l m)
  below-shown f g same = ap (first_below f) (count-same l m (shown_members m) (shown-bytes m)) ∙ below-same f g (count_of l m) same

  fails-shown : (rule : LayoutRule) → fails rule shown_node ≡ fails rule whole_node
  fails-shown rules.Released = refl
  fails-shown rules.NegativeLength = refl
  fails-shown rules.NegativeOffset = refl
  fails-shown rules.BufferCount = λ i. count_wrong ((shown-bytes m).count i) (count-same l m (shown_members m) (shown-bytes m) i)
  fails-shown rules.ChildCount = ap (λ n. count_wrong n (length (tree_list kids))) (count-shown ts)
  fails-shown rules.Dictionary = ap (λ n. count_wrong n (one_if (option_tree dict))) (one-shown d)
  fails-shown rules.BufferAbsent = below-shown (buffer_absent l (shown_members m)) (buffer_absent l m) (absent-shown m l)
  fails-shown rules.OffsetsFall = falls-shown m (is_behind_offsets l)
  fails-shown rules.BufferShort = below-shown (buffer_short l (shown_members m)) (buffer_short l m) (short-shown m l)
  fails-shown rules.ChildShort =
      ap (λ n. child_short n 0 (tree_list (map_trees shown_members ts))) (items_need-shown m l) ∙ children-shown (items_need l m) 0 ts
  fails-shown rules.NullCount = nulls-shown_in m l
  fails-shown rules.ViewPlace = each-shown (views_misplaced l) (places-by_place l) m
  fails-shown rules.ViewPrefix = each-shown (prefixes_wrong l) (prefixes-by_place l) m
  fails-shown rules.NotText = each-shown (texts_wrong kind) (texts-by_place kind) m
  fails-shown rules.IndexRange =
      ap (indices_wrong kind (shown_members m)) (dictionary-shown d)
      ∙ each-shown (λ own. indices_wrong kind own (length_if (option_tree d))) (indices-by_place kind (length_if (option_tree d))) m
  fails-shown rules.WindowTooLong = refl
  fails-shown rules.TopNulls = refl
  fails-shown rules.TopKind = refl

  live-node : (path : Steps) → node_fault path (Some shown_node) ≡ node_fault path (Some whole_node)
  live-node path = ap (λ f. first_some (λ rule. fault_at path rule (f rule)) in_order) (funext fails-shown)

pub node-shown : (kind : DataType) (kids : Trees DataType) (dict : MaybeTree DataType) (t : ArrayTree) (path : Steps)
    → node_fault path (node_of kind kids dict (shown t)) ≡ node_fault path (node_of kind kids dict t)
node-shown kind kids dict Released path = refl
node-shown kind kids dict (Live m ts d) path = live-node kind kids dict m ts d path
