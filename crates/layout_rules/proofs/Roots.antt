-- The root of a lawful array, over one level of a tree of kinds.
use Rattle.std.proofs.Common.{◌≡◌, ℕ, zero, suc, ◌<◌, ◌≤◌, ℤ, pos, negsuc, List, [], ◌∷◌, length, Option, Some, None, refl, ap, ◌∙◌, sym, subst, arith}
use Rattle.std.specs.Prelude.{nat_lt, ◌≤ℤ◌, ◌^◌}
use Rattle.data_types.specs.declared.kind.DataType.{DataType}
use Rattle.tree_model.specs.promise.TreeData.{Released, Live, Trees, trees, MaybeTree, maybe_tree, absent, present, tree_list, option_tree}
use Rattle.tree_model.specs.promise.TreeParts.{IsLive, children_of}
use Rattle.tree_model.specs.promise.TreeParts.{dictionary_of}
use Rattle.tree_model.proofs.Lists.{tree_list-trees, trees-tree_list}
use Rattle.raw_array.specs.promise.Members.{ArrayMembers, ArrayTree, members_of}
use Rattle.data_types.specs.declared.typed.Typed.{Typed, out-Typed}
use Rattle.layout_rules.specs.declared.rule.LayoutRule.TheVariants as rules
use Rattle.data_types.specs.promise.KindTrees.{KindTree}
use Rattle.data_types.specs.promise.TypedView.{typed_of}
use Rattle.data_types.specs.TypedView.{kids_of, kind_of, dict_in}
use Rattle.layout_rules.specs.promise.Layout.{layout_of, buffer_count, items, end}
use Rattle.layout_rules.specs.Layout.{IsLongIfPresent}
use Rattle.layout_rules.specs.promise.Rules.{Node, fault_if, count_wrong, is_negative, in_order, one_if, window_limit, first_below, buffer_absent}
use Rattle.layout_rules.specs.Rules.{buffer_short}
use Rattle.layout_rules.specs.promise.Rules.{offsets_fall_if, is_behind_offsets, items_need, child_short, length_if, indices_wrong, views_misplaced}
use Rattle.layout_rules.specs.promise.Values.{tree_items}
use Rattle.data_types.specs.promise.Ways.{Steps}
use Rattle.layout_rules.specs.promise.Walk.{LayoutOk, first_some, visit_fault, walk_below, walks_of}
use Rattle.layout_rules.specs.Walk.{fault_from, own_fault, rules_fault}
use Rattle.layout_rules.specs.promise.Walk.{walk_of}
use Rattle.data_types.proofs.Levels.{typed_out}
use Rattle.layout_rules.proofs.Long.{long-validity}
use Rattle.layout_rules.proofs.NamedRules.{AreMet, are-met}
use Rattle.layout_rules.proofs.Lawful.{lawful-first_fault, left-none}

-- ---- one level of a tree of kinds

pub record Level : Type 0 where
  pub kind : DataType
  pub kids : List KindTree
  pub dict : Option KindTree

abbrev pub tree_in : Level → KindTree
tree_in t = Live t.kind (trees t.kids) (maybe_tree t.dict)

-- a live array with these types
abbrev pub node_in : Level → ArrayTree → Node
node_in t array =
    record { kind = t.kind; kids = t.kids; dict = t.dict; own = members_of array; children = children_of array; dictionary = dictionary_of array }

-- the level of the code's tree, and of a live tree

abbrev pub level_of : Typed → Level
level_of t = record { kind = kind_of t; kids = kids_of t; dict = dict_in (out-Typed t).dict }

pub lawful-level : (t : Typed) (array : ArrayTree) → LayoutOk (typed_of t) array → LayoutOk (tree_in (level_of t)) array
lawful-level t array h = subst (λ k. LayoutOk k array) (typed_out t) h

abbrev pub level_in : DataType → Trees DataType → MaybeTree DataType → Level
level_in kind kids dict = record { kind = kind; kids = tree_list kids; dict = option_tree dict }

maybe_tree-option_tree : (dict : MaybeTree DataType) → maybe_tree (option_tree dict) ≡ dict
maybe_tree-option_tree absent = refl
maybe_tree-option_tree (present t) = refl

pub tree_in-level_in : (kind : DataType) (kids : Trees DataType) (dict : MaybeTree DataType) → Live kind kids dict ≡ tree_in (level_in kind kids dict)
tree_in-level_in kind kids dict =
    sym (ap (λ ks. Live kind ks (maybe_tree (option_tree dict))) (trees-tree_list kids) ∙ ap (Live kind kids) (maybe_tree-option_tree dict))

pub lawful-level_in : (kind : DataType) (kids : Trees DataType) (dict : MaybeTree DataType) (array : ArrayTree) → LayoutOk (Live kind kids dict) array
    → LayoutOk (tree_in (level_in kind kids dict)) array
lawful-level_in kind kids dict array h = subst (λ k. LayoutOk k array) (tree_in-level_in kind kids dict) h

option_tree-maybe_tree : (d : Option KindTree) → option_tree (maybe_tree d) ≡ d
option_tree-maybe_tree None = refl
option_tree-maybe_tree (Some t) = refl

-- a live node's own fault is that of its rules
own_fault-level : (t : Level) (path : Steps) (array : ArrayTree) → IsLive array → own_fault (tree_in t) path array ≡ rules_fault in_order path (node_in t array)
own_fault-level t path Released live = absurd live
own_fault-level t path (Live own children dictionary) live =
    ap (λ kids. rules_fault in_order path (record {
      kind = t.kind;
      kids = kids;
      dict = option_tree (maybe_tree t.dict);
      own = own;
      children = tree_list children;
      dictionary = option_tree dictionary;
    })) (tree_list-trees t.kids)
    ∙ ap (λ dict. rules_fault in_order path (record {
      kind = t.kind;
      kids = t.kids;
      dict = dict;
      own = own;
      children = tree_list children;
      dictionary = option_tree dictionary;
    })) (option_tree-maybe_tree t.dict)

-- ---- the root of a lawful array

from-own : (kind : DataType) (kids : Trees DataType) (dict : MaybeTree DataType) (path : Steps) (array : ArrayTree)
    → fault_from (Live kind kids dict) path array ≡ None → own_fault (Live kind kids dict) path array ≡ None
from-own kind kids dict path array e =
    left-none (own_fault (Live kind kids dict) path array) (first_some visit_fault (walk_below (walks_of kids) (walk_of dict) path array)) e

is-live : (kind : DataType) (kids : Trees DataType) (dict : MaybeTree DataType) (array : ArrayTree)
    → own_fault (Live kind kids dict) [] array ≡ None → IsLive array
is-live kind kids dict Released e = absurd (grind arith)
is-live kind kids dict (Live own children dictionary) e = tt

not_negative : (z : ℤ) → fault_if (is_negative z) 0 z (pos 0) ≡ None → pos 0 ≤ℤ z
not_negative (pos n) e = grind arith
not_negative (negsuc n) e = grind arith

same_count : (found needed : ℕ) → count_wrong found needed ≡ None → found ≡ needed
same_count found needed e = grind arith

within_limit : (n limit : ℕ) → fault_if (nat_lt limit n) 0 (pos n) (pos limit) ≡ None → n ≤ limit
within_limit n limit e = grind arith

-- the validity bits are long enough; where the layout has no buffer, there are none
validity-here : (own : ArrayMembers) (count : ℕ) → length own.buffers ≡ count → (0 < count → IsLongIfPresent own) → IsLongIfPresent own
validity-here own zero e h = subst (λ b. IsLongIfPresent (record own { buffers = b })) (sym (nil own.buffers e)) tt
  where
    nil : {X : Type 0} → (xs : List X) → length xs ≡ 0 → xs ≡ []
    nil [] e = refl
    nil (x ∷ xs) e = absurd (omega (arith, e))
validity-here own (suc n) e h = h (omega arith)

pub tree_items-items : (array : ArrayTree) → tree_items array ≡ items (members_of array)
tree_items-items Released = refl
tree_items-items (Live own children dictionary) = refl

-- ---- what the rules say of it, one by one

module _ (t : Level) (array : ArrayTree) (h : LayoutOk (tree_in t) array) where
  own-none : own_fault (tree_in t) [] array ≡ None
  own-none = from-own t.kind (trees t.kids) (maybe_tree t.dict) [] array (lawful-first_fault (tree_in t) array h)

  pub root-live : IsLive array
  root-live = is-live t.kind (trees t.kids) (maybe_tree t.dict) array own-none

  pub root-met : AreMet (node_in t array)
  root-met = are-met [] (node_in t array) (sym (own_fault-level t [] array root-live) ∙ own-none)

  pub root-length : pos 0 ≤ℤ (members_of array).length
  root-length = not_negative (members_of array).length (root-met rules.NegativeLength)

  pub root-offset : pos 0 ≤ℤ (members_of array).offset
  root-offset = not_negative (members_of array).offset (root-met rules.NegativeOffset)

  pub root-count : length (members_of array).buffers ≡ buffer_count (layout_of t.kind) (length (members_of array).buffers)
  root-count =
      same_count (length (members_of array).buffers) (buffer_count (layout_of t.kind) (length (members_of array).buffers)) (root-met rules.BufferCount)

  pub root-short : first_below (buffer_short (layout_of t.kind) (members_of array)) (buffer_count (layout_of t.kind) (length (members_of array).buffers)) ≡ None
  root-short = root-met rules.BufferShort

  pub root-long : 0 < buffer_count (layout_of t.kind) (length (members_of array).buffers) → IsLongIfPresent (members_of array)
  root-long some = long-validity (layout_of t.kind) (members_of array) root-short some

  pub root-absent : first_below (buffer_absent (layout_of t.kind) (members_of array)) (buffer_count (layout_of t.kind) (length (members_of array).buffers))
      ≡ None
  root-absent = root-met rules.BufferAbsent

  pub root-falls : offsets_fall_if (is_behind_offsets (layout_of t.kind)) (members_of array) ≡ None
  root-falls = root-met rules.OffsetsFall

  pub root-child_short : child_short (items_need (layout_of t.kind) (members_of array)) 0 (children_of array) ≡ None
  root-child_short = root-met rules.ChildShort

  pub root-indices : indices_wrong t.kind (members_of array) (length_if (dictionary_of array)) ≡ None
  root-indices = root-met rules.IndexRange

  pub root-end : end (members_of array) ≤ 2 ^ 40
  root-end = within_limit (end (members_of array)) window_limit (root-met rules.WindowTooLong)

  pub root-children : length (children_of array) ≡ length t.kids
  root-children = same_count (length (children_of array)) (length t.kids) (root-met rules.ChildCount)

  pub root-dictionary : one_if (dictionary_of array) ≡ one_if t.dict
  root-dictionary = same_count (one_if (dictionary_of array)) (one_if t.dict) (root-met rules.Dictionary)

  pub root-validity : length (members_of array).buffers ≡ buffer_count (layout_of t.kind) (length (members_of array).buffers)
      → IsLongIfPresent (members_of array)
  root-validity e = validity-here (members_of array) (buffer_count (layout_of t.kind) (length (members_of array).buffers)) e
      (long-validity (layout_of t.kind) (members_of array) root-short)

  pub views-placed : views_misplaced (layout_of t.kind) (members_of array) ≡ None
  views-placed = root-met rules.ViewPlace
