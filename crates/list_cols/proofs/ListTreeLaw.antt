-- The tree of a list column meets the layout rules, and its values are the lists.
use Rattle.std.proofs.Common.{◌≡◌, ◌∙◌, ℕ, zero, suc, ◌+◌, ◌-◌, ◌*◌, ◌^◌, ◌<◌, ◌≤◌, ℤ, pos, negsuc, Bool, true, false, List, [], ◌∷◌, ◌++◌, length, map, get_or, refl, sym, ap, arith}
use Rattle.std.proofs.Common.{Option, None, Some}
use Rattle.std.proofs.lemmas.Bool.{le-ltb}
use Rattle.std.proofs.lemmas.List.{get_or-map, length-map}
use Rattle.std.specs.Prelude.{if◌then◌else◌, int_lt, nat_lt, ◌==◌, ◌&&◌, not}
use Rattle.std.specs.Ordering.{int_eq}
use Rattle.data_types.specs.declared.kind.DataType.{DataType}
use Rattle.data_types.specs.declared.kind.DataType.TheVariants as kinds
use Rattle.data_types.specs.promise.Value.{Value, Null, Items, values}
use Rattle.tree_model.specs.promise.TreeData.{absent, trees}
use Rattle.raw_array.specs.promise.Members.{ArrayMembers, ArrayTree}
use Rattle.data_types.specs.promise.Ways.{Steps}
use Rattle.layout_rules.specs.promise.Layout.{end, natural, offset_in, offsets_need}
use Rattle.layout_rules.specs.promise.Rules.{Node, fault, fault_if, first_below, in_order, is_negative, null_total, offsets_fall, short_child}
use Rattle.layout_rules.specs.Rules.{offset_falls}
use Rattle.layout_rules.specs.promise.Values.{each, tree_items, value_at, values_of}
use Rattle.layout_rules.specs.promise.Walk.{LayoutOk, node_fault, node_of, first_some, visit_fault, visits, walk_children, walks_of}
use Rattle.layout_rules.specs.declared.rule.Numbers.{Numbers}
use Rattle.layout_rules.proofs.Lawful.{first_fault-lawful, lawful-first_fault}
use Rattle.arr_export.specs.promise.ArrayTrees.{column_tree}
use Rattle.arr_export.specs.ArrayTrees.{flat_type}
use Rattle.arr_export.proofs.ColumnLaw.{column-lawful, column-values}
use Rattle.arr_export.proofs.Each.{each-is, length-each, value-there}
use Rattle.layout_rules.specs.declared.rule.LayoutRule.TheVariants as rules
use Rattle.layout_rules.proofs.NamedRules.{AreMet, none-fails}
use Rattle.arr_export.proofs.NodeRules.{below-none, both-none, no-fault}
use Rattle.arr_export.proofs.Steady.{first_some-append, steady}
use Rattle.data_types.specs.promise.Groups.{sums_from}
use Rattle.list_cols.specs.promise.ListTrees.{list_members, list_tree}
use Rattle.list_cols.specs.ListTrees.{FitLists, joined, list_kind, list_lengths, list_offsets, list_value}
use Rattle.list_cols.proofs.ListEnds.{between-ends, length-offsets, offset-first, offset-is, offset-last, offsets-rise}

from-start : (i : ℕ) → 0 + i ≡ i
from-start i = omega arith

none-or : (none : Bool) (found : Option Numbers) → found ≡ None → (if none then None else found) ≡ None
none-or true found e = refl
none-or false found e = e

nothing-or : (none : Bool) (n most : ℕ) → n ≤ most → (if none then 0 else n) ≤ most
nothing-or true n most le = omega arith
nothing-or false n most le = le

offsets-need : (n : ℕ) → offsets_need false n ≤ (n + 1) * 4
offsets-need zero = omega arith
offsets-need (suc n) = omega arith

no-nulls : (count : ℕ) (offsets : List ℕ) (n : ℕ) → null_total (list_members count offsets) n ≡ 0
no-nulls count offsets zero = refl
no-nulls count offsets (suc n) = omega (arith, no-nulls count offsets n)

null-count : (n : ℕ) → n ≡ 0 → fault_if (not (int_eq (pos 0) (negsuc 0)) && not (int_eq (pos 0) (pos n))) 0 (pos 0) (pos n) ≡ None
null-count n e = ap (λ (m : ℕ). fault_if (not (int_eq (pos 0) (negsuc 0)) && not (int_eq (pos 0) (pos m))) 0 (pos 0) (pos m)) e

module _ (kind : DataType) (lists : List (List Value)) (fit : FitLists kind lists) where
  abbrev offsets : List ℕ
  offsets = list_offsets (list_lengths lists)

  abbrev own : ArrayMembers
  own = list_members (length lists) offsets

  abbrev child : ArrayTree
  child = column_tree kind (joined lists) None

  rise-at : (i : ℕ) → i < length lists → offset_falls false own i ≡ None
  rise-at i lt =
      no-fault (int_lt (offset_in false offsets (0 + i + 1)) (offset_in false offsets (0 + i))) i (offset_in false offsets (0 + i))
      (offset_in false offsets (0 + i + 1))
      (ap (λ (k : ℕ). int_lt (offset_in false offsets (k + 1)) (offset_in false offsets k)) (from-start i)
      ∙ offsets-rise lists fit.reached i lt)

  rise-all : offsets_fall false own ≡ None
  rise-all =
      none-or (end own == 0) _
      (ap (λ (z : ℤ). if is_negative z then fault 0 (pos 0) z else first_below (offset_falls false own) (length lists)) (offset-first lists fit.reached)
      ∙ below-none (offset_falls false own) (length lists) rise-at)

  last-is : offset_in false offsets (0 + length lists) ≡ pos (length (joined lists))
  last-is = ap (offset_in false offsets) (from-start (length lists)) ∙ offset-last lists fit.reached

  abbrev root : Node
  root = record {
    kind = kinds.List false;
    kids = flat_type kind None ∷ [];
    dict = None;
    own = own;
    children = child ∷ [];
    dictionary = None;
  }

  met : AreMet root
  met rules.BufferShort =
      let long : offsets_need false (0 + length lists) ≤ length offsets =
      omega (arith, offsets-need (0 + length lists), length-offsets lists fit.reached) in
      let short : nat_lt (length offsets) (offsets_need false (0 + length lists)) ≡ false = le-ltb _ _ long in
      no-fault _ 1 _ _ short
  met rules.OffsetsFall = rise-all
  met rules.ChildShort =
      let last : natural (offset_in false offsets (0 + length lists)) ≤ length (joined lists) = omega (arith, ap natural last-is) in
      let need = if end own == 0 then 0 else natural (offset_in false offsets (0 + length lists)) in
      let most : need ≤ length (joined lists) = nothing-or (end own == 0) _ (length (joined lists)) last in
      let children : short_child need 0 (Some (pos (length (joined lists)))) ≡ None =
      no-fault (int_lt (pos (length (joined lists))) (pos need)) 0 (pos (length (joined lists))) (pos need) (le-ltb (length (joined lists)) need most) in
      both-none _ None children refl
  met rules.NullCount = null-count (null_total own (length lists)) (no-nulls (length lists) offsets (length lists))
  met rules.WindowTooLong =
      no-fault (nat_lt (2 ^ 40) (0 + length lists)) 0 (pos (0 + length lists)) (pos (2 ^ 40)) (le-ltb (2 ^ 40) (0 + length lists) (omega (arith, fit.few)))
  met _ = refl

  node-passes : (path : Steps) → node_fault path (node_of (kinds.List false) (trees (flat_type kind None ∷ [])) absent (list_tree kind lists)) ≡ None
  node-passes path = none-fails path root in_order met

  pub list-lawful : LayoutOk (list_kind kind) (list_tree kind lists)
  list-lawful =
      first_fault-lawful (list_kind kind) (list_tree kind lists)
      (both-none (node_fault [] (node_of (kinds.List false) (trees (flat_type kind None ∷ [])) absent (list_tree kind lists)))
      (first_some visit_fault (walk_children (walks_of (trees (flat_type kind None ∷ []))) 0 [] (child ∷ []) ++ []))
      (node-passes [])
      (first_some-append visit_fault (walk_children (walks_of (trees (flat_type kind None ∷ []))) 0 [] (child ∷ [])) []
      (first_some-append visit_fault (visits (flat_type kind None) (0 ∷ []) child) []
      (steady (flat_type kind None) [] (0 ∷ []) child (lawful-first_fault (flat_type kind None) child (column-lawful kind (joined lists) fit.values))) refl) refl))

  -- ---- the values

  item-is : (k : ℕ) → k < length (joined lists) → value_at (flat_type kind None) child k ≡ get_or (joined lists) k Null
  item-is k lt =
      let whole = column-values kind (joined lists) fit.values in
      let count : tree_items child ≡ length (joined lists) = sym (length-each (value_at (flat_type kind None) child) 0 (tree_items child)) ∙ ap length whole in
      ap (value_at (flat_type kind None) child) (sym (from-start k))
      ∙ sym (value-there (value_at (flat_type kind None) child) 0 (tree_items child) k Null (omega (arith, count, lt)))
      ∙ ap (λ (vs : List Value). get_or vs k Null) whole

  list-is : (i : ℕ) → i < length lists → value_at (list_kind kind) (list_tree kind lists) i ≡ list_value (get_or lists i [])
  list-is i lt =
      let read = value_at (flat_type kind None) child in
      let show = λ (here next : ℤ). Items (values (each read (natural here) (natural next - natural here))) in
      let next : i + 1 ≡ suc i = omega arith in
      let ends = sums_from 0 (list_lengths lists) in
      ap (λ (k : ℕ). show (offset_in false offsets k) (offset_in false offsets (k + 1))) (from-start i)
      ∙ ap (λ (z : ℤ). show z (offset_in false offsets (i + 1))) (offset-is lists fit.reached i (omega (arith, lt)))
      ∙ ap (λ (z : ℤ). show (pos (get_or ends i 0)) z) (offset-is lists fit.reached (i + 1) (omega (arith, lt)) ∙ ap (λ (k : ℕ). pos (get_or ends k 0)) next)
      ∙ ap list_value (between-ends read lists item-is i lt)

  pub list-values : values_of (list_kind kind) (list_tree kind lists) ≡ map list_value lists
  list-values =
      let many = length-map lists list_value in
      ap (each (value_at (list_kind kind) (list_tree kind lists)) 0) (sym many)
      ∙ each-is (value_at (list_kind kind) (list_tree kind lists)) (map list_value lists) 0 (list_value []) (λ i lt.
      ap (value_at (list_kind kind) (list_tree kind lists)) (from-start i) ∙ list-is i (omega (arith, many, lt))
      ∙ sym (get_or-map list_value lists i [] (list_value []) (omega (arith, many, lt))))
