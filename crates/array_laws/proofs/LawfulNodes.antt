-- What holds of the root of a lawful array: no rule fails there, and its numbers are not negative.
use Rattle.std.proofs.Common.{◌≡◌, ℕ, ◌≤◌, ℤ, pos, negsuc, false, [], None, Some, refl, arith}
use Rattle.std.specs.Prelude.{nat_lt}
use Rattle.data_types.specs.declared.kind.DataType.{DataType}
use Rattle.tree_model.specs.promise.TreeParts.{IsLive}
use Rattle.tree_model.specs.promise.TreeData.{Released, Live, Trees, MaybeTree, tree_list, option_tree}
use Rattle.raw_array.specs.promise.Members.{ArrayMembers, ArrayTree}
use Rattle.layout_rules.specs.promise.Layout.{end, first, items, natural}
use Rattle.layout_rules.specs.promise.Rules.{Node, fault_if, is_negative, window_limit}
use Rattle.layout_rules.specs.promise.Walk.{LayoutOk, first_fault, first_some, node_fault, visit_fault, walk_below, walk_of, walks_of}
use Rattle.layout_rules.proofs.Lawful.{lawful-first_fault, left-none, right-none}
use Rattle.layout_rules.specs.declared.rule.LayoutRule.TheVariants as rules
use Rattle.layout_rules.proofs.NamedRules.{AreMet, are-met}
use Rattle.array_laws.proofs.NodeParts.{fault-false}

pub pos-natural : (z : ℤ) → is_negative z ≡ false → z ≡ pos (natural z)
pos-natural (pos n) e = refl
pos-natural (negsuc n) e = absurd (cc)

not-long : (n : ℕ) → fault_if (nat_lt window_limit n) 0 (pos n) (pos window_limit) ≡ None → n ≤ window_limit
not-long n e = grind arith

module _ (kind : DataType) (kids : Trees DataType) (dict : MaybeTree DataType) where
  pub lawful-live : (t : ArrayTree) → LayoutOk (Live kind kids dict) t → IsLive t
  lawful-live (Live m ts d) ok = tt
  lawful-live Released ok = let e : first_fault (Live kind kids dict) Released ≡ None = lawful-first_fault (Live kind kids dict) Released ok in absurd (cc)

  abbrev pub node : ArrayMembers → Trees ArrayMembers → MaybeTree ArrayMembers → Node
  node m ts d = record {
    kind = kind;
    kids = tree_list kids;
    dict = option_tree dict;
    own = m;
    children = tree_list ts;
    dictionary = option_tree d;
  }

  module _ (m : ArrayMembers) (ts : Trees ArrayMembers) (d : MaybeTree ArrayMembers) (ok : LayoutOk (Live kind kids dict) (Live m ts d)) where
    here : node_fault [] (Some (node m ts d)) ≡ None
    here =
        left-none (node_fault [] (Some (node m ts d))) (first_some visit_fault (walk_below (walks_of kids) (walk_of dict) [] (Live m ts d)))
        (lawful-first_fault (Live kind kids dict) (Live m ts d) ok)

    pub below-lawful : first_some visit_fault (walk_below (walks_of kids) (walk_of dict) [] (Live m ts d)) ≡ None
    below-lawful =
        right-none (node_fault [] (Some (node m ts d))) (first_some visit_fault (walk_below (walks_of kids) (walk_of dict) [] (Live m ts d))) here
        (lawful-first_fault (Live kind kids dict) (Live m ts d) ok)

    pub lawful-node : AreMet (node m ts d)
    lawful-node = are-met [] (node m ts d) here

    pub not-before : is_negative m.offset ≡ false
    not-before = fault-false (is_negative m.offset) 0 m.offset (pos 0) (lawful-node rules.NegativeOffset)

    pub not-less : is_negative m.length ≡ false
    not-less = fault-false (is_negative m.length) 0 m.length (pos 0) (lawful-node rules.NegativeLength)

    pub offset-first : m.offset ≡ pos (first m)
    offset-first = pos-natural m.offset not-before

    pub length-items : m.length ≡ pos (items m)
    length-items = pos-natural m.length not-less

    pub lawful-end : end m ≤ window_limit
    lawful-end = not-long (end m) (lawful-node rules.WindowTooLong)
