-- The first fault by where it is: in a node's own parts, its children or its dictionary; and how many items are null.
use Rattle.std.specs.Prelude.{ℕ, suc, List, [], ◌∷◌, ◌++◌, Option, Some, None}
use Rattle.std.specs.Option.{option_or}
use Rattle.tree_model.specs.promise.TreeData.{Released, Live}
use Rattle.raw_array.specs.promise.Members.{ArrayTree}
use Rattle.layout_rules.specs.declared.rule.LayoutRule.{LayoutRule}
use Rattle.data_types.specs.promise.KindTrees.{KindTree}
use Rattle.data_types.specs.promise.Ways.{Steps, dictionary_step}
use Rattle.layout_rules.specs.promise.Layout.{layout_of}
use Rattle.layout_rules.specs.promise.Rules.{Node, null_items, fails}
use Rattle.layout_rules.specs.promise.Walk.{Fault, first_some, node_fault, node_of, fault_at, visit_fault, visits}

abbrev pub fault_by : Steps → Node → LayoutRule → Option Fault
fault_by path node rule = fault_at path rule (fails rule node)

-- the first fault of a walk that begins at these steps
abbrev pub fault_from : KindTree → Steps → ArrayTree → Option Fault
fault_from typed path array = first_some visit_fault (visits typed path array)

-- ---- the first fault of a node's own parts

abbrev pub own_fault : KindTree → Steps → ArrayTree → Option Fault
own_fault Released path array = None
own_fault (Live kind kids dict) path array = node_fault path (node_of kind kids dict array)

abbrev pub children_fault : List KindTree → ℕ → Steps → List ArrayTree → Option Fault
children_fault [] k path children = None
children_fault (kid ∷ kids) k path [] = None
children_fault (kid ∷ kids) k path (child ∷ rest) = option_or (fault_from kid (path ++ k ∷ []) child) (children_fault kids (suc k) path rest)

abbrev pub dictionary_fault : Option KindTree → Steps → Option ArrayTree → Option Fault
dictionary_fault None path dictionary = None
dictionary_fault (Some dict) path None = None
dictionary_fault (Some dict) path (Some dictionary) = fault_from dict (path ++ dictionary_step ∷ []) dictionary

-- the first fault of some of a live node's rules
abbrev pub rules_fault : List LayoutRule → Steps → Node → Option Fault
rules_fault some path node = first_some (fault_by path node) some

-- ---- how many items of an array are null

abbrev pub nulls_in : KindTree → ArrayTree → ℕ
nulls_in (Live kind kids dict) (Live own children dictionary) = null_items (layout_of kind) own
nulls_in _ _ = 0
