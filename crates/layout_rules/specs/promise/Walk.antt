-- The nodes in preorder, and the first fault.
use Rattle.std.specs.Prelude.{◌≡◌, ℕ, ℤ, suc, pos, Bool, true, false, not, ◌&&◌, nat_lt, if◌then◌else◌, List, [], ◌∷◌, ◌++◌, Option, Some, None, All}
use Rattle.std.specs.Option.{option_or}
use Rattle.data_types.specs.declared.kind.DataType.{DataType}
use Rattle.data_types.specs.declared.kind.DataType.TheVariants as kinds
use Rattle.tree_model.specs.promise.TreeData.{Released, Live, Trees, no_trees, more_trees, MaybeTree, absent, present, tree_list, option_tree}
use Rattle.raw_array.specs.promise.Members.{ArrayTree}
use Rattle.layout_rules.specs.declared.rule.LayoutRule.{LayoutRule}
use Rattle.layout_rules.specs.declared.rule.LayoutRule.TheVariants as rules
use Rattle.layout_rules.specs.declared.rule.Numbers.{Numbers}
use Rattle.data_types.specs.promise.KindTrees.{KindTree}
use Rattle.data_types.specs.promise.Ways.{Steps, dictionary_step}
use Rattle.layout_rules.specs.promise.Layout.{items}
use Rattle.layout_rules.specs.promise.Rules.{Node, fails, in_order, null_total}

-- a node that the walk comes to: released, or live
pub record Visit : Type 0 where
  pub path : Steps
  pub node : Option Node

abbrev pub Walk : Type 0
Walk = Steps → ArrayTree → List Visit

abbrev pub walk_children : List Walk → ℕ → Steps → List ArrayTree → List Visit
walk_children [] k path children = []
walk_children (walk ∷ walks) k path [] = []
walk_children (walk ∷ walks) k path (child ∷ rest) = walk (path ++ k ∷ []) child ++ walk_children walks (suc k) path rest

abbrev pub walk_dictionary : Option Walk → Steps → Option ArrayTree → List Visit
walk_dictionary None path dictionary = []
walk_dictionary (Some walk) path None = []
walk_dictionary (Some walk) path (Some dictionary) = walk (path ++ dictionary_step ∷ []) dictionary

abbrev pub node_of : DataType → Trees DataType → MaybeTree DataType → ArrayTree → Option Node
node_of kind kids dict Released = None
node_of kind kids dict (Live own children dictionary) =
    Some (record { kind = kind; kids = tree_list kids; dict = option_tree dict; own = own; children = tree_list children; dictionary = option_tree dictionary })

abbrev pub walk_below : List Walk → Option Walk → Walk
walk_below walks walk path Released = []
walk_below walks walk path (Live own children dictionary) =
    walk_children walks 0 path (tree_list children) ++ walk_dictionary walk path (option_tree dictionary)

abbrev mutual
  -- a node, its children in order, its dictionary
  pub visits : KindTree → Walk
  visits Released = λ path array. []
  visits (Live kind kids dict) =
      λ path array. record { path = path; node = node_of kind kids dict array } ∷ walk_below (walks_of kids) (walk_of dict) path array

  pub walks_of : Trees DataType → List Walk
  walks_of no_trees = []
  walks_of (more_trees kid kids) = visits kid ∷ walks_of kids

  pub walk_of : MaybeTree DataType → Option Walk
  walk_of absent = None
  walk_of (present dict) = Some (visits dict)

-- ---- the first fault

pub record Fault : Type 0 where
  pub path : Steps
  pub rule : LayoutRule
  pub numbers : Numbers

abbrev pub fault_at : Steps → LayoutRule → Option Numbers → Option Fault
fault_at path rule None = None
fault_at path rule (Some numbers) = Some (record { path = path; rule = rule; numbers = numbers })

abbrev pub first_some : {X Y : Type 0} → (X → Option Y) → List X → Option Y
first_some f [] = None
first_some f (x ∷ xs) = option_or (f x) (first_some f xs)

abbrev pub node_fault : Steps → Option Node → Option Fault
node_fault path None = Some (record { path = path; rule = rules.Released; numbers = record { place = 0; left = pos 0; right = pos 0 } })
node_fault path (Some node) = first_some (λ rule. fault_at path rule (fails rule node)) in_order

abbrev pub visit_fault : Visit → Option Fault
visit_fault visit = node_fault visit.path visit.node

-- the first failing node in preorder, and its first rule
abbrev pub first_fault : KindTree → ArrayTree → Option Fault
first_fault typed array = first_some visit_fault (visits typed [] array)

-- No rule fails at any node.
abbrev pub LayoutOk : KindTree → ArrayTree → Type 0
LayoutOk typed array = All (λ visit. visit_fault visit ≡ None) (visits typed [] array)

-- ---- a chunk: a struct without a dictionary, of which no item is null

abbrev pub is_struct : DataType → Bool
is_struct kinds.Struct = true
is_struct _ = false

abbrev pub is_absent : MaybeTree DataType → Bool
is_absent absent = true
is_absent (present dict) = false

abbrev pub is_table : KindTree → Bool
is_table Released = false
is_table (Live kind kids dict) = is_struct kind && is_absent dict

abbrev pub root_fault : LayoutRule → ℤ → Fault
root_fault rule left = record { path = []; rule = rule; numbers = record { place = 0; left = left; right = pos 0 } }

abbrev pub top_fault : KindTree → ArrayTree → Option Fault
top_fault typed Released = None
top_fault typed (Live own children dictionary) =
    let nulls = null_total own (items own) in
    if not (is_table typed) then Some (root_fault rules.TopKind (pos 0))
    else if nat_lt 0 nulls then Some (root_fault rules.TopNulls (pos nulls))
    else None

-- the two rules of the root come after all others
abbrev pub first_chunk_fault : KindTree → ArrayTree → Option Fault
first_chunk_fault typed array = option_or (first_fault typed array) (top_fault typed array)

abbrev pub ChunkOk : KindTree → ArrayTree → Type 0
ChunkOk typed array = LayoutOk typed array × (top_fault typed array ≡ None)
