-- The children of a lawful array are live.
use Rattle.std.proofs.Common.{◌<◌, ℕ, zero, suc, length, get_or, arith}
use Rattle.data_types.specs.declared.kind.DataType.{DataType}
use Rattle.tree_model.specs.promise.TreeData.{Released, Live, Trees, no_trees, more_trees, tree_list}
use Rattle.tree_model.specs.promise.TreeParts.{IsLive, children_of, child_at}
use Rattle.raw_array.specs.promise.Members.{ArrayTree}
use Rattle.data_types.specs.promise.KindTrees.{KindTree}
use Rattle.data_types.specs.KindTrees.{NodesOk, AllNodesOk}
use Rattle.layout_rules.specs.Lawful.{PartsHold, RootHolds}
use Rattle.layout_rules.specs.promise.Walk.{LayoutOk}

pub live : (typed : KindTree) → NodesOk typed → IsLive typed
live Released ok = absurd ok
live (Live kind kids dict) ok = tt

kid-live : (kids : Trees DataType) (k : ℕ) → AllNodesOk kids → k < length (tree_list kids) → IsLive (get_or (tree_list kids) k Released)
kid-live no_trees k ok small = absurd (omega (arith, small))
kid-live (more_trees kid kids) zero ok small = live kid ok.0
kid-live (more_trees kid kids) (suc k) ok small = kid-live kids k ok.1 (omega (arith, small))

type-live : (typed : KindTree) (k : ℕ) → NodesOk typed → k < length (children_of typed) → IsLive (child_at typed k)
type-live Released k ok small = absurd ok
type-live (Live kind kids dict) k ok small = kid-live kids k ok.3 small

pub child-live : (typed : KindTree) (array : ArrayTree) (k : ℕ) → NodesOk typed → LayoutOk typed array → k < length (children_of typed)
    → ((typed : KindTree) (array : ArrayTree) → IsLive typed → LayoutOk typed array → RootHolds typed array)
    → ((typed : KindTree) (array : ArrayTree) → IsLive typed → LayoutOk typed array → PartsHold typed array)
    → IsLive (child_at array k)
child-live typed array k ok lawful small roots parts =
    (roots (child_at typed k) (child_at array k) (type-live typed k ok small) ((parts typed array (live typed ok) lawful).kids k small)).live
