-- What holds of the columns of a chunk.
use Rattle.std.proofs.Common.{◌≡◌, ◌∙◌, ℕ, ◌^◌, ◌<◌, ◌≤◌, pos, List, length, get_or, ap, sym, subst, arith}
use Rattle.data_types.specs.declared.kind.DataType.TheVariants as kinds
use Rattle.tree_model.specs.promise.TreeParts.{IsLive}
use Rattle.tree_model.specs.promise.TreeData.{Released, Live, Trees, MaybeTree, absent, trees, tree_list}
use Rattle.tree_model.proofs.Lists.{tree_list-trees}
use Rattle.raw_array.specs.promise.Members.{ArrayMembers, ArrayTree}
use Rattle.data_types.specs.ColumnKinds.{table_type}
use Rattle.data_types.specs.promise.KindTrees.{KindTree}
use Rattle.layout_rules.specs.promise.Layout.{end, first, items}
use Rattle.layout_rules.specs.promise.Values.{tree_items}
use Rattle.layout_rules.specs.promise.Walk.{LayoutOk}
use Rattle.layout_rules.proofs.ReadWithin.{live-of}
use Rattle.layout_rules.proofs.TreeLaws.{items_hold, parts_hold, root_holds}
use Rattle.array_laws.proofs.LawfulNodes.{length-items, offset-first}

-- what holds of a struct of these types
pub record StructFacts (types : List KindTree) (m : ArrayMembers) (cs : List ArrayTree) : Type 0 where
  pub offset_is : m.offset ≡ pos (first m)
  pub length_is : m.length ≡ pos (items m)
  pub few : end m ≤ 2 ^ 40
  pub count : length cs ≡ length types
  pub child : (p : ℕ) → p < length types → LayoutOk (get_or types p Released) (get_or cs p Released)
  pub live : (p : ℕ) → p < length types → IsLive (get_or types p Released) → IsLive (get_or cs p Released)
  pub long : (p : ℕ) → p < length types → IsLive (get_or types p Released) → end m ≤ tree_items (get_or cs p Released)

pub struct-facts : (types : List KindTree) (m : ArrayMembers) (ts : Trees ArrayMembers) (d : MaybeTree ArrayMembers)
    → LayoutOk (table_type types) (Live m ts d) → StructFacts types m (tree_list ts)
struct-facts types m ts d ok =
    let typed = table_type types in
    let t : ArrayTree = Live m ts d in
    let cs = tree_list ts in
    let same : tree_list (trees types) ≡ types = tree_list-trees types in
    let many = ap length same in
    let child : (p : ℕ) → p < length types → LayoutOk (get_or types p Released) (get_or cs p Released) =
    λ p lt. subst (λ all. LayoutOk (get_or all p Released) (get_or cs p Released)) same ((parts_hold typed t tt ok).kids p (omega (arith, lt, many))) in
    record {
      offset_is = offset-first kinds.Struct (trees types) absent m ts d ok;
      length_is = length-items kinds.Struct (trees types) absent m ts d ok;
      few = (root_holds typed t tt ok).near;
      count = (root_holds typed t tt ok).kids ∙ many;
      child = child;
      live = λ p lt live. live-of (get_or types p Released) (get_or cs p Released) live (child p lt);
      long = λ p lt live. (items_hold typed t tt ok).needed p (subst (λ all. IsLive (get_or all p Released)) (sym same) live);
    }
