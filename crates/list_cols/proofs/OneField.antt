-- One new field among places that are released.
use Rattle.std.proofs.Common.{◌≡◌, ◌∙◌, ◌≤◌, ◌+◌, ℕ, zero, suc, List, [], ◌∷◌, ◌++◌, length, replicate, set, refl, ap, arith}
use Rattle.tree_model.specs.promise.TreeData.{Released, Live, trees}
use Rattle.tree_model.specs.promise.TreeParts.{IsLive, children_of}
use Rattle.tree_model.specs.Tree.{Depth, depth_of_all, with_child}
use Rattle.arr_move.proofs.Vacant.{cost_of_released, depth_of_released}
use Rattle.arr_move.specs.TreeActs.{with_children}
use Rattle.tree_model.specs.promise.TreeCost.{Nodes, no_holds}
use Rattle.raw_schema.specs.promise.Members.{SchemaMembers, SchemaTree}
use Rattle.raw_schema.specs.Members.{nodes_of_all}
use Rattle.arr_move.specs.Fields.{fields_over}

abbrev pub among : ℕ → SchemaTree → ℕ → List SchemaTree
among a f b = replicate a Released ++ f ∷ replicate b Released

pub one-shallow : (a b : ℕ) (f : SchemaTree) → Depth f ≤ 127 → depth_of_all (trees (among a f b)) ≤ 127
one-shallow zero b f low = omega (arith, depth_of_released SchemaMembers b, low)
one-shallow (suc a) b f low = omega (arith, one-shallow a b f low)

pub one-nodes : (a b : ℕ) (f : SchemaTree) → nodes_of_all (trees (among a f b)) ≡ Nodes f
one-nodes zero b f = omega (arith, cost_of_released {M = SchemaMembers} no_holds b)
one-nodes (suc a) b f = omega (arith, one-nodes a b f)

over-vacant : (n : ℕ) (olds : List SchemaTree) → n ≡ length olds → fields_over (replicate n Released) olds ≡ olds
over-vacant zero [] e = refl
over-vacant zero (o ∷ os) e = absurd (omega (arith, e))
over-vacant (suc n) [] e = absurd (omega (arith, e))
over-vacant (suc n) (o ∷ os) e = ap (λ rest. o ∷ rest) (over-vacant n os (omega (arith, e)))

over-one : (a b : ℕ) (f : SchemaTree) (olds : List SchemaTree) → IsLive f → a + (1 + b) ≡ length olds → fields_over (among a f b) olds ≡ set olds a f
over-one a b Released olds live e = absurd live
over-one zero b (Live m ts d) [] live e = absurd (omega (arith, e))
over-one zero b (Live m ts d) (o ∷ os) live e = ap (λ rest. Live m ts d ∷ rest) (over-vacant b os (omega (arith, e)))
over-one (suc a) b (Live m ts d) [] live e = absurd (omega (arith, e))
over-one (suc a) b (Live m ts d) (o ∷ os) live e = ap (λ rest. o ∷ rest) (over-one a b (Live m ts d) os live (omega (arith, e)))

put-child : (t : SchemaTree) (i : ℕ) (f : SchemaTree) → with_children t (set (children_of t) i f) ≡ with_child t i f
put-child Released i f = refl
put-child (Live m ts d) i f = refl

pub one-put : (t : SchemaTree) (a b : ℕ) (f : SchemaTree) → IsLive f → a + (1 + b) ≡ length (children_of t)
    → with_children t (fields_over (among a f b) (children_of t)) ≡ with_child t a f
one-put t a b f live e = ap (with_children t) (over-one a b f (children_of t) live e) ∙ put-child t a f
