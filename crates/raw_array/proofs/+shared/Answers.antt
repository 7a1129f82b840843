use Rattle.raw_array.proofs.Shares.{OneLower-lowered, AllOneLower-same, MaybeOneLower-same, Cost-shared, AllOneLower-lowered, cost_of_all-shared}
use Rattle.std.proofs.Common.{◌≡◌, ◌+◌, ◌<◌, length, take, ap, sym, subst, ◌∙◌, arith, refl, Bool, true, false, ℕ, Result, Ok, Err, get_or, set}
use Rattle.std.proofs.Math.Seq.{take-length}
use Rattle.raw_place.specs.Kept.{values_of, value_if, value_of}
use Rattle.tree_model.specs.promise.TreeData.{trees, present, maybe_tree, Released, Live}
use Rattle.tree_model.specs.Tree.{Depth, depth_of_maybe}
use Rattle.tree_model.proofs.Measures.{Depth-get_or, cost_of_all-before, cost_of_all-take, Least-get_or}
use Rattle.raw_array.specs.promise.Members.{Cost, holds, whole}
use Rattle.raw_array.specs.Members.{Bounded, cost_of_all, LeastAmount, least, OneLower, MaybeOneLower, ShareOf, Lowered, cost_of_maybe}
use Rattle.raw_array.specs.promise.Members.{holds_of}
use Rattle.raw_array.specs.Members.{least_of_maybe, OneLowerBuffers, AllOneLower}
use Rattle.raw_array.specs.View.{tree_of, tree_of_node, buffers_of}
use Rattle.raw_array.proofs.Bounds.{Bounded-shared, Bounded-lowered, Bounded-one_lower}
use Rattle.raw_array.proofs.Children.{same_length, same_child, all_one_lower, child_lowered, child_shared, all_lowered, all_one_lower_at_end, all_shared}
use Rattle.raw_array.proofs.Children.{cost_of_first, set-twice}
use Rattle.raw_array.proofs.+shared.Goals as goal
use Rattle.raw_array.proofs.+shared.Goals.{array::RawArray::shared-in-Released, array::RawArray::shared-in-Live+in-Ok}
use Rattle.raw_array.proofs.+shared.Goals.{array::RawArray::shared-in-Live+in-Err}
use Rattle.std.specs.Prelude.{if◌then◌else◌, is_ok, OnErr, IfOk}
use Rattle.std.proofs.lemmas.Result.{IfOk-weaker, on_ok_weaker}
use Rattle.std.proofs.lemmas.List.{get_or-set_same, length-set}
use Rattle.raw_array.proofs.Buffers.{OneLowerBuffers-lowered, holds_of-shared}

-- the units that are out, whether a last call gave some back or not
units_out : (b : Bool) (n m k l s : ℕ) → n ≡ m + (if b then 0 else k) → m + k ≡ s → k ≡ l → n + (if b then l else 0) ≡ s
units_out true n m k l s e f g = omega (arith, e, f, g)
units_out false n m k l s e f g = omega (arith, e, f, g)

on_err : {T E P : Type 0} → (r : Result T E) → P → OnErr r P
on_err (Ok x) p = tt
on_err (Err e) p = p

-- ---- the tree, and the invariant of the array
pub array::RawArray::shared-released-requires : goal.array::RawArray::shared-released-requires
array::RawArray::shared-released-requires t c = tt

pub array::RawArray::shared-shared_node-requires : goal.array::RawArray::shared-shared_node-requires
array::RawArray::shared-shared_node-requires t c =
    let is = ap tree_of (sym c.in-Live.is) ∙ c.self.view_is in (
      omega (arith, c.decreases, ap Depth is),
      (omega (arith, ap LeastAmount is, c.requires.amounts), omega (arith, ap Cost is, c.requires.units)),
    )

pub array::RawArray::shared-invariant_of-result : goal.array::RawArray::shared-invariant_of-result
array::RawArray::shared-invariant_of-result t c =
    let was = subst Bounded (ap tree_of c.in-Live.is) c.self.invariant in
    subst Bounded (sym c.in-Ok.ensures.tree) (Bounded-shared (tree_of_node c.in-Live.node) was)

pub array::RawArray::shared-invariant_of-self : goal.array::RawArray::shared-invariant_of-self
array::RawArray::shared-invariant_of-self t c =
    elim c.match-self.branch [
      | array::RawArray::shared-in-Released w ↦ subst (λ s. Bounded (tree_of s.state)) (sym w.self-inside-is) c.self.invariant
      | array::RawArray::shared-in-Live+in-Ok w ↦
          let was = subst Bounded (ap tree_of w.in-Live.is) c.self.invariant in
          let low = subst Bounded (sym w.in-Ok.ensures.lowered) (Bounded-lowered (tree_of_node w.in-Live.node) was) in
          subst (λ s. Bounded (tree_of s.state)) (sym w.self-inside-is) low
      | array::RawArray::shared-in-Live+in-Err w ↦
          let was = subst Bounded (ap tree_of w.in-Live.is) c.self.invariant in
          let like = Bounded-one_lower (tree_of_node w.in-Live.node) (tree_of_node w.shared_node.new.node) w.in-Err.ensures.one_lower was in
          subst (λ s. Bounded (tree_of s.state)) (sym w.self-inside-is) like
    ]

-- ---- a node
pub share::shared_node-shared_private-requires-clause-amounts : goal.share::shared_node-shared_private-requires-clause-amounts
share::shared_node-shared_private-requires-clause-amounts t c = omega (arith, c.requires.amounts)

pub share::shared_node-shared_private-requires-clause-units : goal.share::shared_node-shared_private-requires-clause-units
share::shared_node-shared_private-requires-clause-units t c = omega (arith, c.requires.units)

pub share::shared_node-returns-in-Err-clause-one_lower : goal.share::shared_node-returns-in-Err-clause-one_lower
share::shared_node-returns-in-Err-clause-one_lower t c = (
  record { same_length = refl; same_null_count = refl; same_offset = refl; same_kind = refl; one_lower_buffers = c.in-Err.ensures.one_lower },
  (AllOneLower-same (trees (values_of c.args.node.now.children)), MaybeOneLower-same (maybe_tree (value_if c.args.node.now.dictionary))),
)

pub share::shared_node-returns-in-Err-clause-units : goal.share::shared_node-returns-in-Err-clause-units
share::shared_node-returns-in-Err-clause-units t c = c.in-Err.ensures.units

pub share::shared_node-shared_all-requires : goal.share::shared_node-shared_all-requires
share::shared_node-shared_all-requires t c =
    (omega (arith, c.decreases), (omega (arith, c.requires.amounts), omega (arith, c.requires.units, c.in-Ok.ensures.units)))

pub share::shared_node-end_private-requires : goal.share::shared_node-end_private-requires
share::shared_node-end_private-requires t c =
    let held = ap holds_of c.in-Ok.ensures.shared ∙ holds_of-shared (buffers_of (value_of c.args.node.now.private).buffers.items) in
    omega (arith, c.args.pass.now.supply, c.in-Err-shared_all.ensures.units, c.in-Ok.ensures.units, held)

pub share::shared_node-returns-in-Err-shared_all-clause-one_lower : goal.share::shared_node-returns-in-Err-shared_all-clause-one_lower
share::shared_node-returns-in-Err-shared_all-clause-one_lower t c =
    let bs = buffers_of (value_of c.args.node.now.private).buffers.items in
    let buffers = subst (OneLowerBuffers bs) (sym c.in-Ok.ensures.lowered) (OneLowerBuffers-lowered bs) in (
      record { same_length = refl; same_null_count = refl; same_offset = refl; same_kind = refl; one_lower_buffers = buffers },
      (c.in-Err-shared_all.ensures.one_lower, MaybeOneLower-same (maybe_tree (value_if c.args.node.now.dictionary))),
    )

pub share::shared_node-returns-in-Err-shared_all-clause-units : goal.share::shared_node-returns-in-Err-shared_all-clause-units
share::shared_node-returns-in-Err-shared_all-clause-units t c =
    omega (
      arith,
      c.end_private.ensures.units,
      c.in-Err-shared_all.ensures.units,
      c.in-Ok.ensures.units,
      ap holds_of c.in-Ok.ensures.shared,
      holds_of-shared (buffers_of (value_of c.args.node.now.private).buffers.items),
    )

pub share::shared_node-shared_behind-requires : goal.share::shared_node-shared_behind-requires
share::shared_node-shared_behind-requires t c = (
  omega (arith, c.decreases),
  (omega (arith, c.requires.amounts), omega (arith, c.requires.units, c.in-Ok.ensures.units, c.in-Ok-shared_all.ensures.units)),
)

pub share::shared_node-end_all-requires : goal.share::shared_node-end_all-requires
share::shared_node-end_all-requires t c =
    let cost = ap cost_of_all c.in-Ok-shared_all.ensures.trees ∙ cost_of_all-shared (trees (values_of c.args.node.now.children)) in
    omega (arith, c.args.pass.now.supply, c.in-Err-shared_behind.ensures.units, c.in-Ok-shared_all.ensures.units, cost, c.in-Ok.ensures.units)

pub share::shared_node-returns-in-Err-shared_behind-clause-one_lower : goal.share::shared_node-returns-in-Err-shared_behind-clause-one_lower
share::shared_node-returns-in-Err-shared_behind-clause-one_lower t c =
    let bs = buffers_of (value_of c.args.node.now.private).buffers.items in
    let ts = trees (values_of c.args.node.now.children) in
    let buffers = subst (OneLowerBuffers bs) (sym c.in-Ok.ensures.lowered) (OneLowerBuffers-lowered bs) in
    let children = subst (AllOneLower ts) (sym c.in-Ok-shared_all.ensures.lowered) (AllOneLower-lowered ts) in (
      record { same_length = refl; same_null_count = refl; same_offset = refl; same_kind = refl; one_lower_buffers = buffers },
      (children, c.in-Err-shared_behind.ensures.one_lower),
    )

pub share::shared_node-returns-in-Err-shared_behind-clause-units : goal.share::shared_node-returns-in-Err-shared_behind-clause-units
share::shared_node-returns-in-Err-shared_behind-clause-units t c =
    omega (
      arith,
      c.end_private-in-Err-shared_behind.ensures.units,
      c.end_all.ensures.units,
      c.in-Err-shared_behind.ensures.units,
      c.in-Ok-shared_all.ensures.units,
      ap cost_of_all c.in-Ok-shared_all.ensures.trees,
      cost_of_all-shared (trees (values_of c.args.node.now.children)),
      c.in-Ok.ensures.units,
      ap holds_of c.in-Ok.ensures.shared,
      holds_of-shared (buffers_of (value_of c.args.node.now.private).buffers.items),
    )

pub share::shared_node-length-requires : goal.share::shared_node-length-requires
share::shared_node-length-requires t c = tt

pub share::shared_node-null_count-requires : goal.share::shared_node-null_count-requires
share::shared_node-null_count-requires t c = tt

pub share::shared_node-offset-requires : goal.share::shared_node-offset-requires
share::shared_node-offset-requires t c = tt

pub share::shared_node-returns-clause-lowered : goal.share::shared_node-returns-clause-lowered
share::shared_node-returns-clause-lowered t c =
    let m = c.args.node.now in
    λ j. Live
    (record {
      length = m.length;
      null_count = m.null_count;
      offset = m.offset;
      buffers = c.in-Ok.ensures.lowered j;
      kind = m.kind;
    })
    (c.in-Ok-shared_all.ensures.lowered j)
    (c.in-Ok-shared_behind.ensures.lowered j)

pub share::shared_node-returns-clause-one_lower : goal.share::shared_node-returns-clause-one_lower
share::shared_node-returns-clause-one_lower t c = tt

pub share::shared_node-returns-clause-units : goal.share::shared_node-returns-clause-units
share::shared_node-returns-clause-units t c = omega (arith, c.in-Ok.ensures.units, c.in-Ok-shared_all.ensures.units, c.in-Ok-shared_behind.ensures.units)

pub share::shared_node-returns-clause-blocks : goal.share::shared_node-returns-clause-blocks
share::shared_node-returns-clause-blocks t c = c.shared_behind.ensures.blocks ∙ c.shared_all.ensures.blocks ∙ c.shared_private.ensures.blocks

pub share::shared_node-returns-clause-nodes : goal.share::shared_node-returns-clause-nodes
share::shared_node-returns-clause-nodes t c = c.shared_behind.ensures.nodes ∙ c.shared_all.ensures.nodes ∙ c.shared_private.ensures.nodes

-- ---- its dictionary
pub share::shared_behind-shared-requires : goal.share::shared_behind-shared-requires
share::shared_behind-shared-requires t c =
    let is = ap (λ d. maybe_tree (value_if d)) c.in-Some.is ∙ ap present (sym c.get_mut.ensures.value) in (
      omega (arith, c.decreases, ap depth_of_maybe is),
      (omega (arith, ap least_of_maybe is, c.requires.amounts), omega (arith, ap cost_of_maybe is, c.requires.units)),
    )

pub share::shared_behind-end-requires : goal.share::shared_behind-end-requires
share::shared_behind-end-requires t c =
    let handed = ap Cost (c.in-Err-put.ensures.handed_back ∙ c.in-Ok.ensures.tree) in
    omega (arith, c.args.pass.now.supply, c.in-Ok.ensures.units, handed, Cost-shared c.get_mut.result.now)

pub share::shared_behind-returns-in-Ok-put-clause-units : goal.share::shared_behind-returns-in-Ok-put-clause-units
share::shared_behind-returns-in-Ok-put-clause-units t c =
    let is = ap (λ d. maybe_tree (value_if d)) c.in-Some.is ∙ ap present (sym c.get_mut.ensures.value) in
    omega (arith, c.in-Ok.ensures.units, ap cost_of_maybe is)

pub share::shared_behind-returns-in-Err-put-clause-one_lower : goal.share::shared_behind-returns-in-Err-put-clause-one_lower
share::shared_behind-returns-in-Err-put-clause-one_lower t c =
    let is = ap (λ d. maybe_tree (value_if d)) c.in-Some.is ∙ ap present (sym c.get_mut.ensures.value) in
    subst (λ d. MaybeOneLower d (present c.shared.new.self)) (sym is)
    (subst (λ s. OneLower c.get_mut.result.now s) (sym c.in-Ok.ensures.lowered) (OneLower-lowered c.get_mut.result.now))

pub share::shared_behind-returns-in-Err-put-clause-units : goal.share::shared_behind-returns-in-Err-put-clause-units
share::shared_behind-returns-in-Err-put-clause-units t c =
    let handed = ap Cost (c.in-Err-put.ensures.handed_back ∙ c.in-Ok.ensures.tree) in
    omega (arith, c.end.ensures.units, c.in-Ok.ensures.units, handed, Cost-shared c.get_mut.result.now)

pub share::shared_behind-returns-in-Err-clause-one_lower : goal.share::shared_behind-returns-in-Err-clause-one_lower
share::shared_behind-returns-in-Err-clause-one_lower t c =
    let is = ap (λ d. maybe_tree (value_if d)) c.in-Some.is ∙ ap present (sym c.get_mut.ensures.value) in
    subst (λ d. MaybeOneLower d (present c.shared.new.self)) (sym is) c.in-Err.ensures.one_lower

pub share::shared_behind-returns-in-Err-clause-units : goal.share::shared_behind-returns-in-Err-clause-units
share::shared_behind-returns-in-Err-clause-units t c = c.in-Err.ensures.units

-- ---- all its children
pub share::shared_all-returns-in_default-clause-one_lower : goal.share::shared_all-returns-in_default-clause-one_lower
share::shared_all-returns-in_default-clause-one_lower t c = AllOneLower-same (trees (values_of c.args.children.now))

pub share::shared_all-loop-i-init : goal.share::shared_all-loop-i-init
share::shared_all-loop-i-init t c = (
  refl,
  c.in-Ok.ensures.items,
  omega (arith, ap (λ cs. cost_of_all (trees cs)) c.in-Ok.ensures.items),
  refl,
  refl,
  c.in-Ok.ensures.len,
  omega (arith, c.in-Ok.ensures.capacity, c.len.ensures.exact),
)

pub share::shared_all-shared_child-requires : goal.share::shared_all-shared_child-requires
share::shared_all-shared_child-requires t c =
    let ts = values_of c.args.children.now in
    let us = values_of c.loop-i.children in
    let i = c.loop-i.i in
    let inside : i < length ts = omega (arith, c.len-i-end.ensures.exact, c.loop-i-test.true) in
    let same = same_child ts us i c.loop-i.invariant.0 in (
      omega (arith, c.decreases, ap Depth same, Depth-get_or ts i inside),
      (
        omega (arith, inside, same_length ts us i c.loop-i.invariant.0),
        (
          omega (arith, ap LeastAmount same, Least-get_or whole least ts i inside, c.requires.amounts),
          omega (
            arith,
            ap Cost same,
            cost_of_all-before holds ts i inside,
            cost_of_first ts c.loop-i.copies.items i c.loop-i.invariant.1,
            c.loop-i.invariant.2,
            c.requires.units,
          ),
        ),
      ),
    )

pub share::shared_all-push_reserved-requires : goal.share::shared_all-push_reserved-requires
share::shared_all-push_reserved-requires t c = omega (arith, c.len-i-end.ensures.exact, c.loop-i-test.true, c.loop-i.invariant.5, c.loop-i.invariant.6)

pub share::shared_all-release_all-requires : goal.share::shared_all-release_all-requires
share::shared_all-release_all-requires t c = omega (arith, c.args.pass.now.supply, c.in-Err.ensures.units, c.loop-i.invariant.2)

pub share::shared_all-returns-in-Err-clause-one_lower : goal.share::shared_all-returns-in-Err-clause-one_lower
share::shared_all-returns-in-Err-clause-one_lower t c =
    let ts = values_of c.args.children.now in
    let us = values_of c.loop-i.children in
    let i = c.loop-i.i in
    let inside : i < length ts = omega (arith, c.len-i-end.ensures.exact, c.loop-i-test.true) in
    all_one_lower ts us i c.loop-i.invariant.0 (values_of c.shared_child.new.children) inside c.in-Err.ensures.rest c.in-Err.ensures.one_lower

pub share::shared_all-returns-in-Err-clause-units : goal.share::shared_all-returns-in-Err-clause-units
share::shared_all-returns-in-Err-clause-units t c = omega (arith, c.release_all.ensures.units, c.in-Err.ensures.units, c.loop-i.invariant.2)

pub share::shared_all-loop-i-smaller : goal.share::shared_all-loop-i-smaller
share::shared_all-loop-i-smaller t c = omega (arith, c.loop-i-test.true)

pub share::shared_all-loop-i-preserved : goal.share::shared_all-loop-i-preserved
share::shared_all-loop-i-preserved t c =
    let ts = values_of c.args.children.now in
    let us = values_of c.loop-i.children in
    let i = c.loop-i.i in
    let inside : i < length ts = omega (arith, c.len-i-end.ensures.exact, c.loop-i-test.true) in
    let lowered = child_lowered ts us i c.loop-i.invariant.0 (values_of c.shared_child.new.children) inside c.in-Ok-shared_child.ensures.lowered in
    let shared =
    c.push_reserved.ensures.items ∙ child_shared ts us i c.loop-i.invariant.0 c.loop-i.copies.items c.in-Ok-shared_child.copy inside c.loop-i.invariant.1
    c.in-Ok-shared_child.ensures.tree in
    let cost = ap Cost (same_child ts us i c.loop-i.invariant.0) in
    let before = cost_of_first ts c.loop-i.copies.items i c.loop-i.invariant.1 in
    let after = cost_of_first ts c.push_reserved.new.self.items (i + 1) shared in
    let more = cost_of_all-take holds ts i inside in (
      lowered,
      shared,
      omega (arith, cost, before, after, more, c.in-Ok-shared_child.ensures.units, c.loop-i.invariant.2),
      c.shared_child.ensures.blocks ∙ c.loop-i.invariant.3,
      c.shared_child.ensures.nodes ∙ c.loop-i.invariant.4,
      omega (arith, c.push_reserved.ensures.len, c.loop-i.invariant.5),
      omega (arith, c.push_reserved.ensures.capacity, c.loop-i.invariant.6),
    )

pub share::shared_all-kept_all-requires : goal.share::shared_all-kept_all-requires
share::shared_all-kept_all-requires t c = omega (arith, c.args.pass.now.supply, c.loop-i.invariant.2)

pub share::shared_all-returns-clause-trees : goal.share::shared_all-returns-clause-trees
share::shared_all-returns-clause-trees t c =
    let ts = values_of c.args.children.now in
    let end : c.loop-i.i ≡ length ts = omega (arith, c.len-i-end.ensures.exact, c.loop-i-test.false, c.loop-i.auto.i-end) in
    let all = all_shared ts c.loop-i.copies.items c.loop-i.i end c.loop-i.invariant.1 in
    IfOk-weaker c.kept_all.result (λ kids. values_of kids ≡ c.loop-i.copies.items) _ (λ kids is. ap trees is ∙ all) c.kept_all.ensures.trees

pub share::shared_all-returns-clause-lowered : goal.share::shared_all-returns-clause-lowered
share::shared_all-returns-clause-lowered t c =
    let ts = values_of c.args.children.now in
    let end : c.loop-i.i ≡ length ts = omega (arith, c.len-i-end.ensures.exact, c.loop-i-test.false, c.loop-i.auto.i-end) in
    let all = all_lowered ts (values_of c.loop-i.children) c.loop-i.i c.loop-i.invariant.0 end in
    IfOk-weaker c.kept_all.result (λ kids. values_of kids ≡ c.loop-i.copies.items) _ (λ kids is. all) c.kept_all.ensures.trees

pub share::shared_all-returns-clause-one_lower : goal.share::shared_all-returns-clause-one_lower
share::shared_all-returns-clause-one_lower t c =
    let ts = values_of c.args.children.now in
    let end : c.loop-i.i ≡ length ts = omega (arith, c.len-i-end.ensures.exact, c.loop-i-test.false, c.loop-i.auto.i-end) in
    on_err c.kept_all.result (all_one_lower_at_end ts (values_of c.loop-i.children) c.loop-i.i c.loop-i.invariant.0 end)

pub share::shared_all-returns-clause-units : goal.share::shared_all-returns-clause-units
share::shared_all-returns-clause-units t c =
    let ts = values_of c.args.children.now in
    let end : c.loop-i.i ≡ length ts = omega (arith, c.len-i-end.ensures.exact, c.loop-i-test.false, c.loop-i.auto.i-end) in
    let made = cost_of_first ts c.loop-i.copies.items c.loop-i.i c.loop-i.invariant.1 in
    let all = ap (λ cs. cost_of_all (trees cs)) (ap (λ n. take n ts) end ∙ take-length ts) in
    units_out (is_ok c.kept_all.result) _ _ _ _ _ c.kept_all.ensures.units c.loop-i.invariant.2 (made ∙ all)

pub share::shared_all-returns-clause-blocks : goal.share::shared_all-returns-clause-blocks
share::shared_all-returns-clause-blocks t c = c.kept_all.ensures.blocks ∙ c.loop-i.invariant.3

pub share::shared_all-returns-clause-nodes : goal.share::shared_all-returns-clause-nodes
share::shared_all-returns-clause-nodes t c = c.kept_all.ensures.nodes ∙ c.loop-i.invariant.4

-- ---- one of its children
pub share::shared_child-released-child-requires : goal.share::shared_child-released-child-requires
share::shared_child-released-child-requires t c = tt

pub share::shared_child-swap-requires : goal.share::shared_child-swap-requires
share::shared_child-swap-requires t c = c.requires.inside

pub share::shared_child-shared-copy-requires : goal.share::shared_child-shared-copy-requires
share::shared_child-shared-copy-requires t c =
    let is = c.swap.ensures.by_index Released in (
      omega (arith, c.decreases, ap Depth is),
      (omega (arith, ap LeastAmount is, c.requires.amounts), omega (arith, ap Cost is, c.requires.units)),
    )

pub share::shared_child-swap-requires-2 : goal.share::shared_child-swap-requires-2
share::shared_child-swap-requires-2 t c =
    omega (
      arith,
      c.requires.inside,
      ap length c.swap.ensures.placed,
      length-set (values_of c.args.children.now) c.args.i c.released-child.result,
    )

pub share::shared_child-discard-requires : goal.share::shared_child-discard-requires
share::shared_child-discard-requires t c =
    c.swap-2.ensures.by_index Released ∙ ap (λ cs. get_or cs c.args.i Released) c.swap.ensures.placed
    ∙ get_or-set_same (values_of c.args.children.now) c.args.i c.released-child.result Released c.requires.inside ∙ c.released-child.ensures

pub share::shared_child-returns-clause-tree : goal.share::shared_child-returns-clause-tree
share::shared_child-returns-clause-tree t c =
    subst (λ s. IfOk c.shared-copy.result (λ copy. copy ≡ ShareOf s)) (c.swap.ensures.by_index Released) c.shared-copy.ensures.tree

pub share::shared_child-returns-clause-lowered : goal.share::shared_child-returns-clause-lowered
share::shared_child-returns-clause-lowered t c =
    let ts = values_of c.args.children.now in
    let i = c.args.i in
    let copied = c.shared-copy.new.self in
    let twice = c.swap-2.ensures.placed ∙ ap (λ cs. set cs i copied) c.swap.ensures.placed ∙ set-twice ts i c.released-child.result copied in
    on_ok_weaker c.shared-copy.result (λ low. twice ∙ ap (set ts i) (low ∙ ap Lowered (c.swap.ensures.by_index Released))) c.shared-copy.ensures.lowered

pub share::shared_child-returns-clause-rest : goal.share::shared_child-returns-clause-rest
share::shared_child-returns-clause-rest t c =
    let ts = values_of c.args.children.now in
    let i = c.args.i in
    let copied = c.shared-copy.new.self in
    let twice = c.swap-2.ensures.placed ∙ ap (λ cs. set cs i copied) c.swap.ensures.placed ∙ set-twice ts i c.released-child.result copied in
    let there = ap (λ cs. get_or cs i Released) twice ∙ get_or-set_same ts i copied Released c.requires.inside in
    twice ∙ ap (set ts i) (sym there)

pub share::shared_child-returns-clause-units : goal.share::shared_child-returns-clause-units
share::shared_child-returns-clause-units t c =
    subst (λ s. c.shared-copy.new.pass.units + (if is_ok c.shared-copy.result then Cost s else 0) ≡ c.args.pass.now.units)
    (c.swap.ensures.by_index Released) c.shared-copy.ensures.units

pub share::shared_child-returns-clause-blocks : goal.share::shared_child-returns-clause-blocks
share::shared_child-returns-clause-blocks t c = c.shared-copy.ensures.blocks

pub share::shared_child-returns-clause-nodes : goal.share::shared_child-returns-clause-nodes
share::shared_child-returns-clause-nodes t c = c.shared-copy.ensures.nodes
