use Rattle.raw_array.proofs.Shares.{shares}
use Rattle.std.proofs.Common.{rules, ◌≡◌, ◌+◌, ◌<◌, ◌∷◌, [], length, map, take, ap, ◌∙◌, arith}
use Rattle.raw_array.specs.promise.Members.{holds_of}
use Rattle.raw_array.specs.Members.{least_of, shared_buffer, lowered_buffer}
use Rattle.raw_array.specs.View.{buffers_of}
use Rattle.std.proofs.Math.Seq.{take-length}
use Rattle.tree_model.proofs.SoFar.{so_far-end}
use Rattle.raw_array.proofs.Buffers.{length-buffers_of, least_of-get_or, holds_of-before}
use Rattle.raw_array.proofs.ViewLists.{view_at, one_lowered, still_one_lower, one_shared, holds_of-first, holds_of-more}
use Rattle.raw_array.proofs.views.shared_views.Goals as goal

-- ---- one view
pub shared_view-requires-clause-amount : goal.shared_view-requires-clause-amount
shared_view-requires-clause-amount c =
    let bs = buffers_of c.args.buffers.now.items in
    let i = c.loop-i.i in
    let long = length-buffers_of c.args.buffers.now.items in
    let inside : i < length bs = search rules in
    let at = view_at bs c.loop-i.buffers.items i c.loop-i.invariant.0 inside c.index_mut.result.now (search rules) in
    let one = ap (λ b. least_of (b ∷ [])) at in
    omega (arith, one, least_of-get_or bs i inside, c.requires.amounts)

pub shared_view-requires-clause-units : goal.shared_view-requires-clause-units
shared_view-requires-clause-units c =
    let bs = buffers_of c.args.buffers.now.items in
    let i = c.loop-i.i in
    let long = length-buffers_of c.args.buffers.now.items in
    let inside : i < length bs = search rules in
    let at = view_at bs c.loop-i.buffers.items i c.loop-i.invariant.0 inside c.index_mut.result.now (search rules) in
    let one = ap (λ b. holds_of (b ∷ [])) at in
    let made = holds_of-first bs i (buffers_of c.loop-i.views.items) c.loop-i.invariant.1 in
    omega (arith, one, made, holds_of-before bs i inside, c.requires.units, c.loop-i.invariant.2)

pub returns-in-Err-clause-one_lower : goal.returns-in-Err-clause-one_lower
returns-in-Err-clause-one_lower c =
    let bs = buffers_of c.args.buffers.now.items in
    let i = c.loop-i.i in
    let long = length-buffers_of c.args.buffers.now.items in
    let inside : i < length bs = search rules in
    let at = view_at bs c.loop-i.buffers.items i c.loop-i.invariant.0 inside c.index_mut.result.now (search rules) in
    still_one_lower bs c.loop-i.buffers.items i c.loop-i.invariant.0 inside c.shared_view.new.buffer (c.in-Err.ensures.kept ∙ at)

-- ---- the views, one by one, and all of them
pub loop-i-preserved : goal.loop-i-preserved
loop-i-preserved c =
    let bs = buffers_of c.args.buffers.now.items in
    let i = c.loop-i.i in
    let long = length-buffers_of c.args.buffers.now.items in
    let inside : i < length bs = search rules in
    let at = view_at bs c.loop-i.buffers.items i c.loop-i.invariant.0 inside c.index_mut.result.now (search rules) in
    let lowered =
    one_lowered bs c.loop-i.buffers.items i c.loop-i.invariant.0 inside c.shared_view.new.buffer (c.in-Ok-shared_view.ensures.lowered ∙ ap lowered_buffer at) in
    let shared =
    ap buffers_of c.push_reserved.ensures.items ∙ one_shared bs c.loop-i.views.items i c.in-Ok-shared_view.view inside c.loop-i.invariant.1
    (c.in-Ok-shared_view.ensures.shared ∙ ap shared_buffer at) in
    let one = ap (λ b. holds_of (b ∷ [])) at in
    let before = holds_of-first bs i (buffers_of c.loop-i.views.items) c.loop-i.invariant.1 in
    let after = holds_of-first bs (i + 1) (buffers_of c.push_reserved.new.self.items) shared in
    let more = holds_of-more bs i inside in (
      lowered,
      shared,
      omega (arith, one, before, after, more, c.in-Ok-shared_view.ensures.units, c.loop-i.invariant.2),
      search rules,
      search rules,
      search rules,
      search rules,
    )

pub returns-clause-shared : goal.returns-clause-shared
returns-clause-shared c =
    let bs = buffers_of c.args.buffers.now.items in
    let long = length-buffers_of c.args.buffers.now.items in
    let end : c.loop-i.i ≡ length bs = search rules in
    c.loop-i.invariant.1 ∙ ap (λ n. map shared_buffer (take n bs)) end ∙ ap (map shared_buffer) (take-length bs)

pub returns-clause-lowered : goal.returns-clause-lowered
returns-clause-lowered c =
    let bs = buffers_of c.args.buffers.now.items in
    let long = length-buffers_of c.args.buffers.now.items in
    let end : c.loop-i.i ≡ length bs = search rules in
    c.loop-i.invariant.0 ∙ so_far-end lowered_buffer c.loop-i.i bs end

pub returns-clause-units : goal.returns-clause-units
returns-clause-units c =
    let bs = buffers_of c.args.buffers.now.items in
    let long = length-buffers_of c.args.buffers.now.items in
    let end : c.loop-i.i ≡ length bs = search rules in
    let made = holds_of-first bs c.loop-i.i (buffers_of c.loop-i.views.items) c.loop-i.invariant.1 in
    let all = ap holds_of (ap (λ n. take n bs) end ∙ take-length bs) in
    omega (arith, made, all, c.loop-i.invariant.2)

pub returns-in_default-clause-one_lower : goal.returns-in_default-clause-one_lower
returns-in_default-clause-one_lower c = grind (arith, shares)

pub let_go_all-requires : goal.let_go_all-requires
let_go_all-requires c = grind (arith, shares)

pub returns-in-Err-clause-units : goal.returns-in-Err-clause-units
returns-in-Err-clause-units c = grind (arith, shares)
