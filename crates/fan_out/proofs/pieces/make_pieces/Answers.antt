use Rattle.std.proofs.Common.{◌≡◌, ℕ, ◌+◌, ◌-◌, ◌*◌, ◌<◌, ◌≤◌, ◌==◌, Bool, arith, vec_len, ap, sym, subst, refl, ◌∙◌}
use Rattle.std.proofs.lemmas.Bool.{eq-eqb}
use Rattle.std.specs.Prelude.{if◌then◌else◌}
use Rattle.std.proofs.Math.Nat.{mul-le-mul_right}
use Rattle.raw_array.specs.Members.{LeastAmount, Lowered, LoweredBy, ShareOf}
use Rattle.data_types.specs.promise.TypedView.{typed_of}
use Rattle.layout_rules.specs.promise.Values.{rows_of}
use Rattle.fan_out.proofs.Collecting.{not_last}
use Rattle.fan_out.proofs.Lists.{last_is, one_more}
use Rattle.fan_out.proofs.Ready.{chunk_again, none_ready, ready_push, tree_push, unspent}
use Rattle.fan_out.proofs.pieces.make_pieces.Goals as goal

-- how many shares there are, in a turn and after all
two_more : (made w workers : ℕ) → made + 1 ≡ w → w < workers → made + 2 ≤ workers
two_more made w workers is turn = omega arith

one_below : (made workers : ℕ) → made < workers → made + 1 ≤ workers
one_below made workers less = omega arith

below : (made workers room : ℕ) → made < workers → workers ≤ room → made < room
below made workers room less within = omega arith

all_made : (made w workers : ℕ) → made + 1 ≡ w → workers ≤ w → made < workers → made ≡ workers - 1
all_made made w workers is end less = omega arith

whole_number : (n made w workers : ℕ) → n ≡ made + 1 → made + 1 ≡ w → workers ≤ w → made < workers → n ≡ workers
whole_number n made w workers one is end less = omega arith

nothing_drawn : (units before : ℕ) → units + 0 ≡ before → units ≡ before
nothing_drawn units before is = omega arith

pub returns-in_default-clause-refused : goal.returns-in_default-clause-refused
returns-in_default-clause-refused g c = (c.like_trees_are_ordered.ensures.reflexive c.args.chunk.now, refl)

pub returns-in_default-clause-blocks : goal.returns-in_default-clause-blocks
returns-in_default-clause-blocks g c = refl

pub returns-in_default-clause-nodes : goal.returns-in_default-clause-nodes
returns-in_default-clause-nodes g c = refl

pub loop-worker-init : goal.loop-worker-init
loop-worker-init g c =
    let empty = c.in-Ok.ensures.len in
    let nothing : vec_len c.in-Ok.pieces * c.args.cost ≡ 0 = ap (λ (n : ℕ). n * c.args.cost) empty ∙ omega arith in (
      ap (λ (n : ℕ). n + 1) empty,
      c.in-Ok.ensures.capacity,
      sym (ap (λ (n : ℕ). LoweredBy n c.args.chunk.now) empty ∙ c.shares_add_up.ensures.none c.args.chunk.now),
      record { lawful = c.requires.chunk; rows = refl; cost = c.requires.cost },
      c.like_trees_are_ordered.ensures.reflexive c.args.chunk.now,
      omega (arith, nothing),
      refl,
      refl,
      none_ready _ _ _ _ c.in-Ok.ensures.items,
      subst (λ (n : ℕ). n < c.args.workers.count) (sym empty) c.args.workers.some,
      λ w d h. absurd (omega (arith, h, empty)),
    )

pub shared_chunk-requires-clause-amounts : goal.shared_chunk-requires-clause-amounts
shared_chunk-requires-clause-amounts g c =
    let i = c.loop-worker.invariant in
    let room = two_more _ _ _ i.0 c.loop-worker-test.true in
    let left = c.shares_add_up.ensures.least_by (vec_len c.loop-worker.pieces) c.args.chunk.now in
    let all = c.requires.amounts in
    subst (λ t. 2 ≤ LeastAmount t) (sym i.2) (omega (arith, room, left, all))

pub shared_chunk-requires-clause-units : goal.shared_chunk-requires-clause-units
shared_chunk-requires-clause-units g c =
    let i = c.loop-worker.invariant in
    let made = vec_len c.loop-worker.pieces in
    let room = one_below made _ i.9 in
    let within = mul-le-mul_right c.args.cost room in
    let more = one_more (made + 1) made c.args.cost refl in
    let cost = i.3.cost in
    let units = i.5 in
    let all = c.requires.units in
    omega (arith, within, more, cost, units, all)

pub shared_chunk-requires-clause-chunk : goal.shared_chunk-requires-clause-chunk
shared_chunk-requires-clause-chunk g c = c.loop-worker.invariant.3.lawful

pub push_reserved-requires : goal.push_reserved-requires
push_reserved-requires g c = below _ _ _ c.loop-worker.invariant.9 c.loop-worker.invariant.1

pub push_reserved-requires-2 : goal.push_reserved-requires-2
push_reserved-requires-2 g c = below _ _ _ c.loop-worker.invariant.9 c.loop-worker.invariant.1

pub release_shares-requires-clause-shares : goal.release_shares-requires-clause-shares
release_shares-requires-clause-shares g c =
    let typed = typed_of c.args.typed.now in
    unspent typed (rows_of typed c.args.chunk.now) c.args.cost _ c.loop-worker.invariant.8

pub release_shares-requires-clause-room : goal.release_shares-requires-clause-room
release_shares-requires-clause-room g c =
    let i = c.loop-worker.invariant in
    let units = i.5 in
    let same = nothing_drawn c.shared_chunk.new.pass.units c.loop-worker.pass.units c.in-Err.ensures.units in
    let most = c.units-supply.ensures.bounded in
    omega (arith, units, same, most)

pub returns-in-Err-clause-refused : goal.returns-in-Err-clause-refused
returns-in-Err-clause-refused g c =
    let i = c.loop-worker.invariant in
    let units = i.5 in
    let same = nothing_drawn c.shared_chunk.new.pass.units c.loop-worker.pass.units c.in-Err.ensures.units in
    let back = c.release_shares.ensures.units in
    (c.like_trees_are_ordered.ensures.transitive _ _ _ i.4 c.shared_chunk.ensures.like, omega (arith, units, same, back))

pub returns-in-Err-clause-blocks : goal.returns-in-Err-clause-blocks
returns-in-Err-clause-blocks g c = c.release_shares.ensures.blocks ∙ c.shared_chunk.ensures.blocks ∙ c.loop-worker.invariant.6

pub returns-in-Err-clause-nodes : goal.returns-in-Err-clause-nodes
returns-in-Err-clause-nodes g c = c.release_shares.ensures.nodes ∙ c.shared_chunk.ensures.nodes ∙ c.loop-worker.invariant.7

pub loop-worker-preserved : goal.loop-worker-preserved
loop-worker-preserved g c =
    let i = c.loop-worker.invariant in
    let typed = typed_of c.args.typed.now in
    let rows = rows_of typed c.args.chunk.now in
    let made = vec_len c.loop-worker.pieces in
    let len = c.push_reserved.ensures.len in
    let more = one_more (vec_len c.push_reserved.new.self) made c.args.cost len in
    let units = i.5 in
    let cost = i.3.cost in
    let drawn = ap (λ (n : ℕ). n + c.args.cost) c.ready.ensures.kept.0 ∙ ap (λ (n : ℕ). c.shared_chunk.new.pass.units + n) (sym cost)
    ∙ c.in-Ok-shared_chunk.ensures.units in (
      ap (λ (n : ℕ). n + 1) (len ∙ i.0),
      subst (λ (n : ℕ). c.args.workers.count ≤ n) (sym c.push_reserved.ensures.capacity) i.1,
      c.in-Ok-shared_chunk.ensures.lowered ∙ ap Lowered i.2 ∙ c.shares_add_up.ensures.one_more made c.args.chunk.now
          ∙ ap (λ (n : ℕ). LoweredBy n c.args.chunk.now) (sym len),
      chunk_again typed rows c.args.cost c.loop-worker.chunk c.shared_chunk.new.chunk i.3 c.shared_chunk.ensures.kept,
      c.like_trees_are_ordered.ensures.transitive _ _ _ i.4 c.shared_chunk.ensures.like,
      omega (arith, more, units, drawn),
      c.ready.ensures.kept.1 ∙ c.shared_chunk.ensures.blocks ∙ i.6,
      c.ready.ensures.kept.2 ∙ c.shared_chunk.ensures.nodes ∙ i.7,
      ready_push typed rows c.args.cost c.in-Ok-shared_chunk.share c.loop-worker.pieces.items c.push_reserved.new.self.items c.ready.result
          c.push_reserved.ensures.items c.ready.ensures.tree
          (chunk_again typed rows c.args.cost c.loop-worker.chunk c.in-Ok-shared_chunk.share i.3 c.in-Ok-shared_chunk.ensures.share)
          c.ready.ensures.pass i.8,
      subst (λ (n : ℕ). n < c.args.workers.count) (sym (len ∙ i.0)) c.loop-worker-test.true,
      λ w d h. tree_push (λ (k : ℕ). ShareOf (LoweredBy k c.args.chunk.now)) c.loop-worker.pieces.items c.push_reserved.new.self.items c.ready.result made
          c.push_reserved.ensures.items c.loop-worker.pieces.ok.0 i.10
          (c.ready.ensures.tree ∙ c.in-Ok-shared_chunk.ensures.tree ∙ ap ShareOf i.2) w d (subst (λ (n : ℕ). w < n) len h),
    )

pub returns-clause-ready : goal.returns-clause-ready
returns-clause-ready g c =
    let i = c.loop-worker.invariant in
    let typed = typed_of c.args.typed.now in
    let rows = rows_of typed c.args.chunk.now in
    ready_push typed rows c.args.cost c.loop-worker.chunk c.loop-worker.pieces.items c.push_reserved-2.new.self.items c.ready-2.result
    c.push_reserved-2.ensures.items (c.ready-2.ensures.tree ∙ c.move_out.ensures.moved) i.3 c.ready-2.ensures.pass i.8

pub returns-clause-len : goal.returns-clause-len
returns-clause-len g c =
    whole_number _ _ _ _ c.push_reserved-2.ensures.len c.loop-worker.invariant.0 c.loop-worker-test.false c.loop-worker.invariant.9

pub returns-clause-last : goal.returns-clause-last
returns-clause-last g c d =
    let i = c.loop-worker.invariant in
    let made = all_made _ _ _ i.0 c.loop-worker-test.false i.9 in
    ap (λ p. p.tree) (last_is c.loop-worker.pieces.items c.push_reserved-2.new.self.items c.ready-2.result (c.args.workers.count - 1)
    c.push_reserved-2.ensures.items (sym made ∙ c.loop-worker.pieces.ok.0) d)
    ∙ c.ready-2.ensures.tree ∙ c.move_out.ensures.moved ∙ i.2 ∙ ap (λ (n : ℕ). LoweredBy n c.args.chunk.now) made

pub returns-clause-lent : goal.returns-clause-lent
returns-clause-lent g c = c.move_out.ensures.left

pub returns-clause-drawn : goal.returns-clause-drawn
returns-clause-drawn g c =
    let i = c.loop-worker.invariant in
    let made = all_made _ _ _ i.0 c.loop-worker-test.false i.9 in
    ap (λ (n : ℕ). n + (c.args.workers.count - 1) * c.args.cost) c.ready-2.ensures.kept.0
    ∙ ap (λ (n : ℕ). c.loop-worker.pass.units + n * c.args.cost) (sym made) ∙ i.5

pub returns-clause-blocks : goal.returns-clause-blocks
returns-clause-blocks g c = c.ready-2.ensures.kept.1 ∙ c.loop-worker.invariant.6

pub returns-clause-nodes : goal.returns-clause-nodes
returns-clause-nodes g c = c.ready-2.ensures.kept.2 ∙ c.loop-worker.invariant.7

pub returns-clause-trees : goal.returns-clause-trees
returns-clause-trees g c w d h =
    let i = c.loop-worker.invariant in
    let made = all_made _ _ _ i.0 c.loop-worker-test.false i.9 in
    let shares = tree_push (λ (k : ℕ). if k + 1 == c.args.workers.count then LoweredBy k c.args.chunk.now else ShareOf (LoweredBy k c.args.chunk.now))
    c.loop-worker.pieces.items c.push_reserved-2.new.self.items c.ready-2.result (vec_len c.loop-worker.pieces)
    c.push_reserved-2.ensures.items c.loop-worker.pieces.ok.0 in
    shares
    (λ k d less. i.10 k d less ∙ sym (ap (λ (b : Bool). if b then LoweredBy k c.args.chunk.now else ShareOf (LoweredBy k c.args.chunk.now))
    (not_last k c.args.workers.count (omega (arith, less, made)))))
    (c.ready-2.ensures.tree ∙ c.move_out.ensures.moved ∙ i.2
    ∙ sym (ap (λ (b : Bool). if b then LoweredBy (vec_len c.loop-worker.pieces) c.args.chunk.now else ShareOf (LoweredBy (vec_len c.loop-worker.pieces) c.args.chunk.now))
    (eq-eqb (vec_len c.loop-worker.pieces + 1) c.args.workers.count (omega (arith, made, c.args.workers.some)))))
    w d (omega (arith, h, made, c.args.workers.some))
