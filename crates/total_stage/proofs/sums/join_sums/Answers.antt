use Rattle.std.proofs.Common.{arith, ◌<◌, length, get_or, refl}
use Rattle.stage_model.specs.Stages.{numbers_at}
use Rattle.total_stage.proofs.Joining.{few-at, joined-all, joined-more, joined-none}
use Rattle.total_stage.proofs.sums.join_sums.Goals as goal

pub loop-k-init : goal.loop-k-init
loop-k-init c = λ picks rows more are others. joined-none c.args.sums.now picks rows more are

pub join-requires : goal.join-requires
join-requires c =
    let few = c.requires.few in
    let picks = few.0 in
    let rows = few.1 in
    let more = few.2 in
    let k = c.loop-k.k in
    let place = get_or picks k 0 in
    let inside : k < length picks = omega (arith, c.loop-k-test.true, few.4.count) in
    record {
      few = (
        numbers_at place rows,
        numbers_at place more,
        (c.loop-k.invariant picks rows more few.3 few.4).old k _ (omega arith) inside,
        few.4.each k _ inside,
        omega (arith, few-at place rows, few-at place more, few.5),
      );
    }

pub loop-k-preserved : goal.loop-k-preserved
loop-k-preserved c = λ picks rows more are others.
    let k = c.loop-k.k in
    let place = get_or picks k 0 in
    let inside : k < length picks = omega (arith, c.loop-k-test.true, others.count) in
    let joined = c.loop-k.invariant picks rows more are others in
    joined-more c.loop-k.sums c.args.sums.now picks k place rows more c.join.new.self inside refl joined
    (c.join.ensures (numbers_at place rows) (numbers_at place more) (joined.old k _ (omega arith) inside) (others.each k _ inside))

pub returns : goal.returns
returns c = λ picks rows more are others.
    joined-all c.loop-k.sums c.args.sums.now picks c.loop-k.k rows more (omega (arith, c.loop-k-test.false, c.loop-k.auto.k-end, others.count))
    (c.loop-k.invariant picks rows more are others)
