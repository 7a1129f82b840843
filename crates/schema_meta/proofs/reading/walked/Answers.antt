use Rattle.std.proofs.Common.{arith, refl, [], ◌∷◌, ◌++◌}
use Rattle.std.proofs.lemmas.Result.{err_from_is_err_and}
use Rattle.schema_meta.specs.Meta.{pair_of}
use Rattle.schema_meta.specs.promise.Meta.Place.{AtCount}
use Rattle.schema_meta.proofs.Loop.{at_start, one_more, begun, begun_fits, begun_split, ended_whole, ended_trailing}
use Rattle.schema_meta.proofs.reading.walked.Goals as goal

pub returns-in_err-count-clause-fault : goal.returns-in_err-count-clause-fault
returns-in_err-count-clause-fault c =
    let p = err_from_is_err_and c.from_residual.result c.from_residual.ensures.1 in
    rw (p.1, p.2) (c.in_err-count.ensures.fault AtCount tt tt refl)

pub loop-init : goal.loop-init
loop-init c =
    ([], at_start c.args.bytes.now c.in_ok-count.count [] refl c.in_ok-count.ensures.found.0 c.in_ok-count.ensures.found.1 c.in_ok-count.ensures.found.2)

pub loop-preserved : goal.loop-preserved
loop-preserved c =
    let found = c.in_ok-at.ensures.found in
    let done = c.loop.invariant.0 in
    let p = pair_of c.in_ok-at.field-0.key.now c.in_ok-at.field-0.value.now in (
      done ++ p ∷ [],
      one_more c.args.bytes.now c.in_ok-count.count c.loop.at c.in_ok-at.field-0.next c.loop.counter done p c.loop.invariant.1 found.0 found.1 found.2,
    )

pub returns-in_err-at-clause-fault : goal.returns-in_err-at-clause-fault
returns-in_err-at-clause-fault c =
    let p = err_from_is_err_and c.from_residual-in_err-at.result c.from_residual-in_err-at.ensures.1 in
    let done = c.loop.invariant.0 in
    let so_far = c.loop.invariant.1 in
    rw (p.1, p.2) (c.in_err-at.ensures.fault (begun c.in_ok-count.count done)
    (begun_fits c.args.bytes.now c.in_ok-count.count c.loop.at c.loop.counter done so_far c.loop-test.true)
    refl
    (begun_split c.args.bytes.now c.in_ok-count.count c.loop.at c.loop.counter done so_far))

pub returns-clause-found : goal.returns-clause-found
returns-clause-found c = ended_whole c.args.bytes.now c.in_ok-count.count c.loop.at c.loop.counter c.loop.invariant.0 c.loop.invariant.1 (omega arith)
    c.ended.result c.ended.ensures.found

pub returns-clause-fault : goal.returns-clause-fault
returns-clause-fault c = ended_trailing c.args.bytes.now c.in_ok-count.count c.loop.at c.loop.counter c.loop.invariant.0 c.loop.invariant.1 (omega arith)
    c.ended.result c.ended.ensures.fault
