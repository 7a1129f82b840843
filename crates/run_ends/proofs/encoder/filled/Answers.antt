use Rattle.std.proofs.Common.{[], subst, arith}
use Rattle.col_build.specs.Holding.{Holds}
use Rattle.data_types.specs.declared.kind.DataType.{DataType}
use Rattle.run_ends.specs.ColumnRuns.{values_in}
use Rattle.run_ends.proofs.Making.{all-held, none-yet}
use Rattle.run_ends.proofs.encoder.filled.Goals as goal

pub loop-at-init : goal.loop-at-init
loop-at-init c = (
  omega arith,
  none-yet (record { ends = c.new-ends.result; values = c.new-values.result }) c.args.kind.now (values_in c.args.runs.now)
      (subst (λ (k : DataType). Holds c.new-ends.result k []) c.end_kind.ensures c.new-ends.ensures)
      (subst (λ (k : DataType). Holds c.new-values.result k []) c.in_ok-clone_kind.ensures.same c.new-values.ensures) c.requires.fits c.requires.few,
)

pub push_run-requires-clause-holds : goal.push_run-requires-clause-holds
push_run-requires-clause-holds c = (c.args.kind.now, c.loop-at.invariant.1, c.storage_of-storage.ensures)

pub loop-at-preserved : goal.loop-at-preserved
loop-at-preserved c =
    (c.in_ok-at.ensures.within, c.in_ok-at.ensures.added c.args.kind.now c.loop-at.invariant.1 c.storage_of-storage.ensures)

pub returns : goal.returns
returns c =
    all-held c.loop-at.making c.args.kind.now (values_in c.args.runs.now) c.loop-at.at (omega (arith, c.loop-at-test.false, c.count-count.ensures.count))
    c.loop-at.invariant.1
