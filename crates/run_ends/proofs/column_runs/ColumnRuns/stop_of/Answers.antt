use Rattle.std.proofs.Common.{rules, sym, subst, arith}
use Rattle.std.specs.Prelude.{IsTrue}
use Rattle.run_ends.specs.RunCoding.{IsRun}
use Rattle.run_ends.specs.ColumnRuns.{values_in}
use Rattle.run_ends.proofs.ValueRuns.{alike-more, stops-all}
use Rattle.run_ends.proofs.column_runs.ColumnRuns.stop_of.Goals as goal

pub returns-then-are_alike-clause-run : goal.returns-then-are_alike-clause-run
returns-then-are_alike-clause-run c =
    let xs = values_in c.args.self.now in
    let yes : IsTrue c.are_alike.result = search rules in
    subst (IsRun xs c.args.i) (sym c.count-count.ensures.count) (stops-all xs c.args.i (c.are_alike.ensures yes) c.requires)

pub loop-j-preserved : goal.loop-j-preserved
loop-j-preserved c =
    let xs = values_in c.args.self.now in
    let yes : IsTrue c.is_next_same.result = search rules in
    alike-more xs c.args.i c.loop-j.j (omega (arith, c.loop-j-test.true, c.count-count.ensures.count)) (c.is_next_same.ensures.0 yes) c.loop-j.invariant
