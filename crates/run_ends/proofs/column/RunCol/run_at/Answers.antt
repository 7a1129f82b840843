use Rattle.std.proofs.Common.{rules, ◌≡◌, ◌+◌, ◌-◌, ◌/◌, true, false, arith}
use Rattle.run_ends.specs.promise.Runs.{ends_in, ends_above, run_count}
use Rattle.run_ends.specs.RunCols.{kinds_in, array_in}
use Rattle.run_ends.proofs.Searching.{search_low, search_high}
use Rattle.run_ends.proofs.column.RunCol.run_at.Goals as goal

pub loop-low-preserved-then-ends_above : goal.loop-low-preserved-then-ends_above
loop-low-preserved-then-ends_above c =
    let ends = ends_in (kinds_in c.args.self.now) (array_in c.args.self.now) in
    let low = c.loop-low.low in
    let high = c.loop-low.high in
    let middle = low + (high - low) / 2 in
    let test : ends_above ends c.args.place middle ≡ true = search rules in
    search_low ends (run_count (array_in c.args.self.now)) c.args.place low high middle c.runs_hold.ensures.each c.loop-low.invariant (omega arith)
    (omega (arith, c.loop-low-test.true)) test

pub loop-low-preserved : goal.loop-low-preserved
loop-low-preserved c =
    let ends = ends_in (kinds_in c.args.self.now) (array_in c.args.self.now) in
    let low = c.loop-low.low in
    let high = c.loop-low.high in
    let middle = low + (high - low) / 2 in
    let test : ends_above ends c.args.place middle ≡ false = search rules in
    search_high ends (run_count (array_in c.args.self.now)) c.args.place low high middle c.runs_hold.ensures.each c.loop-low.invariant (omega arith)
    (omega (arith, c.loop-low-test.true)) test
