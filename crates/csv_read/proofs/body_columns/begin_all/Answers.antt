use Rattle.std.proofs.Common.{◌<◌, arith, length, subst, sym}
use Rattle.col_build.specs.Holding.{HoldsSome}
use Rattle.csv_read.proofs.EmptiedBuilders.{all-emptied, none-emptied, one-emptied}
use Rattle.csv_read.proofs.body_columns.begin_all.Goals as goal

pub loop-j-init : goal.loop-j-init
loop-j-init c = none-emptied c.args.builders.now

pub begin_anew-requires : goal.begin_anew-requires
begin_anew-requires c =
    let before = c.loop-j.invariant in
    record {
      holds = subst HoldsSome (sym (before.others c.loop-j.j c.index-builders-j.result (omega arith)))
          (c.requires.held c.loop-j.j c.index-builders-j.result (omega (arith, before.count, c.loop-j-test.true)));
    }

pub loop-j-preserved : goal.loop-j-preserved
loop-j-preserved c =
    let before = c.loop-j.invariant in
    let within : c.loop-j.j < length c.args.builders.now = omega (arith, before.count, c.loop-j-test.true) in
    one-emptied c.loop-j.j c.args.builders.now c.loop-j.builders c.index-builders-j.result c.begin_anew.new.self before within
    c.in_ok-begin_anew.ensures.begun

pub returns : goal.returns
returns c = all-emptied c.loop-j.j c.args.builders.now c.loop-j.builders c.loop-j.invariant (omega arith)
