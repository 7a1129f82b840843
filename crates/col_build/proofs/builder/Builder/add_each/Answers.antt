use Rattle.std.proofs.Common.{◌++◌, arith, replicate}
use Rattle.std.proofs.lemmas.List.{length-append, length-replicate}
use Rattle.col_build.specs.Items.{value_of}
use Rattle.col_build.proofs.builder.Builder.add_each.Goals as goal

pub add_any-requires : goal.add_any-requires
add_any-requires c =
    let takes = c.requires.takes in
    let v = value_of c.args.item in
    record {
      takes = (
        takes.kind,
        takes.values ++ replicate c.loop-time._time v,
        c.loop-time.invariant takes.kind takes.values takes.holds,
        omega (
          arith,
          takes.few,
          c.loop-time-test.true,
          length-append takes.values (replicate c.loop-time._time v),
          length-replicate c.loop-time._time v,
        ),
        takes.each c.loop-time._time c.loop-time-test.true,
      );
    }
