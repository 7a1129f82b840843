use Rattle.std.proofs.Common.{ap, length, arith}
use Rattle.data_types.specs.promise.TypedView.{typed_of}
use Rattle.run_ends.proofs.ValueRuns.{count-is}
use Rattle.run_ends.proofs.encoder.coded.Goals as goal

pub filled-requires-clause-few : goal.filled-requires-clause-few
filled-requires-clause-few c =
    omega (arith, ap length c.of-runs.ensures, count-is (typed_of c.args.typed.now) c.args.array.now, c.requires.few)
