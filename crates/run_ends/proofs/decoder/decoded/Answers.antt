use Rattle.std.proofs.Common.{◌≡◌}
use Rattle.run_ends.specs.RunAnswers.{runs_of}
use Rattle.run_ends.specs.promise.Runs.{run_values}
use Rattle.run_ends.proofs.Units.{made-units}
use Rattle.run_ends.proofs.decoder.decoded.Goals as goal

pub returns-clause-units : goal.returns-clause-units
returns-clause-units c =
    let made = c.built_column.ensures in
    made-units c.built_column.result c.in_ok-builder.builder c.args.kind.now (run_values (runs_of c.args.typed.now) c.args.array.now)
    c.built_column.new.pass.units c.args.pass.now.units c.in_ok-builder.ensures made.tree made.units made.units_back
