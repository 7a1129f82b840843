use Rattle.std.proofs.Common.{◌<◌, ◌^◌, length, arith}
use Rattle.col_build.specs.Encoding.{Fits}
use Rattle.data_types.specs.promise.TypedView.{typed_of}
use Rattle.layout_rules.specs.promise.Values.{values_of}
use Rattle.run_ends.proofs.ValueRuns.{count-is}
use Rattle.run_ends.proofs.encoder.runs_are_right.Goals as goal

pub returns : goal.returns
returns c =
    let kind = c.args.kind.now in
    let t = typed_of c.args.typed.now in
    let values = values_of t c.args.array.now in
    let fits : Fits kind values = c.lawful_values_fit.ensures.whole kind c.requires.typed c.requires.flat in
    let few : length values < 2 ^ 31 = omega (arith, count-is t c.args.array.now, c.requires.few) in
    record {
      fits = fits;
      reads = c.coded_values_are_the_values.ensures.schema kind (fits.kind_ok, fits.flat);
      checks = c.coded_values_are_the_values.ensures.lawful kind values fits few;
      items = c.coded_values_are_the_values.ensures.values kind values fits few;
    }
