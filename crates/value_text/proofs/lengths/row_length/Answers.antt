use Rattle.std.proofs.Common.{List, ap, arith}
use Rattle.data_types.specs.promise.Value.{Value}
use Rattle.value_text.specs.Lengths.{AreFieldLengths, some_fields}
use Rattle.value_text.proofs.LengthSums.{row-long}
use Rattle.value_text.proofs.lengths.row_length.Goals as goal

pub returns : goal.returns
returns c = λ (row : List Value) (known : AreFieldLengths c.args.kids.now c.args.place row).
    let kids = c.args.kids.now in
    let long = row-long kids row c.args.place c.args.sums.now.same c.args.sums.now.own.items known c.requires.sums in
    omega (arith, c.braced.ensures, c.with_own.ensures, ap (some_fields kids c.args.place) c.deref.ensures.value, long)
