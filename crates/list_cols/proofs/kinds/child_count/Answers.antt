use Rattle.std.proofs.Common.{length, ap, arith}
use Rattle.data_types.specs.declared.typed.Typed.{out-Typed}
use Rattle.list_cols.proofs.Kids.{kids-are, many-kids}
use Rattle.list_cols.proofs.kinds.child_count.Goals as goal

pub returns : goal.returns
returns c =
    let t = c.args.typed.now in
    omega (arith, c.len.ensures, many-kids t, (out-Typed t).kids.ok, ap length (kids-are t c.kinds_of_typed.ensures))
