use Rattle.std.proofs.Common.{below_more}
use Rattle.data_types.specs.promise.TypedView.{typed_of}
use Rattle.list_cols.specs.Spreading.{FitsAt}
use Rattle.list_cols.proofs.long.bytes_fault.Goals as goal

pub loop-k-preserved : goal.loop-k-preserved
loop-k-preserved c =
    below_more (λ j. FitsAt c.args.column (typed_of c.args.typed.now) c.args.array.now j) c.loop-k.k c.loop-k.invariant c.in_default.ensures.none
