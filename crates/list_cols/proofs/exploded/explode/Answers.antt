use Rattle.std.proofs.Common.{length, ap, arith}
use Rattle.list_cols.proofs.Kids.{kids-are}
use Rattle.list_cols.proofs.exploded.explode.Goals as goal

pub wrong_to_explode-requires : goal.wrong_to_explode-requires
wrong_to_explode-requires c =
    record { few = omega (arith, c.requires.few, ap length (kids-are c.args.typed.now c.kinds_of_typed.ensures)) }
