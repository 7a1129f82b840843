use Rattle.std.proofs.Common.{arith}
use Rattle.arr_move.proofs.Fewer.{picks_le-children}
use Rattle.arr_move.proofs.fields.take_fields.Goals as goal

pub vacant_schema-requires-clause-few : goal.vacant_schema-requires-clause-few
vacant_schema-requires-clause-few c =
    omega (arith, picks_le-children c.args.schema c.args.picks.now c.requires.distinct c.requires.in_range, c.n_children-children.ensures.few)
