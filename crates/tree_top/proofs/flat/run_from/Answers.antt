use Rattle.std.proofs.Common.{◌≡◌, arith}
use Rattle.tree_top.proofs.flat.run_from.Goals as goal

pub overflow_add-at : goal.overflow_add-at
overflow_add-at c =
    let stop : c.args.at.stop ≡ c.args.i = omega (arith, c.requires.known.ordered, c.if-i-at.false) in
    let next = c.requires.known.next (omega (arith, stop, c.requires.inside)) in
    omega (arith, next, c.count_values.ensures.stored c.args.at.stop (omega (arith, stop, c.requires.inside)), c.count_values.ensures.small)
