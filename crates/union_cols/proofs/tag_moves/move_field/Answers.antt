use Rattle.std.proofs.Common.{ap, sym, ◌∙◌}
use Rattle.tree_model.specs.Tree.{with_child}
use Rattle.arr_move.proofs.Vacant.{with_own_child}
use Rattle.union_cols.proofs.tag_moves.move_field.Goals as goal

pub returns-in-Err-clause-moved : goal.returns-in-Err-clause-moved
returns-in-Err-clause-moved c =
    c.in-Err.ensures.kept ∙ sym (with_own_child c.args.moved.now c.args.place) ∙ ap (with_child c.args.moved.now c.args.place) c.in-Err.ensures.released

pub returns-in-Err-clause-top : goal.returns-in-Err-clause-top
returns-in-Err-clause-top c =
    sym (with_own_child c.args.top.now c.args.place) ∙ ap (with_child c.args.top.now c.args.place) (c.requires.vacant ∙ sym c.in-Err.ensures.released)
