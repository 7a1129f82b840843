use Rattle.std.proofs.Common.{◌≡◌, ap, sym, ◌∙◌, rules}
use Rattle.tree_model.specs.promise.TreeData.{Released}
use Rattle.tree_model.specs.promise.TreeParts.{child_at}
use Rattle.tree_model.specs.Tree.{with_child}
use Rattle.arr_move.proofs.Moving.{other_child}
use Rattle.arr_move.proofs.Vacant.{with_own_child}
use Rattle.arr_move.specs.Fields.{new_or_old}
use Rattle.arr_move.proofs.Over.{kept-new}
use Rattle.arr_move.proofs.replaced.fill_place.Goals as goal

pub returns-then-not-is_released-clause-top : goal.returns-then-not-is_released-clause-top
returns-then-not-is_released-clause-top c =
    let top = c.args.top.now in
    let place = c.args.place in
    let live : child_at top place ≡ Released → ⊥ = search rules in
    sym (with_own_child top place) ∙ ap (with_child top place) (sym (kept-new (child_at top place) (child_at c.args.moved.now place) live))

pub returns-in-Ok-clause-rest : goal.returns-in-Ok-clause-rest
returns-in-Ok-clause-rest c = λ j other.
    ap (λ m. child_at m j) c.in-Ok.ensures.rest ∙ other_child c.args.moved.now c.args.place j other

pub returns-in-Err-clause-top : goal.returns-in-Err-clause-top
returns-in-Err-clause-top c =
    let top = c.args.top.now in
    let place = c.args.place in
    let vacant : child_at top place ≡ Released = search rules in
    sym (with_own_child top place) ∙ ap (with_child top place) vacant
    ∙ (λ t. with_child top place (new_or_old (sym vacant t) (sym c.in-Err.ensures.released t)))
