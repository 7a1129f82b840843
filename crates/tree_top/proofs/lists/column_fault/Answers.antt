use Rattle.std.proofs.Common.{◌≡◌, ◌∙◌, Some, length, ap, arith, sym}
use Rattle.arr_import.proofs.Reading.{children-count}
use Rattle.data_types.specs.promise.TypedView.{typed_of}
use Rattle.data_types.specs.declared.typed.Typed.{out-Typed}
use Rattle.tree_model.specs.promise.TreeParts.{children_of}
use Rattle.tree_top.proofs.NewRows.{column-many, column-none, column-there}
use Rattle.tree_top.specs.declared.fault.TreeRunFault.TheVariants as run
use Rattle.tree_top.proofs.lists.column_fault.Goals as goal

pub returns-then-count-gt-MOST_COLUMNS : goal.returns-then-count-gt-MOST_COLUMNS
returns-then-count-gt-MOST_COLUMNS c =
    let count : length (children_of (typed_of c.args.typed.now)) ≡ c.len-count.result =
    omega (arith, children-count c.args.typed.now c.kinds_of_typed.ensures, c.len-count.ensures, (out-Typed c.args.typed.now).kids.ok) in
    ap (λ n. Some (run.TooManyColumns n)) (sym count)
    ∙ column-many c.args.column (length (children_of (typed_of c.args.typed.now))) (omega (arith, count, c.if-count-gt-MOST_COLUMNS.true))

pub returns-then-from-count : goal.returns-then-from-count
returns-then-from-count c =
    let count : length (children_of (typed_of c.args.typed.now)) ≡ c.len-count.result =
    omega (arith, children-count c.args.typed.now c.kinds_of_typed.ensures, c.len-count.ensures, (out-Typed c.args.typed.now).kids.ok) in
    column-there c.args.column (length (children_of (typed_of c.args.typed.now))) (omega (arith, count, c.if-count-gt-MOST_COLUMNS.false))
    (omega (arith, count, c.from.ensures, c.if-from-count.true))

pub returns-else-from-count : goal.returns-else-from-count
returns-else-from-count c =
    let count : length (children_of (typed_of c.args.typed.now)) ≡ c.len-count.result =
    omega (arith, children-count c.args.typed.now c.kinds_of_typed.ensures, c.len-count.ensures, (out-Typed c.args.typed.now).kids.ok) in
    column-none c.args.column (length (children_of (typed_of c.args.typed.now))) (omega (arith, count, c.if-count-gt-MOST_COLUMNS.false))
    (omega (arith, count, c.from.ensures, c.if-from-count.false))
