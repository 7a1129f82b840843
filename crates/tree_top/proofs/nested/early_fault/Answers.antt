use Rattle.std.proofs.Common.{◌∙◌, length, ap, arith, sym}
use Rattle.std.proofs.lemmas.Bool.{false≢true}
use Rattle.std.proofs.lemmas.Option.{none-some}
use Rattle.arr_import.proofs.Reading.{kids-typed}
use Rattle.tree_top.proofs.nested.early_fault.Goals as goal

pub wrong_to_nest-requires : goal.wrong_to_nest-requires
wrong_to_nest-requires c =
    let kids = ap length (kids-typed c.args.typed.now c.kinds_of_typed.ensures) in
    record { few = omega (arith, kids, c.requires.few) }

pub returns-then-not-is_nested_too_long-clause-many : goal.returns-then-not-is_nested_too_long-clause-many
returns-then-not-is_nested_too_long-clause-many c = λ flat few long.
    absurd (false≢true (sym c.if-not-is_nested_too_long.true ∙ c.is_nested_too_long.ensures.many few long))

pub returns-in-Some-clause-many : goal.returns-in-Some-clause-many
returns-in-Some-clause-many c = λ flat few long. absurd (none-some c.in-Some.column (sym flat ∙ sym c.in-Some.ensures))

pub returns-in-None-clause-long : goal.returns-in-None-clause-long
returns-in-None-clause-long c = λ e column inside.
    c.is_nested_too_long.ensures.long c.if-not-is_nested_too_long.false (sym c.in-None.ensures) column inside
