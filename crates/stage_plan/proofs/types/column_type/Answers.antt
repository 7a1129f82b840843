use Rattle.std.proofs.Common.{◌∙◌, ap, sym, Err}
use Rattle.fmt_string.specs.declared.fault.FormatFault.{FormatFault}
use Rattle.stage_plan.proofs.Columns.{column, no_column, refused}
use Rattle.stage_plan.proofs.types.column_type.Goals as goal

pub returns-then-is_column_type-clause-only : goal.returns-then-is_column_type-clause-only
returns-then-is_column_type-clause-only c =
    column c.args.format.now c.read_format.result c.read_format.ensures.only c.in-Ok.kind c.in-Ok.is (sym c.is_column_type.ensures ∙ c.if-is_column_type.true)

pub returns-else-is_column_type-clause-only : goal.returns-else-is_column_type-clause-only
returns-else-is_column_type-clause-only c =
    no_column c.args.format.now c.read_format.result c.read_format.ensures.only c.in-Ok.kind c.in-Ok.is
    (sym c.is_column_type.ensures ∙ c.if-is_column_type.false)

pub returns-in-Err-At-clause-only : goal.returns-in-Err-At-clause-only
returns-in-Err-At-clause-only c =
    refused c.args.format.now c.read_format.result c.read_format.ensures.only c.in-Err-At.field-0-0 c.in-Err-At.field-0-1
    (c.in-Err-At.is ∙ ap (λ (f : FormatFault). Err f) c.in-Err-At.field-0-is)
