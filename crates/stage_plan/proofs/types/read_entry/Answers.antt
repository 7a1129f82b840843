use Rattle.std.proofs.Common.{◌∙◌, ap, option_map, Option}
use Rattle.data_types.specs.declared.kind.DataType.{DataType}
use Rattle.stage_plan.proofs.Cuts.{entry, no_entry, one_entry}
use Rattle.stage_plan.proofs.types.read_entry.Goals as goal

pub returns-in_default-clause-only : goal.returns-in_default-clause-only
returns-in_default-clause-only c = no_entry c.args.part.now c.in_default.ensures.none

pub returns-in_default-2-clause-only : goal.returns-in_default-2-clause-only
returns-in_default-2-clause-only c =
    λ other reads.
    one_entry c.args.part.now c.in-Some.name.now c.in-Some.format.now c.in_ok-kind.field-0 c.in-Some.ensures.found c.in_ok-kind.ensures.only other reads
    ∙ ap (λ (o : Option DataType). option_map (entry c.in-Some.name.now) o) c.in_default-2.is

pub returns-clause-only : goal.returns-clause-only
returns-clause-only c =
    λ other reads.
    one_entry c.args.part.now c.in-Some.name.now c.in-Some.format.now c.in_ok-kind.field-0 c.in-Some.ensures.found c.in_ok-kind.ensures.only other reads
    ∙ ap (λ (o : Option DataType). option_map (entry c.in-Some.name.now) o) c.in-Some-2.is
