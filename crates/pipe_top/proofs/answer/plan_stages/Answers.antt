use Rattle.std.proofs.Common.{arith, map}
use Rattle.data_types.specs.ColumnView.{column_of}
use Rattle.pipe_top.proofs.Flat.{proper-kinds}
use Rattle.pipe_top.proofs.PlanMade.{steps-are-few}
use Rattle.pipe_top.proofs.answer.plan_stages.Goals as goal

pub type_plan-requires-clause-kinds : goal.type_plan-requires-clause-kinds
type_plan-requires-clause-kinds c = proper-kinds c.args.columns.items c.requires.proper

pub returns-in-Ok-clause-few : goal.returns-in-Ok-clause-few
returns-in-Ok-clause-few c =
    omega (arith, steps-are-few (map column_of c.args.columns.items) c.args.stages.now c.in-Ok.plan c.in-Ok.ensures.found, c.requires.few)
