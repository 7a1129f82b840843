use Rattle.stages.proofs.KeptColumns.{dicts-kept, few-columns, kinds-kept, leaves-kept, structs-kept}
use Rattle.stages.proofs.plan_laws.stages_keep_columns.Goals as goal

pub returns-clause-kinds : goal.returns-clause-kinds
returns-clause-kinds c = kinds-kept

pub returns-clause-dicts : goal.returns-clause-dicts
returns-clause-dicts c = dicts-kept

pub returns-clause-leaves : goal.returns-clause-leaves
returns-clause-leaves c = leaves-kept

pub returns-clause-few : goal.returns-clause-few
returns-clause-few c = few-columns

pub returns-clause-structs : goal.returns-clause-structs
returns-clause-structs c = structs-kept
