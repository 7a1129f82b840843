use Rattle.std.proofs.Common.{sym}
use Rattle.run_ends.specs.RunAnswers.{runs_of}
use Rattle.tree_top.proofs.Running.{flat-come, flat-refused, runs_schema-refused}
use Rattle.tree_top.proofs.flat.flat_text.Goals as goal

pub returns-in-Err-clause-fault : goal.returns-in-Err-clause-fault
returns-in-Err-clause-fault c =
    runs_schema-refused c.args.schema.now c.args.array.now c.in-Err.fault c.from.result c.from.ensures c.in-Err.ensures.fault

pub returns-in-Ok-check_runs-clause-text : goal.returns-in-Ok-check_runs-clause-text
returns-in-Ok-check_runs-clause-text c =
    let u = runs_of c.in-Ok.typed in
    flat-come c.args.schema.now c.args.array.now u c.in-Ok.ensures.found c.in_ok-measured_lines-in-Ok-check_runs.field-0.items
    (sym c.in-Ok-check_runs.ensures.fault)
    c.in_ok-measured_lines-in-Ok-check_runs.ensures

pub returns-clause-fault : goal.returns-clause-fault
returns-clause-fault c =
    flat-refused c.args.schema.now c.args.array.now (runs_of c.in-Ok.typed) c.in-Ok.ensures.found c.in-Err-check_runs.fault
    c.from-in-Err-check_runs.result c.from-in-Err-check_runs.ensures (sym c.in-Err-check_runs.ensures.fault)
