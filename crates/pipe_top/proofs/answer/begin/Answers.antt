use Rattle.std.proofs.Common.{◌≡◌, ◌∙◌, ◌⊎◌, IfErr, List, Ok, ap, arith, length, map, subst, sym}
use Rattle.std.proofs.lemmas.List.{length-map}
use Rattle.csv_model.specs.promise.Header.{header_of}
use Rattle.csv_model.specs.promise.Reading.{Record, behind_header, records_of}
use Rattle.stage_plan.specs.promise.Entries.{entries_of}
use Rattle.csv_source.specs.Sources.{source_state}
use Rattle.field_codec.specs.TextColumns.{AreAllowed, AreProper}
use Rattle.data_types.specs.ColumnView.{column_of}
use Rattle.run_model.specs.Outcomes.{request_of}
use Rattle.run_model.specs.promise.Answer.{Fault}
use Rattle.run_model.specs.promise.RunAnswer.{answer_of_records}
use Rattle.run_model.specs.declared.fault.RunFault.TheVariants as run
use Rattle.stage_plan.specs.PlanWords.{IsPlan}
use Rattle.pipe_top.proofs.Carried.{the-error}
use Rattle.pipe_top.proofs.Bodies.{plan-here, source-is, told-here}
use Rattle.pipe_top.proofs.answer.begin.Goals as goal

-- ---- the header
pub returns-in-Err-clause-fault : goal.returns-in-Err-clause-fault
returns-in-Err-clause-fault c =
    told-here c.in-Err.fault (request_of c.args.request.now) c.as_slice.result.now c.in_ok-records.records.records (records_of c.args.bytes.items)
    c.in-Err.ensures.fault c.as_slice.ensures.value c.in_ok-records.ensures.records

-- ---- what the source asks for
pub source_of-requires-clause-some : goal.source_of-requires-clause-some
source_of-requires-clause-some c =
    let same = ap length (c.read_columns.ensures ∙ c.in_ok-plan.ensures.read) in
    let read = length-map c.read_columns.result.now column_of in
    let found = length-map c.in-Ok.columns.items column_of in
    omega (arith, same, read, found, c.in-Ok.ensures.some, c.in-Ok.columns.ok)

pub source_of-requires-clause-proper : goal.source_of-requires-clause-proper
source_of-requires-clause-proper c = subst AreProper (sym (c.read_columns.ensures ∙ c.in_ok-plan.ensures.read)) c.in-Ok.ensures.proper

pub source_of-requires-clause-allowed : goal.source_of-requires-clause-allowed
source_of-requires-clause-allowed c = subst AreAllowed (sym (c.read_columns.ensures ∙ c.in_ok-plan.ensures.read)) c.in-Ok.ensures.allowed

-- ---- what was begun
pub returns-clause-begun : goal.returns-clause-begun
returns-clause-begun c =
    let request = request_of c.args.request.now in
    let records = records_of c.args.bytes.items in
    let cols = map column_of c.in-Ok.columns.items in
    record {
      columns = cols;
      found =
          subst (λ es. header_of (entries_of es) records ≡ Ok cols) c.as_slice.ensures.value
          (subst (λ (rs : List Record). header_of (entries_of c.as_slice.result.now) rs ≡ Ok cols) c.in_ok-records.ensures.records c.in-Ok.ensures.found);
      proper = c.in-Ok.ensures.proper;
      source_is =
          source-is (source_state c.in_ok-source.source) request.mark c.as_slice-mark.result.now cols (map column_of c.read_columns.result.now)
          (behind_header records) _ request.batch c.in_ok-source.ensures c.as_slice-mark.ensures
          (c.read_columns.ensures ∙ c.in_ok-plan.ensures.read) (c.in-Ok.ensures.behind ∙ ap behind_header c.in_ok-records.ensures.records);
      plan_is = subst (λ ts. IsPlan cols ts c.in_ok-plan.plan) c.as_slice-2.ensures.value c.in_ok-plan.ensures.found;
    }

-- ---- a stage that doesn't fit
pub returns-in_err-plan-clause-fault : goal.returns-in_err-plan-clause-fault
returns-in_err-plan-clause-fault c =
    let request = request_of c.args.request.now in
    let records = records_of c.args.bytes.items in
    let cols = map column_of c.in-Ok.columns.items in
    let found : header_of (entries_of request.entries) records ≡ Ok cols =
    subst (λ es. header_of (entries_of es) records ≡ Ok cols) c.as_slice.ensures.value
    (subst (λ (rs : List Record). header_of (entries_of c.as_slice.result.now) rs ≡ Ok cols) c.in_ok-records.ensures.records c.in-Ok.ensures.found) in
    let is = the-error c.from_residual-in_err-plan.result c.in_err-plan.field-0.0 c.from_residual-in_err-plan.ensures.1 in
    subst (λ r. IfErr r (λ fault. (fault ≡ run.NoMemory) ⊎ (answer_of_records request records ≡ Fault fault))) (sym is)
    (plan-here c.in_err-plan.field-0.0 request cols c.as_slice-2.result.now records found c.as_slice-2.ensures.value c.in_err-plan.ensures.fault)
