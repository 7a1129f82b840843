-- The links of a run by their parts.
use Rattle.std.specs.Prelude.{ℕ, Bool, List, [], Result, if◌then◌else◌}
use Rattle.csv_model.specs.promise.Batches.{batches_in}
use Rattle.csv_model.specs.promise.Reading.{Record, records_of}
use Rattle.csv_model.specs.declared.fault.HeaderFault.{HeaderFault}
use Rattle.data_types.specs.promise.Table.{Column}
use Rattle.stage_model.specs.promise.Links.{Link, Links}
use Rattle.stage_model.specs.promise.Typing.{Stage, plan_of}
use Rattle.stage_model.specs.declared.fault.PlanFault.{PlanFault}
use Rattle.run_model.specs.promise.Answer.{Request}
use Rattle.pipe_top.specs.promise.Traffic.{links_of, or_none}

-- the links of stages over columns and the records behind a header, where the stages fit
abbrev pub links_planned : Request → List Column → Result (List Stage) PlanFault → List Record → List Link
links_planned request columns planned records =
    or_none planned (λ stages. Links columns (batches_in request.mark columns records request.batch) stages)

-- where the header is taken
abbrev pub links_behind_header : Request → Result (List Column) HeaderFault → List Record → List Link
links_behind_header request found records = or_none found (λ columns. links_planned request columns (plan_of columns request.stages) records)

-- the links of a request over the bytes of an input: there are none where it is too long
abbrev pub links_within : Bool → Request → List ℕ → List Link
links_within long request bytes = if long then [] else links_of request (records_of bytes)
