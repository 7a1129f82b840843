-- What is between the header of a text and its rows.
use Rattle.std.specs.Prelude.{◌≡◌, List, Ok}
use Rattle.csv_model.specs.promise.Batches.{batches_in}
use Rattle.csv_model.specs.promise.Header.{header_of}
use Rattle.csv_model.specs.promise.Reading.{Record, behind_header}
use Rattle.stage_plan.specs.promise.Entries.{entries_of}
use Rattle.csv_source.specs.Sources.{stream_of}
use Rattle.field_codec.specs.TextColumns.{AreProper}
use Rattle.data_types.specs.promise.Table.{Column}
use Rattle.run_model.specs.promise.Answer.{Request}
use Rattle.stage_plan.specs.PlanWords.{IsPlan}
use Rattle.stage_plan.specs.declared.typing.Plan.{Plan}
use Rattle.stream_face.specs.Streams.{Stream}

-- the stream of the records behind the header, and what the stages are over its columns
pub record IsBegun (request : Request) (records : List Record) (source : Stream) (plan : Plan) : Type 0 where
  pub columns : List Column
  pub found : header_of (entries_of request.entries) records ≡ Ok columns
  pub proper : AreProper columns
  pub source_is : source ≡ stream_of columns (batches_in request.mark columns (behind_header records) request.batch)
  pub plan_is : IsPlan columns request.stages plan
