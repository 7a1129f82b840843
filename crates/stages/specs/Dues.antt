-- What a stage's calls still count.
use Rattle.std.specs.Prelude.{◌+◌, List, Some}
use Rattle.std.specs.List.{sum_by}
use Rattle.data_types.specs.promise.Table.{Column, Row}
use Rattle.stage_model.specs.promise.Traffic.{made_blocks, made_nodes}
use Rattle.stage_model.specs.declared.stage.Step.{Step}
use Rattle.stream_face.specs.Streams.{Traffic}

-- what a step makes for chunks of these columns and rows, besides what is due below it
abbrev pub due_with : Step → List Column → List (List Row) → Traffic → Traffic
due_with step columns chunks due = record {
  blocks = due.blocks + sum_by (made_blocks (Some step) columns) chunks;
  nodes = due.nodes + sum_by (λ rows. made_nodes (Some step) columns) chunks;
}
