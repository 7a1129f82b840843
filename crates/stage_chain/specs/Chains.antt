-- A chain of stages over a stream: its links and rows, what they show, how they are made, and what is counted.
use Rattle.std.specs.Prelude.{ℕ, ◌+◌, ◌==◌, if◌then◌else◌, List, [], ◌∷◌, Option, None, Some}
use Rattle.csv_model.specs.promise.Batches.{Chunks}
use Rattle.data_types.specs.Parts.{joined_rows}
use Rattle.data_types.specs.promise.Table.{Row}
use Rattle.data_types.specs.declared.row_fault.RowFault.{RowFault}
use Rattle.stages.specs.Dues.{due_with}
use Rattle.stage_model.specs.promise.Links.{Link, Links, links_behind}
use Rattle.stage_model.specs.Links.{last_chunks}
use Rattle.stage_model.specs.promise.Stages.{chunks_after}
use Rattle.stage_model.specs.promise.Traffic.{Made, run_blocks, run_nodes, table_nodes}
use Rattle.stage_model.specs.promise.Typing.{Stage}
use Rattle.stream_face.specs.Raw.{apart}
use Rattle.stream_face.specs.promise.Shown.{Shown, shown_tables}
use Rattle.stream_face.specs.promise.Streams.{Making}
use Rattle.stream_face.specs.Streams.{Stream, Traffic}
use Rattle.stage_chain.specs.promise.Chains.{makings_behind}

-- the chunks that a stream still gives, and how it ends
abbrev pub chunks_of : Stream → Chunks
chunks_of s = record { chunks = s.ahead; ending = s.ending }

-- the stream of a stage over a checked stream of this link that was not asked yet
abbrev pub over_stream : ℕ → Stage → Stream → Stream
over_stream link stage up =
    let chunks = chunks_after stage.step up.ending up.ahead in
    record up {
      columns = stage.columns;
      ahead = chunks;
      making = Some (record { link = link; makes = chunks_after stage.step up.ending });
      due = due_with stage.step stage.columns chunks up.due;
      schema = None;
      chunk = None;
      gave = None;
      said = None;
    }

-- the links of a chain of stages over a stream
abbrev pub chain_links : Stream → List Stage → List Link
chain_links source stages = Links source.columns (chunks_of source) stages

-- the rows that come out of the last stage
abbrev pub last_rows : Stream → List Stage → List Row
last_rows source stages = joined_rows (last_chunks (chunks_of source) stages).chunks

-- what links show, the first of which has this number, besides what the links below them show
abbrev pub joints_with : ℕ → (ℕ → List Shown) → List Link → ℕ → List Shown
joints_with number below [] = below
joints_with number below (link ∷ links) =
    joints_with (number + 1) (λ k. if number == k then shown_tables link.columns link.chunks else below k) links

-- how links are made, the first of which has this number and is made so, besides those below them
abbrev pub makings_with : Option RowFault → ℕ → Option Making → (ℕ → Option Making) → List Link → ℕ → Option Making
makings_with ending number own below [] = below
makings_with ending number own below (link ∷ links) =
    makings_with ending (number + 1) (makings_behind ending number links 0) (λ k. apart number (if number == k then own else below k)) links

-- the blocks and the nodes of a run of the chain: what the source counts for its chunks, what each stage makes for those that
-- it gives, and the schema of each link
abbrev pub chain_traffic : Stream → List Stage → Traffic
chain_traffic source stages =
    let behind = links_behind (chunks_of source) stages in
    record {
      blocks = source.due.blocks + run_blocks behind;
      nodes = table_nodes Made source.columns + source.due.nodes + run_nodes behind;
    }
