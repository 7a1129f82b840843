-- The chunk of the next batch of a text, and what it counts.
use Rattle.std.specs.Prelude.{◌≡◌, ℕ, List, [], None, Option, Some}
use Rattle.csv_source.specs.Refusals.{row_of}
use Rattle.csv_source.specs.SourceStreams.{no_batches}
use Rattle.csv_source.specs.declared.refused.Refused.{Refused}
use Rattle.csv_read.specs.BatchesLeft.{BatchesLeft, batches_left, behind, columns_in}
use Rattle.data_types.specs.promise.Table.{Row}
use Rattle.data_types.specs.declared.row_fault.RowFault.{RowFault}
use Rattle.raw_array.specs.promise.Members.{ArrayTree}
use Rattle.stage_model.specs.promise.Traffic.{made_blocks, made_nodes}
use Rattle.stream_face.specs.Lawful.{IsChunkOf}
use Rattle.tree_model.specs.promise.TreeParts.{IsLive}
use Rattle.unit_pass.specs.promise.Tally.{risen}
use Rattle.unit_pass.specs.Tally.{Tally}

-- the record at which the batches end, where one is at fault
abbrev pub ending_of : ℕ → BatchesLeft → Option RowFault
ending_of batch s = (batches_left batch s).ending

-- the chunk of the next batch, which leaves those that are left; the pass counts what it is made of
pub record IsNextChunk (batch : ℕ) (chunk : ArrayTree) (old new : BatchesLeft) (before after : Tally) : Type 0 where
  pub rows : List Row
  pub ahead : batches_left batch old ≡ behind rows (batches_left batch new)
  pub live : IsLive chunk
  pub is : IsChunkOf (columns_in old) rows chunk
  pub blocks : after.blocks ≡ risen before.blocks (made_blocks None (columns_in old) rows)
  pub nodes : after.nodes ≡ risen before.nodes (made_nodes None (columns_in old))

-- a record at fault ends the batches, and none is left behind it
abbrev pub EndsAt : ℕ → Refused → BatchesLeft → BatchesLeft → Type 0
EndsAt batch why old new = (row : RowFault) → row_of why ≡ Some row → (batches_left batch old ≡ no_batches (Some row)) × (new.records ≡ [])

-- a record at fault counts nothing
abbrev pub CountsNothing : Refused → Tally → Tally → Type 0
CountsNothing why before after = (row : RowFault) → row_of why ≡ Some row → after ≡ before
