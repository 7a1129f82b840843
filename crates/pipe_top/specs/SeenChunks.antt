-- What a tap that keeps what it is shown has seen.
use Rattle.std.specs.Prelude.{List, map}
use Rattle.data_types.specs.promise.TypedView.{typed_of}
use Rattle.stream_face.specs.promise.Shown.{Seen}
use Rattle.pipe_top.specs.OwnedValues.{row_of}
use Rattle.pipe_top.specs.declared.record_tap.RecordTap.{RecordTap}
use Rattle.pipe_top.specs.declared.record_tap.SeenChunk.{SeenChunk}

-- a chunk that it keeps, as it was shown
abbrev pub seen_in : SeenChunk → Seen
seen_in chunk = record {
  link = chunk.link;
  shown = record { names = chunk.names.items; kinds = typed_of chunk.typed; rows = map row_of chunk.rows.items };
}

abbrev pub seen_by : RecordTap → List Seen
seen_by tap = map seen_in tap.seen.items
