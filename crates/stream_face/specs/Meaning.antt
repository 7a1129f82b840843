-- What a checked stream means, and what is known of it.
use Rattle.std.specs.Prelude.{ℕ, Option}
use Rattle.tree_model.specs.promise.TreeCost.{Nodes}
use Rattle.raw_schema.specs.promise.Members.{SchemaTree}
use Rattle.data_types.specs.promise.KindTrees.{KindTree}
use Rattle.data_types.specs.promise.TypedView.{typed_of}
use Rattle.stream_face.specs.declared.fault.StreamFault.{StreamFault}
use Rattle.stream_face.specs.declared.raw.RawStream.{RawStream}
use Rattle.stream_face.specs.Failures.{why}
use Rattle.stream_face.specs.Raw.{raw_state}
use Rattle.stream_face.specs.Streams.{Stream}

-- the number of its link
abbrev pub raw_link : {S : Type 0} {bound : _} → RawStream S bound → ℕ
raw_link raw = raw.link

-- its schema, which is released with it
abbrev pub raw_schema : {S : Type 0} {bound : _} → RawStream S bound → SchemaTree
raw_schema raw = raw.known.schema

-- the kinds of its schema
abbrev pub raw_kinds : {S : Type 0} {bound : _} → RawStream S bound → KindTree
raw_kinds raw = typed_of raw.known.typed

-- why its last call refused
abbrev pub raw_fault : {S : Type 0} {bound : _} → RawStream S bound → Option StreamFault
raw_fault raw = why raw.failure

-- what its inner stream means
abbrev pub below : {S : Type 0} {bound : _} → (S → Stream) → RawStream S bound → Stream
below state raw = state raw.inner

-- what it means
abbrev pub meaning : {S : Type 0} {bound : _} → (S → Stream) → RawStream S bound → Stream
meaning state raw = raw_state (raw_link raw) (Nodes (raw_schema raw)) (raw_fault raw) (below state raw)
