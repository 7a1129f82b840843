-- What a checked stream means, from what its inner stream means.
use Rattle.std.specs.Prelude.{◌+◌, ◌==◌, if◌then◌else◌, Option, Some, None, ℕ, List}
use Rattle.data_types.specs.declared.row_fault.RowFault.{RowFault}
use Rattle.stream_face.specs.declared.fault.StreamFault.{StreamFault}
use Rattle.stream_face.specs.declared.fault.StreamFault.TheVariants.{Row, Chunk, Code, NoMemory}
use Rattle.stream_face.specs.Faults.{code_of, fault_text}
use Rattle.stream_face.specs.promise.Shown.{Shown, shown_tables}
use Rattle.stream_face.specs.promise.Streams.{Making}
use Rattle.stream_face.specs.Streams.{Stream}
use Rattle.stream_face.specs.Texts.{Refusal}

-- the joints below a checked stream, with its own
abbrev pub raw_joints : ℕ → Stream → ℕ → List Shown
raw_joints own inner link = if own == link then shown_tables inner.columns inner.ahead else inner.joints link

-- a way to make tables of those of another link than this
abbrev pub apart : ℕ → Option Making → Option Making
apart own None = None
apart own (Some making) = if own == making.link then None else Some making

-- how the tables of the joints below a checked stream are made, with its own, which are its inner stream's
abbrev pub raw_makings : ℕ → Stream → ℕ → Option Making
raw_makings own inner link = apart own (if own == link then inner.making else inner.makings link)

-- its refusal, and its record at fault, or else those of its inner stream
abbrev pub refusal_or : Option StreamFault → Option Refusal → Option Refusal → Option Refusal
refusal_or None inner said = inner
refusal_or (Some fault) inner said = Some (record { code = code_of fault; text = fault_text fault said })

abbrev pub row_or : Option StreamFault → Option RowFault → Option RowFault
row_or None inner = inner
row_or (Some (Row fault)) inner = Some fault
row_or (Some (Chunk fault)) inner = None
row_or (Some (Code code)) inner = None
row_or (Some NoMemory) inner = None

-- with the number of its link, the nodes of its schema, and why it refused
abbrev pub raw_state : ℕ → ℕ → Option StreamFault → Stream → Stream
raw_state own nodes fault inner = record inner {
  held = inner.held + nodes;
  joints = raw_joints own inner;
  making = None;
  makings = raw_makings own inner;
  failure = refusal_or fault inner.failure inner.said;
  fault = row_or fault inner.fault;
  said = refusal_or fault inner.said inner.said;
}
