-- Why a stream was not started, and why a call of a checked stream refused.
use Rattle.std.specs.Prelude.{◌≡◌, ◌≢◌, ℕ, ℤ, pos, List, Option, Some, None, IsTrue, false}
use Rattle.raw_array.specs.promise.Members.{ArrayTree}
use Rattle.raw_schema.specs.promise.Members.{SchemaTree}
use Rattle.data_types.specs.promise.KindTrees.{KindTree}
use Rattle.layout_rules.specs.Found.{fault_of}
use Rattle.schema_check.specs.SchemaAnswers.{IsFirstFault}
use Rattle.layout_rules.specs.promise.Walk.{first_chunk_fault}
use Rattle.schema_check.specs.declared.schema.SchemaFault.TheVariants as schemas
use Rattle.stream_face.specs.declared.fault.StartFault.{StartFault}
use Rattle.stream_face.specs.declared.fault.StartFault.TheVariants as start
use Rattle.stream_face.specs.declared.fault.StreamFault.{StreamFault}
use Rattle.stream_face.specs.declared.fault.StreamFault.TheVariants.{Row, Chunk, Code, NoMemory}
use Rattle.stream_face.specs.Calls.{IsCode, IsTold, Tells}
use Rattle.stream_face.specs.Codes.{einval, enomem}
use Rattle.stream_face.specs.Streams.{Stream}
use Rattle.stream_face.specs.Texts.{Refusal, chunk_text, memory_text}

abbrev pub code_of : StreamFault → ℤ
code_of (Row fault) = einval
code_of (Chunk fault) = einval
code_of (Code code) = code
code_of NoMemory = enomem

-- the text of a refusal: the inner stream's where it refused, else the checked stream's own
abbrev pub own_text : StreamFault → List ℕ
own_text (Row fault) = chunk_text
own_text (Chunk fault) = chunk_text
own_text (Code code) = chunk_text
own_text NoMemory = memory_text

abbrev pub fault_text : StreamFault → Option Refusal → List ℕ
fault_text fault None = own_text fault
fault_text fault (Some refusal) = refusal.text

-- why a call answered a code, from what the inner stream meant before it and means after it: the inner stream refused for a
-- record, where memory ran out or with another code; or what it gave is no chunk, by this first fault, and it isn't lawful; or
-- the tap ran out of memory
abbrev pub IsWhy : ℤ → KindTree → Stream → Stream → Option StreamFault → Type 0
IsWhy code kinds before after None = code ≡ pos 0
IsWhy code kinds before after (Some (Row fault)) = (code ≡ einval) × Tells code after.said × (after.fault ≡ Some fault)
IsWhy code kinds before after (Some (Chunk fault)) =
    (code ≡ einval) × (after.said ≡ None) × (before.lawful ≡ false) × (chunk : ArrayTree) × (after.gave ≡ Some chunk) × IsTold before.chunk chunk
    × (first_chunk_fault kinds chunk ≡ Some (fault_of fault))
IsWhy code kinds before after (Some NoMemory) = code ≡ enomem
IsWhy code kinds before after (Some (Code own)) = (code ≡ own) × Tells code after.said × (code ≢ enomem) × (code ≡ einval → after.fault ≡ None)

-- why a checked stream refuses a structure that its inner stream gave: it is no chunk, by this first fault, or the tap wants
-- memory
abbrev pub IsOwnFault : KindTree → ArrayTree → StreamFault → Type 0
IsOwnFault kinds chunk (Chunk fault) = first_chunk_fault kinds chunk ≡ Some (fault_of fault)
IsOwnFault kinds chunk NoMemory = Unit {0}
IsOwnFault kinds chunk (Row fault) = ⊥
IsOwnFault kinds chunk (Code code) = ⊥

-- why a stream was not started: the code of the inner stream, or the first fault of the schema that it gave; over a lawful
-- stream only out of memory
abbrev pub IsStartFault : Stream → Option Refusal → StartFault → Type 0
IsStartFault inner said (start.Code code) = Tells code said × (code ≢ pos 0) × IsCode code × (IsTrue inner.lawful → code ≡ enomem)
IsStartFault inner said (start.Schema fault) =
    (said ≡ None) × ((schema : SchemaTree) × IsTold inner.schema schema × IsFirstFault schema fault) × (IsTrue inner.lawful → fault ≡ schemas.NoMemory)
