-- What is said of a get call that refused.
use Rattle.std.specs.Prelude.{ℕ, ℤ, List, Option, None, Some, codes}
use Rattle.std.specs.Borrow.{Bor}
use Rattle.data_types.specs.declared.row_fault.RowFault.{RowFault}
use Rattle.data_types.specs.FaultTexts.{row_fault_text}
use Rattle.stream_face.specs.Codes.{einval, enomem}

-- a get call that refused: its code, and the text of its error
pub record Refusal : Type 0 where
  pub code : ℤ
  pub text : List ℕ

abbrev pub memory_text : List ℕ
memory_text = codes "out of memory"

-- the text of a chunk that a checked stream refuses
abbrev pub chunk_text : List ℕ
chunk_text = codes "chunk refused"

-- out of memory
abbrev pub wanting : Refusal
wanting = record { code = enomem; text = memory_text }

-- the record at which a stream ends
abbrev pub refused_row : RowFault → Refusal
refused_row fault = record { code = einval; text = row_fault_text fault }

abbrev pub text_in : Option Refusal → Option (List ℕ)
text_in None = None
text_in (Some refusal) = Some refusal.text

-- a text that is lent
abbrev pub lent_text : Option (Bor (List ℕ)) → Option (List ℕ)
lent_text None = None
lent_text (Some text) = Some text.now
