-- Where a writer of records into memory is.
use Rattle.std.specs.Prelude.{ℕ, ◌≡◌, ◌==◌, ◌++◌, ⊤, Bool, false, not, List, [], ◌∷◌, length, Option, Some, Vec}
use Rattle.std.specs.Global.{Global}
use Rattle.csv.specs.Writing.{default_writer, field_text, fields_written, has_written, row_body, text_written, writer_setup}
use Rattle.csv.specs.declared.writer.Writer.{Writer}

abbrev pub MemoryWriter : Type 0
MemoryWriter = Writer (Vec ℕ Global)

-- what it has written
abbrev pub text_of : MemoryWriter → Option (List ℕ)
text_of writer = text_written (λ v. Some v.items) writer

-- a writer by the default settings that has written whole records of this text
pub record HasLines (writer : MemoryWriter) (text : List ℕ) : Type 0 where
  pub whole : fields_written writer ≡ 0
  pub clean : has_written writer ≡ false
  pub setup : writer_setup writer ≡ default_writer
  pub text_is : text_of writer ≡ Some text

-- whether a record of at most one field has shown a byte
abbrev pub HasShown : List (List ℕ) → Bool → Type 0
HasShown [] shown = shown ≡ false
HasShown (field ∷ []) shown = shown ≡ not (length (field_text default_writer field) == 0)
HasShown (field ∷ next ∷ rest) shown = ⊤

-- a writer by the default settings that has written whole records of this text, and then these fields of a record
pub record HasFields (writer : MemoryWriter) (text : List ℕ) (fields : List (List ℕ)) : Type 0 where
  pub count : fields_written writer ≡ length fields
  pub shown : HasShown fields (has_written writer)
  pub setup : writer_setup writer ≡ default_writer
  pub text_is : text_of writer ≡ Some (text ++ row_body default_writer fields)
