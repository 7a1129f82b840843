-- A reader of records over a text: what it has left of the text and of its records.
use Rattle.std.specs.Prelude.{◌≡◌, ◌≤◌, ◌<◌, ◌+◌, ℕ, Bool, true, false, if◌then◌else◌, List, [], ◌∷◌, length, Option, Some}
use Rattle.std.specs.Option.{unwrap_or}
use Rattle.std.specs.List.{concat}
use Rattle.csv.specs.Machine.{ends_at_end}
use Rattle.csv.specs.Reading.{Ready, default_config, has_failed, is_flexible, reader_config, reader_state, reader_trim, records_from, source_of}
use Rattle.csv.specs.declared.reader.Reader.{Reader}
use Rattle.csv.specs.declared.reader.Trim.TheVariants as trim
use Rattle.csv_model.specs.promise.Reading.{Record}

-- what contracts see of a text whose records are read one after the other
pub record RecordsLeft : Type 0 where
  -- the fields of the record that was read last
  pub row : Record
  -- how many bytes of the text are left
  pub size : ℕ
  -- the records that were not read
  pub records : List Record

-- a record takes at least a byte of a text, no fewer bytes than its fields have, and at most one field more than bytes
pub record Takes (size : ℕ) (fields : Record) (rest : ℕ) : Type 0 where
  pub shorter : rest < size
  pub bytes : length (concat fields) + rest ≤ size
  pub count : length fields + rest ≤ size + 1

-- the bytes of the fields of records
abbrev pub field_bytes : List Record → ℕ
field_bytes [] = 0
field_bytes (fields ∷ records) = length (concat fields) + field_bytes records

-- ---- the reader, over a source that tells which bytes it has still to give

-- the bytes that a source has still to give, where it states them
abbrev pub told_by : Option (List ℕ) → List ℕ
told_by told = unwrap_or told []

-- the bytes not yet read
abbrev pub text_left : {R : Type 0} → (R → Option (List ℕ)) → Reader R → List ℕ
text_left rem reader = told_by (source_of rem reader)

-- the records not yet read
abbrev pub records_left : {R : Type 0} → (R → Option (List ℕ)) → Reader R → List Record
records_left rem reader = records_from default_config (length (text_left rem reader) + 1) (reader_state reader) (text_left rem reader)

-- the reader is between two records, and reads the next one by the default settings, however many fields it has
pub record IsReading {R : Type 0} (rem : R → Option (List ℕ)) (reader : Reader R) : Type 0 where
  pub config : reader_config reader ≡ default_config
  pub trim : reader_trim reader ≡ trim.None
  pub flexible : is_flexible reader ≡ true
  pub ready : Ready reader
  pub fresh : has_failed reader ≡ false
  pub between : ends_at_end (reader_state reader) ≡ false
  pub source : source_of rem reader ≡ Some (text_left rem reader)

-- the records and the bytes that are left, unless the reader came to the end
abbrev pub records_ahead : {R : Type 0} → (R → Option (List ℕ)) → Bool → Reader R → List Record
records_ahead rem ended reader = if ended then [] else records_left rem reader

abbrev pub size_ahead : {R : Type 0} → (R → Option (List ℕ)) → Bool → Reader R → ℕ
size_ahead rem ended reader = if ended then 0 else length (text_left rem reader)
