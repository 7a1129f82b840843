-- What a run over a source comes to, for each program: the cause of its fault and the status, how far the source was read, and what the
-- sinks took.
use Rattle.std.specs.Prelude.{ℕ, ◌≤◌, ◌⊎◌, ◌+◌, nat_lt, Bool, true, false, ⊤, List, length, take, Option, None, Some}
use Rattle.std.specs.Io.KnownBytes.{Appends, IsAtEnd, Keeps}
use Rattle.edge_io.specs.promise.Edge.{LosesCount, Rose}

-- ---- causes

-- what a fault comes from
pub data Cause : Type 0 where
  -- the words
  OfWords : Cause
  -- a text among the words
  OfTexts : Cause
  -- the stages over the columns that are read
  OfPlan : Cause
  -- the header and the records
  OfRecords : Cause
  -- the trees that are checked or shown: their text, the schema, the array, or columns that a command can't take
  OfTree : Cause
  -- the length of the input
  OfLength : Cause
  Reading : Cause
  -- a write, when this many bytes of the text were taken
  Writing : ℕ → Cause
  Memory : Cause

abbrev pub status_by : Cause → ℕ
status_by OfWords = 2
status_by OfTexts = 3
status_by OfPlan = 3
status_by OfRecords = 4
status_by OfLength = 5
status_by Reading = 6
status_by (Writing taken) = 7
status_by OfTree = 8
status_by Memory = 9

-- the status of a run, which is a function of its fault
abbrev pub status_of : {F : Type 0} → (F → Cause) → Option F → ℕ
status_of cause_of None = 0
status_of cause_of (Some fault) = status_by (cause_of fault)

-- the words and the bytes of the input decide a fault of this cause
abbrev pub decides : Cause → Bool
decides OfWords = true
decides OfTexts = true
decides OfPlan = true
decides OfRecords = true
decides OfTree = true
decides OfLength = true
decides Reading = false
decides (Writing taken) = false
decides Memory = false

-- the words alone decide it
abbrev pub decides_early : Cause → Bool
decides_early OfWords = true
decides_early OfTexts = true
decides_early _ = false

-- it is a failed write
abbrev pub is_writing : Cause → Bool
is_writing (Writing taken) = true
is_writing _ = false

-- this many bytes were taken before a write failed
abbrev pub AtWriting : Cause → (ℕ → Type 0) → Type 0
AtWriting (Writing taken) P = P taken
AtWriting _ P = ⊤

-- ---- the source

-- the most bytes that are read
abbrev pub input_limit : ℕ
input_limit = 1_073_741_824

-- the input has more bytes than are read
abbrev pub is_too_long : List ℕ → Bool
is_too_long bytes = nat_lt input_limit (length bytes)

-- the source was read to its end, or is as before where rows are made in place of its bytes
abbrev pub IsRead : Option ℕ → Option (List ℕ) → Option (List ℕ) → Type 0
IsRead None before after = IsAtEnd after
IsRead (Some rows) before after = Keeps before after

-- how far the source was read at a fault of this cause: to its end, where the fault is found behind that; and where the input is too
-- long, one byte past the most that are read
abbrev pub ReadFor : Cause → Option ℕ → Option (List ℕ) → Option (List ℕ) → Type 0
ReadFor OfPlan rows before after = IsRead rows before after
ReadFor OfRecords rows before after = IsRead rows before after
ReadFor OfTree rows before after = IsRead rows before after
ReadFor (Writing taken) rows before after = IsRead rows before after
ReadFor OfLength rows before after = LosesCount before after (input_limit + 1)
ReadFor _ rows before after = Unit {0}

-- ---- the sinks

-- such a text is the answer, and the sink got all of it
abbrev pub GotText : (List ℕ → Type 0) → Option (List ℕ) → Option (List ℕ) → Type 0
GotText IsText old new = (text : List ℕ) × IsText text × Appends old new text

-- such a text is the answer, and the sink got its first bytes
abbrev pub GotFirst : (List ℕ → Type 0) → Option (List ℕ) → Option (List ℕ) → ℕ → Type 0
GotFirst IsText old new taken = (text : List ℕ) × IsText text × (taken ≤ length text) × Appends old new (take taken text)

-- the sink of diagnostics took a text, or its first bytes, and then its faults rose
abbrev pub Took : Option (List ℕ) → Option (List ℕ) → ℕ → ℕ → List ℕ → Type 0
Took old new before now text = Appends old new text ⊎ ((taken : ℕ) × (taken ≤ length text) × Appends old new (take taken text) × Rose before now)
