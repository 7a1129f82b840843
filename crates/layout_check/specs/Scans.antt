-- What the scans over whole buffers look at.
use Rattle.std.specs.Prelude.{◌≡◌, ℕ, ◌+◌, ◌-◌, ◌*◌, ◌<◌, ◌≤◌, ℤ, Bool, List, length, take, drop, get_or, Option, IsUtf8}
use Rattle.std.specs.Str.{IsCharBoundary}
use Rattle.data_types.specs.promise.Packed.{meant, number_at}
use Rattle.raw_array.specs.promise.Members.{ArrayMembers}
use Rattle.layout_rules.specs.declared.rule.Numbers.{Numbers}
use Rattle.layout_check.specs.declared.marks.Mark.{Mark}
use Rattle.layout_check.specs.declared.runs.Run.{Run}
use Rattle.layout_rules.specs.promise.Layout.{natural, offset_in, data_between, first, end, bytes, data_place, data_length}
use Rattle.layout_rules.specs.promise.Rules.{fault_if, is_outside}

-- the data of the window's items
abbrev pub used_data : Bool → ArrayMembers → List ℕ
used_data wide a = data_between wide a (first a) (end a)

-- an index behind a place, valid or not, that is no place of a dictionary of this many items
abbrev pub outside_in : ℕ → Bool → List ℕ → ℕ → ℤ → ℕ → Option Numbers
outside_in width signed stored start total i =
    let index = meant width signed (number_at stored ((start + i) * width) width) in
    fault_if (is_outside total index) i index total

-- each of the first n offsets behind a place, counted from a base on, is at a border of two characters of a text
pub record AreBorders (wide : Bool) (offsets : List ℕ) (start base : ℕ) (text : List ℕ) (n : ℕ) : Type 0 where
  pub at : (k : ℕ) → k < n → IsCharBoundary text (natural (offset_in wide offsets (start + k)) - base)

-- a data buffer as far as its length goes
abbrev pub sized_data : ArrayMembers → ℕ → List ℕ
sized_data own k = take (data_length own k) (bytes own (data_place k))

-- the first n data buffers are text
pub record AreTexts (own : ArrayMembers) (n : ℕ) : Type 0 where
  pub at : (k : ℕ) → k < n → IsUtf8 (sized_data own k)

-- ---- views, where a data buffer isn't text

-- some bytes are text from one place to another
pub record IsRun (bytes : List ℕ) (run : Run) : Type 0 where
  pub order : run.from ≤ run.to
  pub within : run.to ≤ length bytes
  pub text : IsUtf8 (take (run.to - run.from) (drop run.from bytes))

-- what a table of texts has behind its last one: the empty text of a data buffer that isn't there
abbrev pub no_mark : Mark
no_mark = record { buffer = 18446744073709551615; run = record { from = 0; to = 0 } }

-- each text of a table is one of its data buffer
pub record AreMarks (own : ArrayMembers) (marks : List Mark) : Type 0 where
  pub at : (j : ℕ) → j < length marks → IsRun (sized_data own (get_or marks j no_mark).buffer) (get_or marks j no_mark).run

-- each text of a table that is said to be of this data buffer is one of it
pub record MarksIn (bytes : List ℕ) (k : ℕ) (marks : List Mark) : Type 0 where
  pub at : (j : ℕ) → j < length marks → (get_or marks j no_mark).buffer ≡ k → IsRun bytes (get_or marks j no_mark).run
