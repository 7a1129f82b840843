-- The format strings of unions ("The Arrow C Data Interface", "Data type description -- format strings": `+ud:I,J,...` is a dense
-- union with these type ids, `+us:I,J,...` a sparse one).
use Rattle.std.specs.Prelude.{◌⊎◌, ℕ, List, Result, Ok, Err}
use Rattle.union_cols.specs.promise.UnionFormats.{AtId, BehindId, UnionFormat, UnionFormatFault, UnionFormatIs}

-- ---- the place of the first fault

-- the first fault of a list of ids, at a place counted from the list's first byte
abbrev pub IdsFault : List ℕ → ℕ → Type 0
IdsFault list place = AtId list place ⊎ BehindId list place

-- What a text is: the format of a union, or none, by its first fault.
abbrev pub FormatReads : List ℕ → Result UnionFormat ℕ → Type 0
FormatReads text (Ok format) = UnionFormatIs text format
FormatReads text (Err place) = UnionFormatFault text place
