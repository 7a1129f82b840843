-- What the answers on formats say.
use Rattle.std.specs.Prelude.{ℕ, ◌≤◌, List}
use Rattle.union_cols.specs.declared.format.UnionFormat.{UnionFormat as CodeFormat}
use Rattle.union_cols.specs.declared.format.FormatFault.{FormatFault}
use Rattle.union_cols.specs.declared.format.FormatFault.TheVariants.{At, NoMemory}
use Rattle.union_cols.specs.promise.UnionFormats.{UnionFormat, UnionFormatFault}
use Rattle.union_cols.specs.UnionFormats.{IdsFault}

abbrev pub format_in : CodeFormat → UnionFormat
format_in format = record { dense = format.dense; ids = format.ids.items }

-- the place of the first fault, if it is no out-of-memory
abbrev pub IsFormatFault : List ℕ → FormatFault → Type 0
IsFormatFault text (At place) = UnionFormatFault text place
IsFormatFault text NoMemory = Unit {0}

abbrev pub IsListFault : List ℕ → FormatFault → Type 0
IsListFault list (At place) = IdsFault list place
IsListFault list NoMemory = Unit {0}

abbrev pub IsWithin : ℕ → FormatFault → Type 0
IsWithin most (At place) = place ≤ most
IsWithin most NoMemory = Unit {0}
