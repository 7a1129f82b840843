-- How long the text is of the rows of which the lists in a column are spread out, and that of tagged and of grouped rows.
use Rattle.std.specs.Prelude.{ℕ, ◌+◌, ◌-◌, ◌*◌, ◌<◌, List, length, map}
use Rattle.data_types.specs.ValueTexts.{text_limit}
use Rattle.data_types.specs.NumberedTexts.{numbered_line}
use Rattle.data_types.specs.promise.Table.{Row}
use Rattle.data_types.specs.promise.ValueTexts.{lines_text}
use Rattle.list_cols.specs.promise.Nested.{Explode}
use Rattle.tree_top.specs.promise.ForeignAnswer.{row_value}
use Rattle.tree_top.specs.promise.TextOrFault.{Answer, Fault, Text}
use Rattle.tree_top.specs.AnswerParts.{numbered_item}
use Rattle.union_cols.specs.promise.Tags.{tagged_item}

-- an answer is a text, of more bytes than a text may have
abbrev pub IsLong : Answer → Type 0
IsLong (Text text) = text_limit < length text
IsLong (Fault fault) = ⊥

abbrev pub exploded_length : ℕ → List Row → ℕ
exploded_length column rows = length (lines_text (map row_value (Explode column rows)))

-- at most how many bytes the lines have that are made of a row, by the lengths of its text and of its list's, and the number of items
abbrev pub most_lines : ℕ → ℕ → ℕ → ℕ
most_lines row list items = items * (row - list + 1) + (list - (items + 1))

-- the line of a tagged row
abbrev pub tag_line : Row → List ℕ
tag_line row = numbered_line (numbered_item (tagged_item row))
