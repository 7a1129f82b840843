-- Small run-end encoded arrays with their kinds.
use Rattle.std.specs.Prelude.{ℕ, ℤ, pos, true, [], ◌∷◌, Option, Some, None}
use Rattle.data_types.specs.declared.kind.DataType.TheVariants as kinds
use Rattle.tree_model.specs.promise.TreeData.{Live, trees, absent}
use Rattle.raw_array.specs.promise.Members.{ArrayTree}
use Rattle.facts.specs.Arrays.{flat, int32, text, buffer, members, leaf}
use Rattle.run_ends.specs.promise.Runs.{RunTree}
use Rattle.run_ends.specs.promise.RunRules.{Rule}
use Rattle.run_ends.specs.RunRules.{RunsFound}

-- texts behind ends of 32 bits, and of 64
abbrev pub short_runs : RunTree
short_runs = record { ends = flat int32; values = flat text }

abbrev pub long_runs : RunTree
long_runs = record { ends = flat (kinds.Int 64 true); values = flat text }

-- an array over its ends and its values
abbrev pub over_two : ℤ → ℤ → ArrayTree → ArrayTree → ArrayTree
over_two length offset ends values = Live (members length (pos 0) offset []) (trees (ends ∷ values ∷ [])) absent

-- two ends of 32 bits below 256
abbrev pub two_ends : ℕ → ℕ → ArrayTree
two_ends one two = leaf (pos 2) (pos 0) (pos 0) (None ∷ buffer (one ∷ 0 ∷ 0 ∷ 0 ∷ two ∷ 0 ∷ 0 ∷ 0 ∷ []) ∷ [])

-- the ends 2 and 4, of which the second is null
abbrev pub null_second : ArrayTree
null_second = leaf (pos 2) (pos 1) (pos 0) (buffer (1 ∷ []) ∷ buffer (2 ∷ 0 ∷ 0 ∷ 0 ∷ 4 ∷ 0 ∷ 0 ∷ 0 ∷ []) ∷ [])

-- the second and the third of the ends 1, 2 and 4
abbrev pub last_ends : ArrayTree
last_ends = leaf (pos 2) (pos 0) (pos 1) (None ∷ buffer (1 ∷ 0 ∷ 0 ∷ 0 ∷ 2 ∷ 0 ∷ 0 ∷ 0 ∷ 4 ∷ 0 ∷ 0 ∷ 0 ∷ []) ∷ [])

-- the end 2^63 - 1
abbrev pub far_end : ArrayTree
far_end = leaf (pos 1) (pos 0) (pos 0) (None ∷ buffer (255 ∷ 255 ∷ 255 ∷ 255 ∷ 255 ∷ 255 ∷ 255 ∷ 127 ∷ []) ∷ [])

-- the texts `a` and `b`
abbrev pub two_texts : ArrayTree
two_texts = leaf (pos 2) (pos 0) (pos 0) (None ∷ buffer (0 ∷ 0 ∷ 0 ∷ 0 ∷ 1 ∷ 0 ∷ 0 ∷ 0 ∷ 2 ∷ 0 ∷ 0 ∷ 0 ∷ []) ∷ buffer (97 ∷ 98 ∷ []) ∷ [])

-- the text `a`
abbrev pub one_text : ArrayTree
one_text = leaf (pos 1) (pos 0) (pos 0) (None ∷ buffer (0 ∷ 0 ∷ 0 ∷ 0 ∷ 1 ∷ 0 ∷ 0 ∷ 0 ∷ []) ∷ buffer (97 ∷ []) ∷ [])

-- no ends, and no texts
abbrev pub no_ends : ArrayTree
no_ends = leaf (pos 0) (pos 0) (pos 0) (None ∷ None ∷ [])

abbrev pub no_texts : ArrayTree
no_texts = leaf (pos 0) (pos 0) (pos 0) (None ∷ None ∷ None ∷ [])

abbrev pub found : Rule → ℕ → ℤ → ℤ → Option RunsFound
found rule place left right = Some (record { rule = rule; numbers = record { place = place; left = left; right = right } })

-- ---- the array of "Arrow Columnar Format": 1.0 four times, two nulls, and 2.0

abbrev pub float_runs : RunTree
float_runs = record { ends = flat int32; values = flat (kinds.Float 32) }

abbrev pub floats : ArrayTree
floats =
    over_two (pos 7) (pos 0) (leaf (pos 3) (pos 0) (pos 0) (None ∷ buffer (4 ∷ 0 ∷ 0 ∷ 0 ∷ 6 ∷ 0 ∷ 0 ∷ 0 ∷ 7 ∷ 0 ∷ 0 ∷ 0 ∷ []) ∷ []))
    (leaf (pos 3) (pos 1) (pos 0)
    (buffer (5 ∷ []) ∷ buffer (0 ∷ 0 ∷ 0x80 ∷ 0x3f ∷ 9 ∷ 9 ∷ 9 ∷ 9 ∷ 0 ∷ 0 ∷ 0 ∷ 0x40 ∷ []) ∷ []))
