-- Small arrays with their types.
use Rattle.std.specs.Prelude.{ℕ, ◌^◌, ℤ, pos, negsuc, true, false, List, [], ◌∷◌, Option, Some, None}
use Rattle.data_types.specs.declared.kind.DataType.{DataType}
use Rattle.data_types.specs.declared.kind.DataType.TheVariants as kinds
use Rattle.tree_model.specs.promise.TreeData.{Live, no_trees, more_trees, absent, present}
use Rattle.raw_array.specs.declared.array.ReleaseKind.TheVariants.{Exported}
use Rattle.raw_array.specs.promise.Members.{ArrayTree, ArrayMembers, Buffer}
use Rattle.layout_rules.specs.declared.rule.LayoutRule.{LayoutRule}
use Rattle.data_types.specs.promise.KindTrees.{KindTree}
use Rattle.data_types.specs.promise.Ways.{Steps}
use Rattle.layout_rules.specs.promise.Walk.{Fault}

abbrev pub faulty : Steps → LayoutRule → ℕ → ℤ → ℤ → Option Fault
faulty path rule place left right = Some (record { path = path; rule = rule; numbers = record { place = place; left = left; right = right } })

-- ---- types

abbrev pub flat : DataType → KindTree
flat kind = Live kind no_trees absent

abbrev pub int32 : DataType
int32 = kinds.Int 32 true

abbrev pub text : DataType
text = kinds.Utf8 false

-- a struct of one column
abbrev pub row_of : DataType → KindTree
row_of kind = Live kinds.Struct (more_trees (flat kind) no_trees) absent

-- binaries behind indices of 32 bits
abbrev pub coded : KindTree
coded = Live int32 no_trees (present (flat (kinds.Binary false)))

-- ---- arrays

abbrev pub buffer : List ℕ → Option Buffer
buffer bytes = Some (record { bytes = bytes; amount = 2 ^ 32 })

abbrev pub members : ℤ → ℤ → ℤ → List (Option Buffer) → ArrayMembers
members length nulls offset buffers = record { length = length; null_count = nulls; offset = offset; buffers = buffers; kind = Exported }

-- an array without children and dictionary
abbrev pub leaf : ℤ → ℤ → ℤ → List (Option Buffer) → ArrayTree
leaf length nulls offset buffers = Live (members length nulls offset buffers) no_trees absent

-- a struct with one child
abbrev pub over : ℤ → ℤ → ArrayTree → ArrayTree
over length offset child = Live (members length (pos 0) offset (None ∷ [])) (more_trees child no_trees) absent

-- the numbers 0, 0, 7, 8 and -1 behind validity bits, of which the last three are the window
abbrev pub last_three : ArrayTree
last_three =
    leaf (pos 3) (pos 1) (pos 2)
    (buffer (0x16 ∷ []) ∷ buffer (0 ∷ 0 ∷ 0 ∷ 0 ∷ 0 ∷ 0 ∷ 0 ∷ 0 ∷ 7 ∷ 0 ∷ 0 ∷ 0 ∷ 8 ∷ 0 ∷ 0 ∷ 0 ∷ 255 ∷ 255 ∷ 255 ∷ 255 ∷ []) ∷ [])

-- a window over a column that is itself a window over the numbers 9, 10, 20 and 30
abbrev pub window_over_window : ArrayTree
window_over_window =
    over (pos 2) (pos 1)
    (leaf (pos 3) (pos 0) (pos 1) (None ∷ buffer (9 ∷ 0 ∷ 0 ∷ 0 ∷ 10 ∷ 0 ∷ 0 ∷ 0 ∷ 20 ∷ 0 ∷ 0 ∷ 0 ∷ 30 ∷ 0 ∷ 0 ∷ 0 ∷ []) ∷ []))

abbrev pub no_text : ArrayTree
no_text = leaf (pos 0) (pos 0) (pos 0) (None ∷ None ∷ None ∷ [])

-- the offsets 0, 3 and 2
abbrev pub falling_text : ArrayTree
falling_text = leaf (pos 2) (negsuc 0) (pos 0) (None ∷ buffer (0 ∷ 0 ∷ 0 ∷ 0 ∷ 3 ∷ 0 ∷ 0 ∷ 0 ∷ 2 ∷ 0 ∷ 0 ∷ 0 ∷ []) ∷ buffer (97 ∷ 98 ∷ 99 ∷ []) ∷ [])

abbrev pub two_binaries : ArrayTree
two_binaries = leaf (pos 2) (pos 0) (pos 0) (None ∷ buffer (0 ∷ 0 ∷ 0 ∷ 0 ∷ 1 ∷ 0 ∷ 0 ∷ 0 ∷ 2 ∷ 0 ∷ 0 ∷ 0 ∷ []) ∷ buffer (120 ∷ 121 ∷ []) ∷ [])

-- one index into them
abbrev pub index : Option Buffer → ℤ → ℕ → ArrayTree
index validity nulls k = Live (members (pos 1) nulls (pos 0) (validity ∷ buffer (k ∷ 0 ∷ 0 ∷ 0 ∷ []) ∷ [])) no_trees (present two_binaries)

-- three numbers of four bytes in eight
abbrev pub short_numbers : ArrayTree
short_numbers = leaf (pos 3) (pos 0) (pos 0) (None ∷ buffer (0 ∷ 0 ∷ 0 ∷ 0 ∷ 0 ∷ 0 ∷ 0 ∷ 0 ∷ []) ∷ [])

-- two rows over one number
abbrev pub short_column : ArrayTree
short_column = over (pos 2) (pos 0) (leaf (pos 1) (pos 0) (pos 0) (None ∷ buffer (0 ∷ 0 ∷ 0 ∷ 0 ∷ []) ∷ []))

-- one null behind 2^40 places
abbrev pub far_null : ArrayTree
far_null = leaf (pos 1) (pos 0) (pos (2 ^ 40)) []
