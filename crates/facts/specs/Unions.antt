-- Small unions with their kinds.
use Rattle.std.specs.Prelude.{ℕ, ℤ, pos, Bool, true, false, codes, List, [], ◌∷◌, Option, Some, None}
use Rattle.data_types.specs.declared.kind.DataType.TheVariants as kinds
use Rattle.data_types.specs.promise.Value.{Value}
use Rattle.tree_model.specs.promise.TreeData.{Live, trees, absent}
use Rattle.raw_array.specs.promise.Members.{ArrayTree, Buffer, members_of}
use Rattle.layout_rules.specs.promise.Layout.{items}
use Rattle.layout_rules.specs.promise.Values.{each}
use Rattle.facts.specs.Arrays.{flat, int32, buffer, members, leaf}
use Rattle.facts.specs.Standard.{words}
use Rattle.data_types.specs.ColumnKinds.{table_type}
use Rattle.data_types.specs.promise.KindTrees.{KindTree}
use Rattle.union_cols.specs.promise.Unions.{UnionItem, UnionTree, union_value}
use Rattle.union_cols.specs.promise.UnionRules.{Rule}
use Rattle.union_cols.specs.UnionRules.{UnionFound}

-- numbers with the id 5, and bytes with the id 7
abbrev pub numbers_and_bytes : Bool → UnionTree
numbers_and_bytes dense = record { dense = dense; ids = 5 ∷ 7 ∷ []; kids = flat int32 ∷ flat (kinds.Binary false) ∷ [] }

-- a union with these buffers over two children
abbrev pub over_two : ℤ → ℤ → List (Option Buffer) → ArrayTree → ArrayTree → ArrayTree
over_two length offset buffers one two = Live (members length (pos 0) offset buffers) (trees (one ∷ two ∷ [])) absent

-- the numbers 10 and 11
abbrev pub two_numbers : ArrayTree
two_numbers = leaf (pos 2) (pos 0) (pos 0) (None ∷ buffer (10 ∷ 0 ∷ 0 ∷ 0 ∷ 11 ∷ 0 ∷ 0 ∷ 0 ∷ []) ∷ [])

-- the bytes `hi`
abbrev pub one_binary : ArrayTree
one_binary = leaf (pos 1) (pos 0) (pos 0) (None ∷ buffer (0 ∷ 0 ∷ 0 ∷ 0 ∷ 2 ∷ 0 ∷ 0 ∷ 0 ∷ []) ∷ buffer (104 ∷ 105 ∷ []) ∷ [])

-- no bytes, and `hi`
abbrev pub some_binaries : ArrayTree
some_binaries =
    leaf (pos 2) (pos 0) (pos 0)
    (None ∷ buffer (0 ∷ 0 ∷ 0 ∷ 0 ∷ 0 ∷ 0 ∷ 0 ∷ 0 ∷ 2 ∷ 0 ∷ 0 ∷ 0 ∷ []) ∷ buffer (104 ∷ 105 ∷ []) ∷ [])

-- the offsets 0, 0 and 1
abbrev pub starts : Option Buffer
starts = buffer (0 ∷ 0 ∷ 0 ∷ 0 ∷ 0 ∷ 0 ∷ 0 ∷ 0 ∷ 1 ∷ 0 ∷ 0 ∷ 0 ∷ [])

-- three items with these ids, in two children
abbrev pub dense_union : List ℕ → ArrayTree
dense_union ids = over_two (pos 3) (pos 0) (buffer ids ∷ starts ∷ []) two_numbers one_binary

-- its last two items
abbrev pub dense_window : ArrayTree
dense_window = over_two (pos 2) (pos 1) (buffer (0xff ∷ 7 ∷ 5 ∷ []) ∷ starts ∷ []) two_numbers one_binary

-- one item, behind one with an id that no child has
abbrev pub sparse_window : ArrayTree
sparse_window = over_two (pos 1) (pos 1) (buffer (0xff ∷ 7 ∷ []) ∷ []) two_numbers some_binaries

abbrev pub values_of_union : UnionTree → ArrayTree → List Value
values_of_union u array = each (union_value u array) 0 (items (members_of array))

abbrev pub found : Rule → ℕ → ℤ → ℤ → Option UnionFound
found rule place left right = Some (record { rule = rule; numbers = record { place = place; left = left; right = right } })

-- ---- columns that are tagged

-- numbers beside bytes
abbrev pub number_and_bytes : KindTree
number_and_bytes = table_type (flat int32 ∷ flat (kinds.Binary false) ∷ [])

-- the numbers 1, null, null and 4, and the bytes `a`, `b`, null and `d`, of which the last three rows are the window
abbrev pub numbers_beside_bytes : ArrayTree
numbers_beside_bytes =
    Live (members (pos 3) (pos 0) (pos 1) (None ∷ [])) (trees (
    leaf (pos 4) (pos 2) (pos 0)
    (buffer (9 ∷ []) ∷ buffer (1 ∷ 0 ∷ 0 ∷ 0 ∷ 0 ∷ 0 ∷ 0 ∷ 0 ∷ 0 ∷ 0 ∷ 0 ∷ 0 ∷ 4 ∷ 0 ∷ 0 ∷ 0 ∷ []) ∷ [])
    ∷ leaf (pos 4) (pos 1) (pos 0)
    (buffer (11 ∷ []) ∷ buffer (0 ∷ 0 ∷ 0 ∷ 0 ∷ 1 ∷ 0 ∷ 0 ∷ 0 ∷ 2 ∷ 0 ∷ 0 ∷ 0 ∷ 2 ∷ 0 ∷ 0 ∷ 0 ∷ 3 ∷ 0 ∷ 0 ∷ 0 ∷ []) ∷ buffer (97 ∷ 98 ∷ 100 ∷ []) ∷ [])
    ∷ []
    )) absent

abbrev pub shown : ℕ → Value → UnionItem
shown id value = record { id = pos id; value = value }

-- ---- the unions of "Arrow Columnar Format"

-- floats of 32 bits with the id 0, and numbers with the id 1
abbrev pub float_and_number : UnionTree
float_and_number = record { dense = true; ids = 0 ∷ 1 ∷ []; kids = flat (kinds.Float 32) ∷ flat int32 ∷ [] }

-- {f=1.2}, null, {f=3.4}, {i=5} ("Dense Union")
abbrev pub dense_floats : ArrayTree
dense_floats =
    over_two (pos 4) (pos 0)
    (buffer (0 ∷ 0 ∷ 0 ∷ 1 ∷ []) ∷ buffer (0 ∷ 0 ∷ 0 ∷ 0 ∷ 1 ∷ 0 ∷ 0 ∷ 0 ∷ 2 ∷ 0 ∷ 0 ∷ 0 ∷ 0 ∷ 0 ∷ 0 ∷ 0 ∷ []) ∷ [])
    (leaf (pos 3) (pos 1) (pos 0)
    (buffer (5 ∷ []) ∷ buffer (0x9a ∷ 0x99 ∷ 0x99 ∷ 0x3f ∷ 9 ∷ 9 ∷ 9 ∷ 9 ∷ 0x9a ∷ 0x99 ∷ 0x59 ∷ 0x40 ∷ []) ∷ []))
    (leaf (pos 1) (pos 0) (pos 0) (None ∷ buffer (5 ∷ 0 ∷ 0 ∷ 0 ∷ []) ∷ []))

-- numbers, floats and bytes with the ids 0, 1 and 2
abbrev pub number_float_text : UnionTree
number_float_text = record { dense = false; ids = 0 ∷ 1 ∷ 2 ∷ []; kids = flat int32 ∷ flat (kinds.Float 32) ∷ flat (kinds.Binary false) ∷ [] }

-- {i=5}, {f=1.2}, {s='joe'}, {f=3.4}, {i=4}, {s='mark'} ("Sparse Union")
abbrev pub sparse_items : ArrayTree
sparse_items =
    Live (members (pos 6) (pos 0) (pos 0) (buffer (0 ∷ 1 ∷ 2 ∷ 1 ∷ 0 ∷ 2 ∷ []) ∷ [])) (trees (
    leaf (pos 6) (pos 4) (pos 0)
    (buffer (0x11 ∷ []) ∷ buffer (5 ∷ 0 ∷ 0 ∷ 0 ∷ 9 ∷ 9 ∷ 9 ∷ 9 ∷ 9 ∷ 9 ∷ 9 ∷ 9 ∷ 9 ∷ 9 ∷ 9 ∷ 9 ∷ 4 ∷ 0 ∷ 0 ∷ 0 ∷ 9 ∷ 9 ∷ 9 ∷ 9 ∷ []) ∷ [])
    ∷ leaf (pos 6) (pos 4) (pos 0)
    (buffer (0x0a ∷ [])
    ∷ buffer (9 ∷ 9 ∷ 9 ∷ 9 ∷ 0x9a ∷ 0x99 ∷ 0x99 ∷ 0x3f ∷ 9 ∷ 9 ∷ 9 ∷ 9 ∷ 0x9a ∷ 0x99 ∷ 0x59 ∷ 0x40 ∷ 9 ∷ 9 ∷ 9 ∷ 9 ∷ 9 ∷ 9 ∷ 9 ∷ 9 ∷ []) ∷ [])
    ∷ leaf (pos 6) (pos 4) (pos 0) (buffer (0x24 ∷ []) ∷ buffer (words (0 ∷ 0 ∷ 0 ∷ 3 ∷ 3 ∷ 3 ∷ 7 ∷ [])) ∷ buffer (codes "joemark") ∷ [])
    ∷ []
    )) absent
