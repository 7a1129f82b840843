-- The arrays of "Arrow Columnar Format" that are written out there, with their kinds: a null has any bytes.
use Rattle.std.specs.Prelude.{ℕ, pos, true, false, List, [], ◌∷◌, ◌++◌, None, codes}
use Rattle.std.specs.List.{flat_map}
use Rattle.data_types.specs.declared.kind.DataType.TheVariants as kinds
use Rattle.tree_model.specs.promise.TreeData.{Live, trees, absent, no_trees, present}
use Rattle.raw_array.specs.promise.Members.{ArrayTree}
use Rattle.data_types.specs.promise.KindTrees.{KindTree}
use Rattle.facts.specs.Arrays.{flat, int32, buffer, members, leaf}

-- numbers of 32 bits below 256
abbrev pub words : List ℕ → List ℕ
words numbers = flat_map (λ n. n ∷ 0 ∷ 0 ∷ 0 ∷ []) numbers

abbrev pub bytes : KindTree
bytes = flat (kinds.Binary false)

-- 1, null, 2, 4, 8 ("Fixed-Size Primitive Layout")
abbrev pub numbers : ArrayTree
numbers = leaf (pos 5) (pos 1) (pos 0) (buffer (0x1d ∷ []) ∷ buffer (words (1 ∷ 99 ∷ 2 ∷ 4 ∷ 8 ∷ [])) ∷ [])

-- joe, null, null, mark ("Variable-size Binary Layout")
abbrev pub names : ArrayTree
names = leaf (pos 4) (pos 2) (pos 0) (buffer (9 ∷ []) ∷ buffer (words (0 ∷ 3 ∷ 3 ∷ 3 ∷ 7 ∷ [])) ∷ buffer (codes "joemark") ∷ [])

-- [12, -7, 25], null, [0, -127, 127, 50], [] ("Variable-size List Layout")
abbrev pub list_kind : KindTree
list_kind = Live (kinds.List false) (trees (flat (kinds.Int 8 true) ∷ [])) absent

abbrev pub lists : ArrayTree
lists =
    Live (members (pos 4) (pos 1) (pos 0) (buffer (0x0d ∷ []) ∷ buffer (words (0 ∷ 3 ∷ 3 ∷ 7 ∷ 7 ∷ [])) ∷ []))
    (trees (leaf (pos 7) (pos 0) (pos 0) (None ∷ buffer (12 ∷ 249 ∷ 25 ∷ 0 ∷ 129 ∷ 127 ∷ 50 ∷ []) ∷ []) ∷ [])) absent

-- [192, 168, 0, 12], null, [192, 168, 0, 25], [192, 168, 0, 1] ("Fixed-Size List Layout")
abbrev pub address_kind : KindTree
address_kind = Live (kinds.FixedList 4) (trees (flat (kinds.Int 8 false) ∷ [])) absent

abbrev pub addresses : ArrayTree
addresses =
    Live (members (pos 4) (pos 1) (pos 0) (buffer (0x0d ∷ []) ∷ []))
    (trees (leaf (pos 16) (pos 0) (pos 0) (None ∷ buffer (192 ∷ 168 ∷ 0 ∷ 12 ∷ 9 ∷ 9 ∷ 9 ∷ 9 ∷ 192 ∷ 168 ∷ 0 ∷ 25 ∷ 192 ∷ 168 ∷ 0 ∷ 1 ∷ []) ∷ []) ∷ [])) absent

-- {joe, 1}, {null, 2}, null, {mark, 4} ("Struct Layout")
abbrev pub person_kind : KindTree
person_kind = Live kinds.Struct (trees (bytes ∷ flat int32 ∷ [])) absent

abbrev pub people : ArrayTree
people =
    Live (members (pos 4) (pos 1) (pos 0) (buffer (0x0b ∷ []) ∷ []))
    (trees (leaf (pos 4) (pos 1) (pos 0) (buffer (0x0d ∷ []) ∷ buffer (words (0 ∷ 3 ∷ 3 ∷ 8 ∷ 12 ∷ [])) ∷ buffer (codes "joealicemark") ∷ [])
    ∷ leaf (pos 4) (pos 1) (pos 0) (buffer (0x0b ∷ []) ∷ buffer (words (1 ∷ 2 ∷ 99 ∷ 4 ∷ [])) ∷ [])
    ∷ [])) absent

-- foo, bar, foo, bar, null, baz by a dictionary ("Dictionary-encoded Layout")
abbrev pub coded_kind : KindTree
coded_kind = Live int32 no_trees (present bytes)

abbrev pub coded_names : ArrayTree
coded_names =
    Live (members (pos 6) (pos 1) (pos 0) (buffer (0x2f ∷ []) ∷ buffer (words (0 ∷ 1 ∷ 0 ∷ 1 ∷ 99 ∷ 2 ∷ [])) ∷ [])) no_trees
    (present (leaf (pos 3) (pos 0) (pos 0) (None ∷ buffer (words (0 ∷ 3 ∷ 6 ∷ 9 ∷ [])) ∷ buffer (codes "foobarbaz") ∷ [])))
