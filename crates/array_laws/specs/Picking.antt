-- Trees of columns that are picked, packed, unpacked and replaced ("The Arrow C Data Interface", "Moving child arrays"; "Arrow
-- Columnar Format", "Struct Layout").
use Rattle.std.specs.Prelude.{◌<◌, ◌+◌, ℕ, List, [], ◌∷◌, ◌++◌, get_or, length, map, take, drop}
use Rattle.data_types.specs.promise.Parts.{picked, replaced}
use Rattle.tree_model.specs.promise.TreeParts.{IsLive, children_of}
use Rattle.tree_model.specs.promise.TreeData.{Released, Live, absent, trees}
use Rattle.raw_array.specs.promise.Members.{ArrayTree, members_of}
use Rattle.raw_array.specs.Windows.{Window}
use Rattle.data_types.specs.promise.KindTrees.{KindTree}
use Rattle.data_types.specs.ColumnKinds.{table_type}
use Rattle.arr_move.specs.TreeActs.{Columns, cut, struct_members}

-- no type is released
abbrev pub AreLive : List KindTree → Type 0
AreLive types = (p : ℕ) → p < length types → IsLive (get_or types p Released)

-- the columns of a struct, each cut to the items that the struct shows
abbrev pub cut_children : ArrayTree → List ArrayTree
cut_children t = map (λ c. Window c (members_of t).offset (members_of t).length) (children_of t)

-- a struct of these columns, as long as another
abbrev pub struct_like : ArrayTree → List ArrayTree → ArrayTree
struct_like t columns = Live (struct_members (members_of t).length) (trees columns) absent

-- some columns, and behind them a struct of others
abbrev pub Packed : ArrayTree → List ℕ → List ℕ → ArrayTree
Packed t rest picks = struct_like t (map (cut t (members_of t).offset (members_of t).length) rest ++ Columns t picks ∷ [])

abbrev pub packed_types : List ℕ → List ℕ → List KindTree → List KindTree
packed_types rest picks types = picked Released rest types ++ table_type (picked Released picks types) ∷ []

-- the columns of a struct in its place
abbrev pub Unpacked : ArrayTree → ℕ → ArrayTree
Unpacked t place =
    struct_like t (take place (cut_children t) ++ cut_children (get_or (cut_children t) place Released) ++ drop (place + 1) (cut_children t))

abbrev pub unpacked_types : ℕ → List KindTree → List KindTree → List KindTree
unpacked_types place fields types = take place types ++ fields ++ drop (place + 1) types

-- another column in the place of one
abbrev pub Replaced : ArrayTree → ℕ → ArrayTree → ArrayTree
Replaced t place column = struct_like t (replaced place column (cut_children t))
