-- Rows with lists, and rows to be grouped.
use Rattle.std.specs.Prelude.{ℕ, pos, true, false, List, [], ◌∷◌, codes}
use Rattle.data_types.specs.declared.kind.DataType.TheVariants as kinds
use Rattle.data_types.specs.promise.KindTrees.{KindTree}
use Rattle.data_types.specs.promise.Table.{Row}
use Rattle.data_types.specs.promise.Value.{Value, Null, Whole, Bytes, Items, values}
use Rattle.tree_model.specs.promise.TreeData.{Live, trees, absent, no_trees}

abbrev pub text : List ℕ → Value
text bytes = Bytes bytes

-- x with 1 and a null, y with a null list, z with an empty list, and w with 2
abbrev pub keyed_lists : List Row
keyed_lists =
    (text (codes "x") ∷ Items (values (Whole (pos 1) ∷ Null ∷ [])) ∷ []) ∷ (text (codes "y") ∷ Null ∷ []) ∷ (text (codes "z") ∷ Items (values []) ∷ [])
    ∷ (text (codes "w") ∷ Items (values (Whole (pos 2) ∷ [])) ∷ []) ∷ []

-- x with 1, y with a null, and x with 3
abbrev pub keyed : List Row
keyed = (text (codes "x") ∷ Whole (pos 1) ∷ []) ∷ (text (codes "y") ∷ Null ∷ []) ∷ (text (codes "x") ∷ Whole (pos 3) ∷ []) ∷ []

abbrev pub flat_types : List KindTree
flat_types = Live (kinds.Utf8 false) no_trees absent ∷ Live (kinds.Int 32 true) no_trees absent ∷ []

abbrev pub list_types : List KindTree
list_types = Live (kinds.Utf8 false) no_trees absent ∷ Live (kinds.List false) (trees (Live (kinds.Int 32 true) no_trees absent ∷ [])) absent ∷ []
