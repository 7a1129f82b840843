-- How many columns, rows and items there are.
use Rattle.std.proofs.Common.{◌≡◌, ◌∙◌, ℕ, zero, suc, List, length, refl, ap}
use Rattle.std.proofs.lemmas.List.{length-map}
use Rattle.data_types.specs.promise.Table.{Column}
use Rattle.tree_model.specs.promise.TreeParts.{children_of}
use Rattle.tree_model.proofs.Lists.{tree_list-trees}
use Rattle.raw_array.specs.promise.Members.{ArrayTree}
use Rattle.data_types.specs.promise.ColumnKinds.{type_of_columns}
use Rattle.data_types.specs.ColumnKinds.{type_of_column, types_of_columns}
use Rattle.data_types.specs.promise.KindTrees.{KindTree}
use Rattle.layout_rules.specs.promise.Values.{each, row_items, rows_of, tree_items}

pub length-each : {X : Type 0} (f : ℕ → X) (from n : ℕ) → length (each f from n) ≡ n
length-each f from zero = refl
length-each f from (suc n) = ap suc (length-each f (suc from) n)

-- the rows of a chunk are its items
pub count-is : (typed : KindTree) (chunk : ArrayTree) → length (rows_of typed chunk) ≡ tree_items chunk
count-is typed chunk = length-each (row_items typed chunk) 0 (tree_items chunk)

-- the children of a struct of columns are the columns
pub kids-long : (columns : List Column) → length (children_of (type_of_columns columns)) ≡ length columns
kids-long columns = ap length (tree_list-trees (types_of_columns columns)) ∙ length-map columns type_of_column
