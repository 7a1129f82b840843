-- What the schemas of columns cost, column by column.
use Rattle.std.proofs.Common.{◌≡◌, ◌∙◌, ◌+◌, ◌<◌, ◌≤◌, ℕ, zero, suc, List, [], ◌∷◌, ◌++◌, length, map, take, get_or, refl, ap, arith}
use Rattle.std.proofs.lemmas.List.{map-append, take_more}
use Rattle.data_types.specs.ColumnView.{column_of}
use Rattle.data_types.specs.promise.Table.{Kind, Flat, Dict, Columns}
use Rattle.data_types.specs.declared.kind.ColumnType.{ColumnType}
use Rattle.tree_model.specs.promise.TreeData.{trees}
use Rattle.tree_model.specs.Tree.{Depth, depth_of_all}
use Rattle.tree_model.specs.promise.TreeCost.{Nodes}
use Rattle.raw_schema.specs.promise.Members.{SchemaTree}
use Rattle.raw_schema.specs.Members.{nodes_of_all}
use Rattle.schema_check.specs.promise.ColumnSchema.{column_schema}
use Rattle.schema_check.specs.ColumnSchema.{schema_of_column}
use Rattle.arr_export.specs.CodeSchema.{code_schema}

-- the schemas of the columns that the code keeps
pub schemas-mapped : (columns : List ColumnType) → map schema_of_column (map column_of columns) ≡ map code_schema columns
schemas-mapped [] = refl
schemas-mapped (c ∷ cs) = ap (λ ts. code_schema c ∷ ts) (schemas-mapped cs)

pub ruleset mapped = (schemas-mapped)

pub some-nodes : (name : List ℕ) (kind : Kind) → 1 ≤ Nodes (column_schema name kind)
some-nodes name (Flat kind) = omega arith
some-nodes name (Dict kind) = omega arith
some-nodes name (Columns _) = omega arith

-- there are no more columns than nodes
pub few-columns : (columns : List ColumnType) → length columns ≤ nodes_of_all (trees (map code_schema columns))
few-columns [] = omega arith
few-columns (c ∷ cs) = omega (arith, few-columns cs, some-nodes c.name (column_of c).kind)

module _ {A : Type 0} (f : A → SchemaTree) where
  -- the nodes up to a place and of the tree there are among all
  pub nodes-here : (xs : List A) (i : ℕ) (d : A) → i < length xs
      → nodes_of_all (trees (map f (take i xs))) + Nodes (f (get_or xs i d)) ≤ nodes_of_all (trees (map f xs))
  nodes-here [] i d within = absurd (omega arith)
  nodes-here (x ∷ xs) zero d within = omega arith
  nodes-here (x ∷ xs) (suc i) d within = omega (arith, nodes-here xs i d (omega arith))

  pub depth-here : (xs : List A) (i : ℕ) (d : A) → i < length xs → Depth (f (get_or xs i d)) ≤ depth_of_all (trees (map f xs))
  depth-here [] i d within = absurd (omega arith)
  depth-here (x ∷ xs) zero d within = omega arith
  depth-here (x ∷ xs) (suc i) d within = omega (arith, depth-here xs i d (omega arith))

  -- one tree more
  pub map-more : (xs : List A) (i : ℕ) (d : A) → i < length xs → map f (take (i + 1) xs) ≡ map f (take i xs) ++ f (get_or xs i d) ∷ []
  map-more xs i d within = ap (map f) (take_more xs i d within) ∙ map-append f (take i xs) (get_or xs i d ∷ [])
