-- A line for each item of a union: its type id, and its value; or the first fault of the union's schema and of its array ("Arrow
-- Columnar Format", "Union Layout").
use Rattle.std.specs.Prelude.{◌≡◌, ℕ, List, map, Result}
use Rattle.layout_rules.specs.promise.Layout.{natural}
use Rattle.raw_array.specs.promise.Members.{ArrayTree}
use Rattle.raw_schema.specs.promise.Members.{SchemaTree}
use Rattle.union_cols.specs.promise.UnionRules.{union_fault}
use Rattle.union_cols.specs.promise.UnionSchemas.{SchemaFound, UnionReads}
use Rattle.union_cols.specs.promise.Unions.{UnionItem, UnionTree, union_items}
use Rattle.data_types.specs.promise.NumberedTexts.{numbered_text}
use Rattle.tree_top.specs.promise.Refusals.{union_fault_told, union_schema_fault}
use Rattle.tree_top.specs.promise.TextOrFault.{Answer, Text, by, unless}
use Rattle.tree_top.specs.declared.fault.TreeRunFault.TheVariants as run

-- the items, each with its type id, which is at least 0 where no rule fails
abbrev pub items_text : List UnionItem → List ℕ
items_text items = numbered_text (map (λ (item : UnionItem). (natural item.id, item.value)) items)

-- the schema is read first, and then no rule of unions may fail
abbrev pub UnionAnswer : SchemaTree → ArrayTree → Answer → Type 0
UnionAnswer schema array answer = (read : Result UnionTree SchemaFound) × UnionReads schema read
    × (answer ≡ by (λ fault. run.UnionSchema (union_schema_fault fault)) read
    (λ u. unless (λ fault. run.Union (union_fault_told fault)) (union_fault u array) (Text (items_text (union_items u array)))))
