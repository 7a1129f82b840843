use Rattle.std.proofs.Common.{◌∙◌, ℕ, length, sym, subst}
use Rattle.data_types.specs.promise.TypedView.{typed_of}
use Rattle.list_cols.specs.Faults.{IsNamed}
use Rattle.list_cols.specs.Listed.{listed}
use Rattle.list_cols.proofs.Chunks.{chunk-is, many-rows}
use Rattle.list_cols.proofs.Kids.{level-live}
use Rattle.list_cols.proofs.rows.exploded_rows.Goals as goal

pub returns : goal.returns
returns c =
    let t = c.args.typed.now in
    let array = c.args.array.now in
    let law = c.lawful_trees.ensures in
    let is = chunk-is law.root law.parts law.items c.chunks_are_tables.ensures.chunk (typed_of t) array (level-live t c.kinds_of_typed.ensures) c.requires.chunk in
    let lists = c.list_column.ensures in
    subst (λ (n : ℕ). IsNamed n c.count_listed.result)
    ((λ j. length (listed (lists.lists j) (lists.count j))) ∙ sym (many-rows c.args.column (typed_of t) array is c.requires.inside)) c.count_listed.ensures
