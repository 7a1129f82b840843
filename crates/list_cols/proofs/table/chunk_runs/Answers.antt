use Rattle.std.proofs.Common.{◌≡◌, List, subst, arith}
use Rattle.std.specs.Prelude.{IfOk}
use Rattle.column_fill.specs.declared.runs.Run.{Run}
use Rattle.list_cols.specs.Listed.{list_runs}
use Rattle.list_cols.proofs.table.chunk_runs.Goals as goal

pub list_runs-requires : goal.list_runs-requires
list_runs-requires c =
    let root = c.lawful_root.ensures in
    omega (arith, root.end, root.items, c.first_of.ensures, c.list_column-lists.ensures.count)

pub returns : goal.returns
returns c =
    let lists = c.list_column-lists.ensures in
    subst (λ (rs : List Run). IfOk c.list_runs.result (λ runs. runs.items ≡ rs)) (λ j. list_runs (c.first_of.ensures j) (lists.lists j) (lists.count j))
    c.list_runs.ensures
