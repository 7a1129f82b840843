use Rattle.std.proofs.Common.{◌≡◌, ◌∙◌, ◌≤◌, ◌^◌, ℕ, List, map, length, sym, ap, subst, arith}
use Rattle.data_types.specs.ColumnView.{column_of}
use Rattle.data_types.specs.promise.Table.{Row}
use Rattle.tree_model.specs.promise.TreeParts.{children_of}
use Rattle.unit_pass.specs.promise.Tally.{risen}
use Rattle.data_types.specs.promise.ColumnKinds.{type_of_columns}
use Rattle.data_types.specs.promise.KindTrees.{KindTree}
use Rattle.layout_rules.specs.promise.Values.{rows_of}
use Rattle.arr_import.specs.Window.{IsStruct}
use Rattle.stage_model.specs.promise.Stages.{rows_after}
use Rattle.stage_model.specs.promise.Traffic.{Moved}
use Rattle.stage_model.specs.Traffic.{table_blocks}
use Rattle.stage_model.specs.declared.stage.Step.TheVariants as steps
use Rattle.stage_filter.specs.Filters.{passing_numbers}
use Rattle.stage_filter.proofs.LikeChunks.{LikeLaws, can-like}
use Rattle.stage_filter.proofs.Passing.{passing}
use Rattle.column_fill.proofs.Counts.{kids-long}
use Rattle.stage_filter.proofs.chunk.filtered.Goals as goal

pub kept_by_workers-requires-clause-column : goal.kept_by_workers-requires-clause-column
kept_by_workers-requires-clause-column g c = λ _ _.
    let types = ap (λ (t : KindTree). length (children_of t)) c.requires.typed in
    record {
      struct = subst IsStruct (sym c.requires.typed) tt;
      within = omega (arith, types, kids-long (map column_of c.args.columns.now), c.requires.chunk.within);
      few = subst (λ (t : KindTree). length (rows_of t c.args.chunk) ≤ 2 ^ 30) (sym c.requires.typed) c.requires.chunk.few;
    }

pub filtered_struct-requires-clause-rows : goal.filtered_struct-requires-clause-rows
filtered_struct-requires-clause-rows g c =
    let columns = map column_of c.args.columns.now in
    let asked = c.args.asked in
    let left = c.kept_by_workers.new.chunk in
    let same = c.like_trees_are_the_same.ensures in
    let laws : LikeLaws = record { values = same.values; chunk = same.chunk; rows = same.rows; cost = same.cost } in
    let can = can-like laws asked.column columns c.args.chunk left c.kept_by_workers.ensures.like c.requires.chunk in
    let kept : c.as_slice.result.now ≡ passing_numbers asked.column asked.test asked.constant.now (type_of_columns columns) left =
    c.as_slice.ensures.value ∙ c.in-Ok.ensures.kept
    ∙ ap (λ (t : KindTree). passing_numbers asked.column asked.test asked.constant.now t left) c.requires.typed in
    (passing c.lawful_trees.ensures.root asked.column asked.test asked.constant.now columns left c.as_slice.result.now can kept).can

pub returns-in-Ok-filtered_struct-clause-blocks : goal.returns-in-Ok-filtered_struct-clause-blocks
returns-in-Ok-filtered_struct-clause-blocks g c =
    let columns = map column_of c.args.columns.now in
    let asked = c.args.asked in
    let left = c.kept_by_workers.new.chunk in
    let same = c.like_trees_are_the_same.ensures in
    let laws : LikeLaws = record { values = same.values; chunk = same.chunk; rows = same.rows; cost = same.cost } in
    let like = c.kept_by_workers.ensures.like in
    let can = can-like laws asked.column columns c.args.chunk left like c.requires.chunk in
    let kept : c.as_slice.result.now ≡ passing_numbers asked.column asked.test asked.constant.now (type_of_columns columns) left =
    c.as_slice.ensures.value ∙ c.in-Ok.ensures.kept
    ∙ ap (λ (t : KindTree). passing_numbers asked.column asked.test asked.constant.now t left) c.requires.typed in
    let is = passing c.lawful_trees.ensures.root asked.column asked.test asked.constant.now columns left c.as_slice.result.now can kept in
    let after = λ (rows : List Row). rows_after (steps.Filter asked.column asked.test asked.constant.now) rows in
    let rows = is.rows ∙ ap after (sym (laws.rows (type_of_columns columns) c.args.chunk left like)) in
    c.in-Ok-filtered_struct.ensures.moved.blocks
    ∙ ap (λ (rs : List Row). risen c.kept_by_workers.new.pass.blocks (table_blocks Moved columns rs)) rows
    ∙ ap (λ (n : ℕ). risen n (table_blocks Moved columns (after (rows_of (type_of_columns columns) c.args.chunk)))) c.kept_by_workers.ensures.blocks
