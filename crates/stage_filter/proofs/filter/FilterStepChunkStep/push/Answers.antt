use Rattle.std.proofs.Common.{◌≡◌, ◌≤◌, ◌*◌, ◌∙◌, map, List, refl, sym, ap, subst, arith}
use Rattle.std.proofs.Math.Nat.{mul-le-mul_right}
use Rattle.data_types.specs.ColumnView.{column_of}
use Rattle.data_types.specs.declared.kind.ColumnType.{ColumnType}
use Rattle.data_types.specs.promise.ColumnKinds.{type_of_columns}
use Rattle.unit_pass.specs.promise.Tally.{risen}
use Rattle.raw_array.specs.promise.Members.{Cost}
use Rattle.stage_model.specs.promise.Traffic.{Moved, table_nodes}
use Rattle.stage_model.specs.Traffic.{table_blocks}
use Rattle.stage_filter.specs.Filters.{CanFilter, passing_rows}
use Rattle.stage_filter.specs.Plain.{most_of_columns}
use Rattle.stage_filter.proofs.Filtered.{filter-gives, ready, ready-like, same, same-chunk}
use Rattle.stage_filter.proofs.LikeChunks.{LikeLaws}
use Rattle.stage_filter.proofs.filter.FilterStepChunkStep.push.Goals as goal

pub filtered-requires-clause-typed : goal.filtered-requires-clause-typed
filtered-requires-clause-typed g c = λ _ _.
    let s = c.args.self.now in
    let next = c.requires.next in
    next.5.typed_is ∙ ap type_of_columns (sym (same s.column s.out next.0 next.3))
    ∙ ap (λ (cs : List ColumnType). type_of_columns (map column_of cs)) (sym c.as_slice-columns.ensures)

pub filtered-requires-clause-chunk : goal.filtered-requires-clause-chunk
filtered-requires-clause-chunk g c = λ _ _.
    let s = c.args.self.now in
    let next = c.requires.next in
    subst (λ (cs : List ColumnType). CanFilter s.column (map column_of cs) c.args.chunk) (sym c.as_slice-columns.ensures)
    (ready s.column s.out next.0 next.1 next.2 _ c.args.chunk next.5 next.3).can

pub filtered-requires-clause-units : goal.filtered-requires-clause-units
filtered-requires-clause-units g c = λ _ _.
    let s = c.args.self.now in
    let next = c.requires.next in
    let is = ready s.column s.out next.0 next.1 next.2 _ c.args.chunk next.5 next.3 in
    let most = ap (λ (cs : List ColumnType). most_of_columns (map column_of cs)) c.as_slice-columns.ensures in
    omega (arith, most, is.most, is.small, c.requires.room)

pub filtered-requires-clause-shares : goal.filtered-requires-clause-shares
filtered-requires-clause-shares g c = λ _ _.
    let s = c.args.self.now in
    let cost = Cost c.args.chunk in
    let all : s.workers.count * cost ≤ 64 * cost = mul-le-mul_right cost s.workers.few in
    omega (arith, all, c.requires.next.5.is.small, c.requires.room)

pub returns-in-Ok-clause-pushed : goal.returns-in-Ok-clause-pushed
returns-in-Ok-clause-pushed g c = λ before rows more fits _ next.
    let s = c.args.self.now in
    let chunk = c.args.chunk in
    let columns = map column_of s.out in
    let own : c.as_slice-columns.result.now ≡ s.out = c.as_slice-columns.ensures in
    let left = c.in-Ok.ensures.tree.0 in
    let tree = same-chunk s.column s.test s.constant (map column_of c.as_slice-columns.result.now) columns left left _ c.in-Ok.made
    (ap (map column_of) own) refl refl c.in-Ok.ensures.tree.2 in
    let alike = c.like_trees_are_the_same.ensures in
    let laws : LikeLaws = record { values = alike.values; chunk = alike.chunk; rows = alike.rows; cost = alike.cost } in
    let law = c.kept_rows_make_a_chunk.ensures in
    let first = c.args.pass.now in
    let last = c.filtered.new.pass in
    let is = ready s.column s.out before rows more _ chunk next fits in
    let blocks : last.blocks ≡ risen first.blocks (table_blocks Moved columns (passing_rows s.column s.test s.constant columns chunk)) =
    c.in-Ok.ensures.blocks
    ∙ (λ i. risen first.blocks (table_blocks Moved (map column_of (own i)) (passing_rows s.column s.test s.constant (map column_of (own i)) chunk))) in
    let nodes : last.nodes ≡ risen first.nodes (table_nodes Moved columns) =
    c.in-Ok.ensures.nodes ∙ ap (λ (cs : List ColumnType). risen first.nodes (table_nodes Moved (map column_of cs))) own in
    filter-gives law.chunk law.rows law.full c.chunks_are_small.ensures c.lawful_trees.ensures.root s.column s.test s.constant columns chunk left
    c.in-Ok.made rows more first last is (ready-like laws s.column columns rows chunk left c.in-Ok.ensures.tree.1 is) tree blocks nodes
