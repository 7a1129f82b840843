use Rattle.std.proofs.Common.{arith, ◌≡◌, ◌∙◌, ◌+◌, [], ◌∷◌, true, List, length, map, ℕ, sym, subst, ap}
use Rattle.std.specs.Prelude.{Bool, None, Some, Vec}
use Rattle.std.specs.Global.{Global}
use Rattle.csv_read.specs.Chunks.{chunk_blocks, chunk_of}
use Rattle.data_types.specs.ColumnView.{column_of}
use Rattle.data_types.specs.Parts.{joined_rows}
use Rattle.data_types.specs.declared.kind.ColumnType.{ColumnType}
use Rattle.unit_pass.specs.promise.Tally.{risen}
use Rattle.stage_model.specs.Stages.{totals_row}
use Rattle.stage_model.specs.promise.Traffic.{made_blocks, made_nodes}
use Rattle.stage_model.specs.declared.stage.Step.TheVariants as steps
use Rattle.stages.specs.Steps.{GivesOut}
use Rattle.total_stage.specs.Froms.{ahead_from, none_begun}
use Rattle.total_stage.specs.Rows.{RowFits}
use Rattle.total_stage.specs.Sums.{AreSums, HaveBegun}
use Rattle.total_stage.specs.declared.numbers.Totals.{Totals}
use Rattle.total_stage.proofs.Giving.{can-fit, few-columns, totals-give}
use Rattle.total_stage.proofs.totals.TotalsStepChunkStep.finish.Goals as goal

pub totals_chunk-requires-clause-few : goal.totals_chunk-requires-clause-few
totals_chunk-requires-clause-few c =
    let s = c.args.self.now in
    let long = ap (length {A = ColumnType}) c.as_slice-2.ensures in
    omega (arith, long, few-columns s.picks.items s.out c.requires.end.0 c.requires.end.1)

pub totals_chunk-requires-clause-units : goal.totals_chunk-requires-clause-units
totals_chunk-requires-clause-units c =
    let s = c.args.self.now in
    let long = ap (length {A = ColumnType}) c.as_slice-2.ensures in
    omega (arith, long, few-columns s.picks.items s.out c.requires.end.0 c.requires.end.1, c.requires.room)

pub totals_chunk-requires-clause-fits : goal.totals_chunk-requires-clause-fits
totals_chunk-requires-clause-fits c =
    let s = c.args.self.now in
    let picks = s.picks.items in
    let can = c.requires.end.3 in
    let rows = joined_rows can.done in
    let held = c.as_slice.result.now in
    let begun = subst (λ (v : Vec Totals Global). HaveBegun v.items held rows) (sym c.replace-sums.ensures.value)
    (subst (λ (ps : List ℕ). HaveBegun s.sums.items ps rows) (sym c.as_slice.ensures.value) can.begun) in
    let sums = subst (λ (ps : List ℕ). AreSums c.begin.new.sums.items ps rows) c.as_slice.ensures.value (c.in_default.ensures rows begun) in (
      picks,
      rows,
      subst (λ (lent : List Totals). AreSums lent picks rows) (sym c.as_slice-3.ensures.value) sums,
      subst (λ (kept : List ColumnType). RowFits (map column_of kept) (totals_row picks rows)) (sym c.as_slice-2.ensures)
          (can-fit picks s.out s.sums.items c.requires.end.0 can c.requires.end.1 c.requires.end.2),
    )

pub returns-in-Ok-clause-finished : goal.returns-in-Ok-clause-finished
returns-in-Ok-clause-finished c = λ before fits columns can.
    let s = c.args.self.now in
    let picks = s.picks.items in
    let rows = joined_rows can.done in
    let row = totals_row picks rows in
    let held = c.as_slice.result.now in
    let begun = subst (λ (v : Vec Totals Global). HaveBegun v.items held rows) (sym c.replace-sums.ensures.value)
    (subst (λ (ps : List ℕ). HaveBegun s.sums.items ps rows) (sym c.as_slice.ensures.value) can.begun) in
    let sums = subst (λ (ps : List ℕ). AreSums c.begin.new.sums.items ps rows) c.as_slice.ensures.value (c.in_default.ensures rows begun) in
    let lent = subst (λ (lent : List Totals). AreSums lent picks rows) (sym c.as_slice-3.ensures.value) sums in
    let same : c.as_slice-2.result.now ≡ s.out = c.as_slice-2.ensures in
    let wide = ap (length {A = ColumnType}) same in
    let made = c.in-Ok.ensures in
    let law = c.chunks_have_their_rows.ensures in
    let first = c.args.pass.now in
    let last = c.totals_chunk.new.pass in
    let after = map column_of s.out in
    let given = totals-give law.chunk law.rows picks s.out s.sums.items before c.in-Ok.made first last can fits columns
    (made.tree picks rows lent ∙ ap (λ (kept : List ColumnType). chunk_of (map column_of kept) (row ∷ [])) same)
    (omega (arith, made.small, wide))
    (made.blocks picks rows lent ∙ ap (λ (kept : List ColumnType). risen first.blocks (chunk_blocks (map column_of kept) (row ∷ []))) same)
    (made.nodes ∙ ap (λ (n : ℕ). risen first.nodes (1 + n)) wide) in
    let told = subst (λ (b : Bool). GivesOut after (made_blocks (Some (steps.Totals picks)) after) (λ rows. made_nodes (Some (steps.Totals picks)) after)
    (λ _ _. Unit {0}) (λ _. ahead_from s.sums.items picks b None []) (λ _. []) true first last c.in-Ok.made) (sym c.if-self.false) given in
    let none : c.replace-sums.new.dest.items ≡ [] = ap (λ (v : Vec Totals Global). v.items) c.replace-sums.ensures.after ∙ c.new.ensures.items in
    subst (λ (left : List Totals). GivesOut after (made_blocks (Some (steps.Totals picks)) after) (λ rows. made_nodes (Some (steps.Totals picks)) after)
    (λ _ _. Unit {0}) (λ _. ahead_from s.sums.items picks s.given None []) (λ _. []) (none_begun left) first last c.in-Ok.made) (sym none) told
