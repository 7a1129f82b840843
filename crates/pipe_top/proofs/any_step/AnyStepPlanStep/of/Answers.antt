use Rattle.std.proofs.Common.{◌≡◌, ◌∙◌, ℕ, List, [], ◌∷◌, ap, map, subst, sym}
use Rattle.data_types.specs.ColumnView.{column_of}
use Rattle.data_types.specs.promise.Table.{Row}
use Rattle.data_types.specs.declared.kind.ColumnType.{ColumnType}
use Rattle.raw_array.specs.promise.Members.{ArrayTree}
use Rattle.dict_stage.specs.Indices.{HasColumn}
use Rattle.stage_model.specs.promise.Stages.{chunks_after}
use Rattle.total_stage.specs.Froms.{ahead_from}
use Rattle.pipe_top.proofs.Fitting.{dict-fits, filter-fits, pack-fits, plain-fits, select-fits, totals-fits, unpack-fits}
use Rattle.pipe_top.proofs.any_step.AnyStepPlanStep.of.Goals as goal

pub returns-in-Select-clause-fits : goal.returns-in-Select-clause-fits
returns-in-Select-clause-fits c = λ before over few.
    select-fits c.args.out c.new.result.out before c.args.step c.new.ensures.out (c.stages_fit_their_columns.ensures.within before _ over)
    (c.stages_fit_their_columns.ensures.after before _ over) c.in-Select.picks c.new.result.picks.items (c.new.ensures.picks ∙ c.into_vec.ensures)
    c.in-Select.is (c.picks_are_distinct.ensures before _ over)

pub returns-in-Pack-clause-fits : goal.returns-in-Pack-clause-fits
returns-in-Pack-clause-fits c = λ before over few.
    pack-fits c.args.out c.new-in-Pack.result.out before c.args.step c.new-in-Pack.ensures.out (c.stages_fit_their_columns.ensures.within before _ over)
    (c.stages_fit_their_columns.ensures.after before _ over) c.in-Pack.rest c.in-Pack.picks c.new-in-Pack.result.rest.items
    c.new-in-Pack.result.picks.items (c.new-in-Pack.ensures.rest ∙ c.into_vec-in-Pack.ensures) (c.new-in-Pack.ensures.picks ∙ c.into_vec-in-Pack-2.ensures)
    c.in-Pack.is (c.picks_are_distinct.ensures before _ over) few

pub returns-in-Filter-clause-fits : goal.returns-in-Filter-clause-fits
returns-in-Filter-clause-fits c = λ before over few.
    filter-fits c.args.out c.new-in-Filter.result.out before c.args.step c.new-in-Filter.ensures.out
    (c.stages_fit_their_columns.ensures.within before _ over) (c.stages_fit_their_columns.ensures.after before _ over) c.in-Filter.column
    c.new-in-Filter.result.column c.in-Filter.test c.in-Filter.constant c.new-in-Filter.ensures.column c.in-Filter.is few

pub returns-in-Unpack-clause-fits : goal.returns-in-Unpack-clause-fits
returns-in-Unpack-clause-fits c = λ before over few.
    unpack-fits c.args.out c.new-in-Unpack.result.out before c.args.step c.new-in-Unpack.ensures.out
    (c.stages_fit_their_columns.ensures.within before _ over) (c.stages_fit_their_columns.ensures.after before _ over) c.in-Unpack.column
    c.new-in-Unpack.result.place c.new-in-Unpack.ensures.place c.in-Unpack.is few

pub returns-in-Dict-clause-fits : goal.returns-in-Dict-clause-fits
returns-in-Dict-clause-fits c = λ before over few.
    dict-fits c.args.out c.new-in-Dict.result.out before c.args.step c.new-in-Dict.ensures.out
    (c.stages_fit_their_columns.ensures.within before _ over) (c.stages_fit_their_columns.ensures.after before _ over) c.new-in-Dict.result.dict
    c.in-Dict.column c.new-in-Dict.result.column c.new-in-Dict.ensures.dict c.new-in-Dict.ensures.column c.in-Dict.is few

pub returns-in-Plain-clause-fits : goal.returns-in-Plain-clause-fits
returns-in-Plain-clause-fits c = λ before over few.
    plain-fits c.args.out c.new-in-Plain.result.out before c.args.step c.new-in-Plain.ensures.out
    (c.stages_fit_their_columns.ensures.within before _ over) (c.stages_fit_their_columns.ensures.after before _ over) c.new-in-Plain.result.dict
    c.in-Plain.column c.new-in-Plain.result.column c.new-in-Plain.ensures.dict c.new-in-Plain.ensures.column c.in-Plain.is few

pub returns-in-Totals-clause-fits : goal.returns-in-Totals-clause-fits
returns-in-Totals-clause-fits c = λ before over few.
    totals-fits c.args.out c.new-in-Totals.result.out before c.args.step c.new-in-Totals.ensures.out
    (c.stages_fit_their_columns.ensures.within before _ over) (c.stages_fit_their_columns.ensures.after before _ over) c.in-Totals.columns
    c.new-in-Totals.result.picks.items (c.new-in-Totals.ensures.picks ∙ c.into_vec-in-Totals.ensures) c.in-Totals.is
    (c.stages_keep_columns.ensures.few before _ over)

-- ---- what a chunk has besides its rows

recoded : (column place : ℕ) (out kept : List ColumnType) → place ≡ column → kept ≡ out → (rows : List Row) (chunk : ArrayTree)
    → HasColumn place (map column_of kept) (rows ∷ []) chunk → HasColumn column (map column_of out) (rows ∷ []) chunk
recoded column place out kept same whole rows chunk given =
    subst (λ p. HasColumn p (map column_of out) (rows ∷ []) chunk) same
    (subst (λ (cs : List ColumnType). HasColumn place (map column_of cs) (rows ∷ []) chunk) whole given)

pub returns-in-Dict-clause-gives : goal.returns-in-Dict-clause-gives
returns-in-Dict-clause-gives c = λ rows chunk given.
    rw c.in-Dict.is (recoded c.in-Dict.column c.new-in-Dict.result.column c.args.out c.new-in-Dict.result.out c.new-in-Dict.ensures.column
    c.new-in-Dict.ensures.out rows chunk given)

pub returns-in-Plain-clause-gives : goal.returns-in-Plain-clause-gives
returns-in-Plain-clause-gives c = λ rows chunk given.
    rw c.in-Plain.is (recoded c.in-Plain.column c.new-in-Plain.result.column c.args.out c.new-in-Plain.result.out c.new-in-Plain.ensures.column
    c.new-in-Plain.ensures.out rows chunk given)

pub returns-in-Select-clause-gives : goal.returns-in-Select-clause-gives
returns-in-Select-clause-gives c = λ rows chunk given. rw c.in-Select.is tt

pub returns-in-Slice-clause-gives : goal.returns-in-Slice-clause-gives
returns-in-Slice-clause-gives c = λ rows chunk given. rw c.in-Slice.is tt

pub returns-in-Filter-clause-gives : goal.returns-in-Filter-clause-gives
returns-in-Filter-clause-gives c = λ rows chunk given. rw c.in-Filter.is tt

pub returns-in-Pack-clause-gives : goal.returns-in-Pack-clause-gives
returns-in-Pack-clause-gives c = λ rows chunk given. rw c.in-Pack.is tt

pub returns-in-Unpack-clause-gives : goal.returns-in-Unpack-clause-gives
returns-in-Unpack-clause-gives c = λ rows chunk given. rw c.in-Unpack.is tt

pub returns-in-Totals-clause-gives : goal.returns-in-Totals-clause-gives
returns-in-Totals-clause-gives c = λ rows chunk given. rw c.in-Totals.is tt

pub returns-in-Totals-clause-ahead : goal.returns-in-Totals-clause-ahead
returns-in-Totals-clause-ahead c = λ ending tables.
    (λ j. ahead_from (c.new-in-Totals.ensures.sums j) ((c.new-in-Totals.ensures.picks ∙ c.into_vec-in-Totals.ensures) j)
    (c.new-in-Totals.ensures.given j) ending tables)
    ∙ ap (λ step. chunks_after step ending tables) (sym c.in-Totals.is)
