-- What a step of any kind means.
use Rattle.std.specs.Prelude.{ℕ, Bool, true, List, [], ◌∷◌, Option, Some, map}
use Rattle.data_types.specs.ColumnView.{column_of}
use Rattle.data_types.specs.promise.Table.{Column, Row}
use Rattle.data_types.specs.declared.kind.ColumnType.{ColumnType}
use Rattle.data_types.specs.declared.row_fault.RowFault.{RowFault}
use Rattle.raw_array.specs.promise.Members.{ArrayTree}
use Rattle.dict_stage.specs.Indices.{HasColumn}
use Rattle.dict_stage.specs.Recoded.{RecodeFits, recode_step}
use Rattle.stage_filter.specs.Filters.{FilterFits}
use Rattle.stage_kernels.specs.Packs.{PackFits}
use Rattle.stage_kernels.specs.Picks.{PickFits}
use Rattle.stage_kernels.specs.Slices.{SliceFits}
use Rattle.stage_kernels.specs.Unpacks.{UnpackFits}
use Rattle.stage_model.specs.promise.Stages.{chunks_after}
use Rattle.stage_model.specs.promise.Traffic.{made_blocks, made_nodes}
use Rattle.stage_model.specs.declared.stage.Step.{Step}
use Rattle.stage_model.specs.declared.stage.Step.TheVariants as steps
use Rattle.total_stage.specs.Fits.{TotalsFits}
use Rattle.total_stage.specs.Froms.{CanGoOn, ahead_from, none_begun}
use Rattle.pipe_top.specs.declared.any_step.AnyStep.{AnyStep}
use Rattle.pipe_top.specs.declared.any_step.AnyStep.TheVariants as any

-- the step of the plan that it is, with what is left to be done of it
abbrev pub any_step : AnyStep → Step
any_step (any.Select s) = steps.Select s.picks.items
any_step (any.Slice s) = steps.Slice s.skip s.keep
any_step (any.Filter s) = steps.Filter s.column s.test s.constant
any_step (any.Pack s) = steps.Pack s.rest.items s.picks.items
any_step (any.Unpack s) = steps.Unpack s.place
any_step (any.Recode s) = recode_step s.dict s.column
any_step (any.Totals s) = steps.Totals s.picks.items

-- the columns after it
abbrev pub any_columns : AnyStep → List ColumnType
any_columns (any.Select s) = s.out
any_columns (any.Slice s) = s.out
any_columns (any.Filter s) = s.out
any_columns (any.Pack s) = s.out
any_columns (any.Unpack s) = s.out
any_columns (any.Recode s) = s.out
any_columns (any.Totals s) = s.out

-- it is made for these columns
abbrev pub any_fits : AnyStep → List Column → Type 0
any_fits (any.Select s) before = PickFits s.picks.items s.out before
any_fits (any.Slice s) before = SliceFits s.out before
any_fits (any.Filter s) before = FilterFits s.column s.out before
any_fits (any.Pack s) before = PackFits s.rest.items s.picks.items s.out before
any_fits (any.Unpack s) before = UnpackFits s.place s.out before
any_fits (any.Recode s) before = RecodeFits s.dict s.column s.out before
any_fits (any.Totals s) before = TotalsFits s.picks.items s.out before

-- the tables that it still gives
abbrev pub any_ahead : AnyStep → Option RowFault → List (List Row) → List (List Row)
any_ahead (any.Totals s) ending tables = ahead_from s.sums.items s.picks.items s.given ending tables
any_ahead step ending tables = chunks_after (any_step step) ending tables

-- the blocks and nodes that it counts for a chunk that it gives
abbrev pub any_blocks : AnyStep → List Row → ℕ
any_blocks step rows = made_blocks (Some (any_step step)) (map column_of (any_columns step)) rows

abbrev pub any_nodes : AnyStep → List Row → ℕ
any_nodes step rows = made_nodes (Some (any_step step)) (map column_of (any_columns step))

-- what a chunk that it gives has besides its rows
abbrev pub any_gives : AnyStep → List Row → ArrayTree → Type 0
any_gives (any.Recode s) rows chunk = HasColumn s.column (map column_of s.out) (rows ∷ []) chunk
any_gives step rows chunk = Unit {0}

-- the same of the stage of a step of the plan with these columns after it: a dictionary has the distinct values of its chunk's rows, in
-- order of first appearance, and a column without one has its values as they are
abbrev pub plan_besides : Step → List Column → List Row → ArrayTree → Type 0
plan_besides (steps.Dict column) columns rows chunk = HasColumn column columns (rows ∷ []) chunk
plan_besides (steps.Plain column) columns rows chunk = HasColumn column columns (rows ∷ []) chunk
plan_besides step columns rows chunk = Unit {0}

-- only totals hold something of the chunks that they took
abbrev pub any_rests : AnyStep → Bool
any_rests (any.Totals s) = none_begun s.sums.items
any_rests step = true

abbrev pub any_takes : AnyStep → List Column → List (List Row) → Type 0
any_takes (any.Totals s) before tables = CanGoOn s.sums.items s.picks.items before tables
any_takes step before tables = Unit {0}
