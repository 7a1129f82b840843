-- Plans: the columns and the steps of stages, why texts are no stages, and which columns a step takes.
use Rattle.std.specs.Prelude.{◌≡◌, ℕ, ◌<◌, true, List, ◌∷◌, get_or, map, Ok, Err, Bool, not, ◌==◌, Option, is_some}
use Rattle.std.specs.List.{flat_map, list_all, filter, find, list_any, range_with_len}
use Rattle.data_types.specs.promise.Parts.{picked, replaced}
use Rattle.data_types.specs.Parts.{packed_columns, unpacked_columns, AreWithin}
use Rattle.data_types.specs.promise.Table.{Column, Flat, Dict, Columns, Members}
use Rattle.data_types.specs.declared.kind.DataType.{DataType}
use Rattle.stage_model.specs.declared.fault.PlanFault.{PlanFault}
use Rattle.stage_model.specs.declared.stage.StageText.{StageText}
use Rattle.stage_model.specs.declared.stage.Step.{Step}
use Rattle.stage_model.specs.declared.stage.Step.TheVariants as steps
use Rattle.stage_model.specs.promise.Typing.{Stage, column, compares, is_bytes, is_ordered, is_summed, no_column, plan_of, stage_over, totals_columns, RuleTest}
use Rattle.csv_model.specs.promise.Header.{first_twice}

-- ---- a stage, and stages in a row

-- the columns before and after each of these stages, and their steps
abbrev pub plan_links : List Column → List Stage → List (List Column)
plan_links columns stages = columns ∷ map (λ s. s.columns) stages

abbrev pub plan_steps : List Stage → List Step
plan_steps stages = map (λ s. s.step) stages

-- the stage is one that a text gives over these columns
abbrev pub IsStageOver : List Column → Stage → Type 0
IsStageOver columns stage = (text : StageText) × (stage_over columns text ≡ Ok stage)

-- the texts are these stages over the columns
abbrev pub PlanIs : List Column → List StageText → List Stage → Type 0
PlanIs columns stages plan = plan_of columns stages ≡ Ok plan

-- the texts are no stages over the columns, for this fault
abbrev pub PlanFaultIs : List Column → List StageText → PlanFault → Type 0
PlanFaultIs columns stages fault = plan_of columns stages ≡ Err fault

-- ---- numbers of columns

-- the numbers of a step are those of this many columns
abbrev pub FitsColumns : ℕ → Step → Type 0
FitsColumns count (steps.Select picks) = AreWithin count picks
FitsColumns count (steps.Slice off len) = Unit {0}
FitsColumns count (steps.Filter column test constant) = column < count
FitsColumns count (steps.Pack rest picks) = AreWithin count rest × AreWithin count picks
FitsColumns count (steps.Unpack column) = column < count
FitsColumns count (steps.Dict column) = column < count
FitsColumns count (steps.Plain column) = column < count
FitsColumns count (steps.Totals columns) = AreWithin count columns

-- the column of a number
abbrev pub column_at : List Column → ℕ → Column
column_at columns place = get_or columns place no_column

-- the columns after a step over these, with what a stage that no rule refuses takes
abbrev pub HasColumns : List Column → Step → List Column → Type 0
HasColumns columns (steps.Select picks) after = after ≡ picked no_column picks columns
HasColumns columns (steps.Slice off len) after = after ≡ columns
HasColumns columns (steps.Filter place test constant) after = (after ≡ columns) × (compares test ≡ true → is_ordered (column_at columns place).kind ≡ true)
HasColumns columns (steps.Pack rest picks) after = (made : List ℕ) × (after ≡ packed_columns no_column made rest picks columns)
HasColumns columns (steps.Unpack place) after =
    (fields : Members) × ((column_at columns place).kind ≡ Columns fields) × (after ≡ unpacked_columns place fields columns)
HasColumns columns (steps.Dict place) after =
    (type : DataType) × ((column_at columns place).kind ≡ Flat type) × (is_bytes (Flat type) ≡ true)
    × (after ≡ replaced place (column (column_at columns place).name (Dict type)) columns)
HasColumns columns (steps.Plain place) after =
    (type : DataType) × ((column_at columns place).kind ≡ Dict type) × (after ≡ replaced place (column (column_at columns place).name (Flat type)) columns)
HasColumns columns (steps.Totals places) after =
    (list_all (λ c. is_summed c.kind) (picked no_column places columns) ≡ true) × (after ≡ flat_map totals_columns (picked no_column places columns))

-- the other numbers below `count`, in order
abbrev pub others : List ℕ → ℕ → List ℕ
others picks count = filter (λ p. not (list_any (λ q. q == p) picks)) (range_with_len 0 count)

abbrev pub has_twice : List (List ℕ) → Bool
has_twice names = is_some (first_twice names)

abbrev pub first_failing : List RuleTest → Option RuleTest
first_failing rule_tests = find (λ t. t.fails) rule_tests
