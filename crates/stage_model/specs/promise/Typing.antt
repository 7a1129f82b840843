-- The typing of stages over columns: the step of each and the columns after it, or the first fault.
use Rattle.std.specs.Prelude.{ℕ, ◌+◌, ℤ, pos, Bool, true, false, not, ◌||◌, ◌==◌, nat_lt, nat_le, List, [], ◌∷◌, ◌++◌, codes, get_or, length, map, take, drop}
use Rattle.std.specs.Prelude.{Option, None, Some, is_none, is_some, Result, Ok, Err}
use Rattle.std.specs.List.{filter, find, flat_map, list_all, list_any, position, range_with_len}
use Rattle.std.specs.Option.{option_and_then, unwrap_or}
use Rattle.std.specs.Str.{bytes_eq}
use Rattle.csv_model.specs.promise.Header.{first_twice}
use Rattle.data_types.specs.promise.FieldText.{read_text}
use Rattle.data_types.specs.promise.ColumnView.{members}
use Rattle.data_types.specs.promise.Parts.{picked, replaced, member_columns}
use Rattle.data_types.specs.promise.Table.{Column, Kind, Flat, Dict, Columns, Members, no_members}
use Rattle.data_types.specs.promise.Value.{Value, Truth, Whole, Bytes}
use Rattle.data_types.specs.declared.kind.DataType.{DataType}
use Rattle.data_types.specs.declared.kind.DataType.TheVariants as kinds
use Rattle.stage_model.specs.declared.fault.PlanFault.{PlanFault}
use Rattle.stage_model.specs.declared.fault.PlanFault.TheVariants.{At}
use Rattle.stage_model.specs.declared.fault.PlanRule.{PlanRule}
use Rattle.stage_model.specs.declared.fault.PlanRule.TheVariants as rules
use Rattle.stage_model.specs.declared.stage.Const.{Const}
use Rattle.stage_model.specs.declared.stage.Const.TheVariants as consts
use Rattle.stage_model.specs.declared.stage.StageText.{StageText}
use Rattle.stage_model.specs.declared.stage.StageText.TheVariants as texts
use Rattle.stage_model.specs.declared.stage.Step.{Step}
use Rattle.stage_model.specs.declared.stage.Step.TheVariants as steps
use Rattle.stage_model.specs.declared.stage.Test.{Test}
use Rattle.stage_model.specs.declared.stage.Test.TheVariants as tests

-- ---- the columns that a stage names

-- the columns that must be there: the new name of a struct isn't among them
abbrev pub names_of : StageText → List (List ℕ)
names_of (texts.Select names) = names
names_of (texts.Drop names) = names
names_of (texts.Slice off len) = []
names_of (texts.Filter name test constant) = name ∷ []
names_of (texts.Pack made names) = names
names_of (texts.Unpack name) = name ∷ []
names_of (texts.Dict name) = name ∷ []
names_of (texts.Plain name) = name ∷ []
names_of (texts.Totals names) = names

-- the place of the column of a name, from 0, or none where there is no such column
abbrev pub place_if : List Column → List ℕ → Option ℕ
place_if columns name = position (λ c. bytes_eq c.name name) columns

-- the same, where there is one
abbrev pub place_of : List Column → List ℕ → ℕ
place_of columns name = unwrap_or (place_if columns name) 0

abbrev pub places_of : List Column → List (List ℕ) → List ℕ
places_of columns names = map (place_of columns) names

-- what stands for a column that isn't there
abbrev pub no_column : Column
no_column = record { name = []; kind = Flat kinds.Null }

abbrev pub column_named : List Column → List ℕ → Column
column_named columns name = get_or columns (place_of columns name) no_column

abbrev pub columns_named : List Column → List (List ℕ) → List Column
columns_named columns names = picked no_column (places_of columns names) columns

-- the places of all other columns, in order
abbrev pub rest_of : List Column → List (List ℕ) → List ℕ
rest_of columns names =
    filter (λ p. not (list_any (λ q. q == p) (places_of columns names))) (range_with_len 0 (length columns))

-- ---- the constant of a filter

abbrev pub compares : Test → Bool
compares tests.Null = false
compares tests.Valid = false
compares _ = true

-- the empty text is a value of texts and bytes alone
abbrev pub empty_value : DataType → Option Value
empty_value (kinds.Utf8 wide) = Some (Bytes [])
empty_value (kinds.Binary wide) = Some (Bytes [])
empty_value _ = None

-- the value that a constant spells in a type
abbrev pub constant_value : DataType → List ℕ → Option Value
constant_value type [] = empty_value type
constant_value type (byte ∷ rest) = read_text type (byte ∷ rest)

abbrev pub const_of : Value → Option Const
const_of (Truth truth) = Some (consts.Truth truth)
const_of (Whole number) = Some (consts.Whole number)
const_of (Bytes bytes) = Some (consts.Bytes bytes)
const_of _ = None

abbrev pub const_in : Kind → List ℕ → Option Const
const_in (Flat type) text = option_and_then const_of (constant_value type text)
const_in _ text = None

-- the constant that a text spells in a column of a kind, where the test takes one
abbrev pub const_if : Bool → Kind → List ℕ → Option Const
const_if false kind text = Some consts.None
const_if true kind text = const_in kind text

-- the constant of a test on a column of a kind
abbrev pub const_for : Kind → Test → List ℕ → Option Const
const_for kind test text = const_if (compares test) kind text

-- ---- the step of a stage, where no rule fails

abbrev pub step_of : List Column → StageText → Step
step_of columns (texts.Select names) = steps.Select (places_of columns names)
step_of columns (texts.Drop names) = steps.Select (rest_of columns names)
step_of columns (texts.Slice off len) = steps.Slice off len
step_of columns (texts.Filter name test constant) =
    steps.Filter (place_of columns name) test (unwrap_or (const_for (column_named columns name).kind test constant) consts.None)
step_of columns (texts.Pack made names) = steps.Pack (rest_of columns names) (places_of columns names)
step_of columns (texts.Unpack name) = steps.Unpack (place_of columns name)
step_of columns (texts.Dict name) = steps.Dict (place_of columns name)
step_of columns (texts.Plain name) = steps.Plain (place_of columns name)
step_of columns (texts.Totals names) = steps.Totals (places_of columns names)

-- ---- the columns after a stage

abbrev pub column : List ℕ → Kind → Column
column name kind = record { name = name; kind = kind }

-- another kind of the column of a name
abbrev pub with_kind : List Column → List ℕ → Kind → List Column
with_kind columns name kind = replaced (place_of columns name) (column (column_named columns name).name kind) columns

-- a kind that a stage doesn't take stays
abbrev pub dict_kind : Kind → Kind
dict_kind (Flat type) = Dict type
dict_kind kind = kind

abbrev pub plain_kind : Kind → Kind
plain_kind (Dict type) = Flat type
plain_kind kind = kind

-- the columns of a struct; any other kind has none
abbrev pub struct_members : Kind → Members
struct_members (Columns members) = members
struct_members _ = no_members

abbrev pub scale_of : Kind → ℤ
scale_of (Flat (kinds.Decimal precision scale wide)) = scale
scale_of _ = pos 0

-- the count, the sum, and the extremes, which are of the column's own kind; the sum has the column's scale
abbrev pub totals_columns : Column → List Column
totals_columns c =
    column (c.name ++ codes "_count") (Flat (kinds.Int 64 true)) ∷
    column (c.name ++ codes "_sum") (Flat (kinds.Decimal 38 (scale_of c.kind) false)) ∷
    column (c.name ++ codes "_min") c.kind ∷
    column (c.name ++ codes "_max") c.kind ∷
    []

-- a stage that a rule refuses has columns after it too, which say nothing
abbrev pub columns_after : List Column → StageText → List Column
columns_after columns (texts.Select names) = columns_named columns names
columns_after columns (texts.Drop names) = picked no_column (rest_of columns names) columns
columns_after columns (texts.Slice off len) = columns
columns_after columns (texts.Filter name test constant) = columns
columns_after columns (texts.Pack made names) =
    picked no_column (rest_of columns names) columns ++ record { name = made; kind = Columns (members (columns_named columns names)) } ∷ []
columns_after columns (texts.Unpack name) =
    take (place_of columns name) columns
    ++ member_columns (struct_members (column_named columns name).kind)
    ++ drop (place_of columns name + 1) columns
columns_after columns (texts.Dict name) = with_kind columns name (dict_kind (column_named columns name).kind)
columns_after columns (texts.Plain name) = with_kind columns name (plain_kind (column_named columns name).kind)
columns_after columns (texts.Totals names) = flat_map totals_columns (columns_named columns names)

-- ---- rules

-- its values are compared with a constant
abbrev pub is_ordered : Kind → Bool
is_ordered (Flat (kinds.Float bits)) = false
is_ordered (Flat type) = true
is_ordered _ = false

abbrev pub is_bytes : Kind → Bool
is_bytes (Flat (kinds.Utf8 wide)) = true
is_bytes (Flat (kinds.Binary wide)) = true
is_bytes _ = false

abbrev pub is_dict : Kind → Bool
is_dict (Dict type) = true
is_dict _ = false

abbrev pub is_struct : Kind → Bool
is_struct (Columns _) = true
is_struct _ = false

-- whose sum over 2^30 rows is below 10^38
abbrev pub is_summed : Kind → Bool
is_summed (Flat (kinds.Int bits signed)) = true
is_summed (Flat (kinds.Decimal precision scale false)) = nat_le precision 28
is_summed _ = false

-- the stage takes a column of this kind where it names one
abbrev pub takes : StageText → Kind → Bool
takes (texts.Filter name test constant) kind = not (compares test) || is_ordered kind
takes (texts.Unpack name) kind = is_struct kind
takes (texts.Dict name) kind = is_bytes kind
takes (texts.Plain name) kind = is_dict kind
takes (texts.Totals names) kind = is_summed kind
takes _ kind = true

-- a filter's constant is no text of its column's kind
abbrev pub lacks_constant : List Column → StageText → Bool
lacks_constant columns (texts.Filter name test constant) = is_none (const_for (column_named columns name).kind test constant)
lacks_constant columns _ = false

abbrev pub is_empty : {X : Type 0} → List X → Bool
is_empty [] = true
is_empty (x ∷ xs) = false

abbrev pub drops_all : List Column → StageText → Bool
drops_all columns (texts.Drop names) = is_empty (rest_of columns names)
drops_all columns _ = false

-- the most columns after a stage
abbrev pub most_columns : ℕ
most_columns = 4096

-- a rule, and whether it fails
pub record RuleTest : Type 0 where
  pub rule : PlanRule
  pub fails : Bool

abbrev pub tested : PlanRule → Bool → RuleTest
tested rule fails = record { rule = rule; fails = fails }

-- the rules of a stage in the order in which they are tried
abbrev pub rules_of : List Column → StageText → List RuleTest
rules_of columns text =
    tested rules.NoColumn (list_any (λ name. is_none (place_if columns name)) (names_of text)) ∷
    tested rules.SameName (is_some (first_twice (names_of text)) || is_some (first_twice (map (λ c. c.name) (columns_after columns text)))) ∷
    tested rules.WrongType (not (list_all (λ c. takes text c.kind) (columns_named columns (names_of text)))) ∷
    tested rules.BadConstant (lacks_constant columns text) ∷
    tested rules.NoColumns (drops_all columns text) ∷
    tested rules.TooWide (nat_lt most_columns (length (columns_after columns text))) ∷
    []

-- ---- a stage, and stages in a row

-- a step, and the columns after it
pub record Stage : Type 0 where
  pub step : Step
  pub columns : List Column

abbrev pub stage_unless : Option RuleTest → Stage → Result Stage PlanRule
stage_unless None stage = Ok stage
stage_unless (Some test) stage = Err test.rule

-- the stage that a text is over columns, or its first rule at fault
abbrev pub stage_over : List Column → StageText → Result Stage PlanRule
stage_over columns text =
    stage_unless (find (λ t. t.fails) (rules_of columns text)) (record { step = step_of columns text; columns = columns_after columns text })

-- a stage before those behind it, or the first fault
abbrev pub with_stage : ℕ → Result Stage PlanRule → Result (List Stage) PlanFault → Result (List Stage) PlanFault
with_stage number (Err rule) rest = Err (At number rule)
with_stage number (Ok stage) (Ok stages) = Ok (stage ∷ stages)
with_stage number (Ok stage) (Err fault) = Err fault

-- behind the last stage no column may be a struct
abbrev pub plan_end : ℕ → Bool → Result (List Stage) PlanFault
plan_end number true = Err (At number rules.NestedOutput)
plan_end number false = Ok []

-- the stages of texts, the first of which has this number
abbrev pub plan_from : ℕ → List Column → List StageText → Result (List Stage) PlanFault
plan_from number columns [] = plan_end number (list_any (λ c. is_struct c.kind) columns)
plan_from number columns (text ∷ rest) = with_stage number (stage_over columns text) (plan_from (number + 1) (columns_after columns text) rest)

-- the stages of texts over columns, or the first fault; stages are counted from 1
abbrev pub plan_of : List Column → List StageText → Result (List Stage) PlanFault
plan_of columns stages = plan_from 1 columns stages
