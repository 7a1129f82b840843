-- What the code's plans are, and the places and kinds of their columns.
use Rattle.std.specs.Prelude.{◌≡◌, ℕ, Bool, true, false, List, Option, ◌++◌, get_or, length, map}
use Rattle.std.specs.Borrow.{Bor}
use Rattle.std.specs.HashMap.{HashMap, get_by}
use Rattle.std.specs.List.{list_any}
use Rattle.std.specs.Str.{bytes_eq}
use Rattle.data_types.specs.ColumnView.{column_of}
use Rattle.data_types.specs.promise.Parts.{replaced}
use Rattle.data_types.specs.Parts.{AreWithin}
use Rattle.data_types.specs.promise.Table.{Column, Kind}
use Rattle.data_types.specs.declared.kind.ColumnType.{ColumnType}
use Rattle.stage_model.specs.promise.Typing.{Stage, column, dict_kind, names_of, no_column, places_of, plain_kind}
use Rattle.stage_model.specs.Typing.{PlanIs, plan_links, plan_steps}
use Rattle.stage_model.specs.declared.stage.StageText.{StageText}
use Rattle.stage_plan.specs.declared.typing.Plan.{Plan}

-- the texts that are lent
abbrev pub texts : List (Bor (List ℕ)) → List (List ℕ)
texts borrows = map (λ b. b.now) borrows

-- whether a text is one of those that are lent
abbrev pub has_text : List (Bor (List ℕ)) → List ℕ → Bool
has_text borrows text = list_any (λ b. bytes_eq text b.now) borrows

abbrev pub columns_in : List ColumnType → List Column
columns_in columns = map column_of columns

-- the place that a map has for a text
abbrev pub place_among : {S : Type 0} → HashMap (Bor (List ℕ)) ℕ S → List ℕ → Option ℕ
place_among known text = get_by (λ b. bytes_eq text b.now) known

-- the columns that a stage names are at these places
pub record IsThere (columns : List Column) (text : StageText) (places : List ℕ) : Type 0 where
  pub are : places ≡ places_of columns (names_of text)
  pub within : AreWithin (length columns) places

abbrev pub kind_by : Bool → Kind → Kind
kind_by true kind = dict_kind kind
kind_by false kind = plain_kind kind

-- one of the columns by a dictionary, or without one
abbrev pub replaced_kind : Bool → ℕ → List Column → List Column
replaced_kind dict place columns =
    replaced place (column (get_or columns place no_column).name (kind_by dict (get_or columns place no_column).kind)) columns

-- a column whose name ends so
abbrev pub with_end : Column → List ℕ → Column
with_end c end = column (c.name ++ end) c.kind

-- the plan's links and steps are those that the stages of these texts have over the columns
pub record IsPlan (columns : List Column) (texts : List StageText) (plan : Plan) : Type 0 where
  pub stages : List Stage
  pub is : PlanIs columns texts stages
  pub links : map (λ link. columns_in link.items) plan.links.items ≡ plan_links columns stages
  pub steps : plan.steps.items ≡ plan_steps stages
