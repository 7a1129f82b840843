-- What the rules of a stage find: its columns' places, and the step of a filter.
use Rattle.std.proofs.Common.{◌≡◌, ◌∙◌, ℕ, true, false, List, [], length, get_or, Option, Some, None, Result, Ok, Err, Vec, Global, ap, sym, subst, refl}
use Rattle.std.specs.Prelude.{is_none, option_map, IfOk, IfNone, IfSome}
use Rattle.std.specs.List.{list_any}
use Rattle.std.specs.Option.{unwrap_or}
use Rattle.data_types.specs.Parts.{AreWithin}
use Rattle.data_types.specs.promise.Table.{Column}
use Rattle.stage_model.proofs.Numbers.{places-below, within}
use Rattle.stage_model.specs.promise.Typing.{const_for, lacks_constant, names_of, no_column, place_if, place_of, places_of, stage_over, step_of, with_stage}
use Rattle.stage_model.specs.declared.fault.PlanFault.TheVariants.{At}
use Rattle.stage_model.specs.declared.fault.PlanRule.TheVariants as rules
use Rattle.stage_model.specs.declared.stage.Const.{Const}
use Rattle.stage_model.specs.declared.stage.Const.TheVariants as consts
use Rattle.stage_model.specs.declared.stage.StageText.{StageText}
use Rattle.stage_model.specs.declared.stage.StageText.TheVariants as texts
use Rattle.stage_model.specs.declared.stage.Step.{Step}
use Rattle.stage_model.specs.declared.stage.Step.TheVariants as steps
use Rattle.stage_model.specs.declared.stage.Test.{Test}
use Rattle.stage_plan.specs.PlanWords.{IsThere}

-- the columns of names that are all there
pub are-there : (columns : List Column) (text : StageText) (names : List (List ℕ)) (found : Option (Vec ℕ Global)) (places : Vec ℕ Global)
    → names ≡ names_of text
    → found ≡ Some places
    → IfSome found (λ ps. ps.items ≡ places_of columns names)
    → IfSome found (λ _. list_any (λ name. is_none (place_if columns name)) names ≡ false)
    → IsThere columns text places.items
are-there columns text names found places is some places_are all =
    let are : places.items ≡ places_of columns names =
    subst (λ (o : Option (Vec ℕ Global)). IfSome o (λ ps. ps.items ≡ places_of columns names)) some places_are in
    let none : list_any (λ name. is_none (place_if columns name)) names ≡ false =
    subst (λ (o : Option (Vec ℕ Global)). IfSome o (λ _. list_any (λ name. is_none (place_if columns name)) names ≡ false)) some all in
    record {
      are = are ∙ ap (λ (ns : List (List ℕ)). places_of columns ns) is;
      within = subst (AreWithin (length columns)) (sym are) (within (length columns) (places_of columns names) (places-below columns names none));
    }

-- a column of a name that isn't there is the stage's fault, whatever else is wrong
pub lacks-column : (columns : List Column) (text : StageText) (number : ℕ) (names : List (List ℕ)) (found : Option (Vec ℕ Global)) → names ≡ names_of text
    → found ≡ None
    → IfNone found (list_any (λ name. is_none (place_if columns name)) names ≡ true)
    → with_stage number (stage_over columns text) (Ok []) ≡ Err (At number rules.NoColumn)
lacks-column columns text number names found is none missing =
    let gone : list_any (λ name. is_none (place_if columns name)) names ≡ true =
    subst (λ (o : Option (Vec ℕ Global)). IfNone o (list_any (λ name. is_none (place_if columns name)) names ≡ true)) none missing in
    let gone_of : list_any (λ name. is_none (place_if columns name)) (names_of text) ≡ true =
    subst (λ (ns : List (List ℕ)). list_any (λ name. is_none (place_if columns name)) ns ≡ true) is gone in
    rw gone_of refl

-- ---- filters

some-step : (made : Const → Step) (constant : Option Const) (step : Option Step) → step ≡ option_map made constant
    → IfSome step (λ s. s ≡ made (unwrap_or constant consts.None))
some-step made None step is = rw is tt
some-step made (Some constant) step is = rw is refl

has-constant : (made : Const → Step) (constant : Option Const) (step : Option Step) → step ≡ option_map made constant
    → IfSome step (λ _. is_none constant ≡ false)
has-constant made None step is = rw is tt
has-constant made (Some constant) step is = rw is refl

has-none : (made : Const → Step) (constant : Option Const) (step : Option Step) → step ≡ option_map made constant
    → IfNone step (is_none constant ≡ true)
has-none made None step is = rw is refl
has-none made (Some constant) step is = rw is tt

module _ {E : Type 0} (columns : List Column) (text : StageText) (name : List ℕ) (test : Test) (constant : List ℕ) (place : ℕ)
    (is : text ≡ texts.Filter name test constant)
    (at : place ≡ place_of columns name) where
  pub filter-step : (r : Result (Option Step) E)
      → IfOk r (λ step. step ≡ option_map (steps.Filter place test) (const_for (get_or columns place no_column).kind test constant))
      → IfOk r (λ step. IfSome step (λ s. s ≡ step_of columns text))
  filter-step (Err e) made = tt
  filter-step (Ok step) made =
      subst (λ (t : StageText). IfSome step (λ s. s ≡ step_of columns t)) (sym is)
      (some-step (steps.Filter (place_of columns name) test) (const_for (get_or columns (place_of columns name) no_column).kind test constant) step
      (subst (λ (n : ℕ). step ≡ option_map (steps.Filter n test) (const_for (get_or columns n no_column).kind test constant)) at made))

  pub filter-constant : (r : Result (Option Step) E)
      → IfOk r (λ step. step ≡ option_map (steps.Filter place test) (const_for (get_or columns place no_column).kind test constant))
      → IfOk r (λ step. IfSome step (λ _. lacks_constant columns text ≡ false))
  filter-constant (Err e) made = tt
  filter-constant (Ok step) made =
      subst (λ (t : StageText). IfSome step (λ _. lacks_constant columns t ≡ false)) (sym is)
      (has-constant (steps.Filter (place_of columns name) test) (const_for (get_or columns (place_of columns name) no_column).kind test constant) step
      (subst (λ (n : ℕ). step ≡ option_map (steps.Filter n test) (const_for (get_or columns n no_column).kind test constant)) at made))

  pub filter-lacks : (r : Result (Option Step) E)
      → IfOk r (λ step. step ≡ option_map (steps.Filter place test) (const_for (get_or columns place no_column).kind test constant))
      → IfOk r (λ step. IfNone step (lacks_constant columns text ≡ true))
  filter-lacks (Err e) made = tt
  filter-lacks (Ok step) made =
      subst (λ (t : StageText). IfNone step (lacks_constant columns t ≡ true)) (sym is)
      (has-none (steps.Filter (place_of columns name) test) (const_for (get_or columns (place_of columns name) no_column).kind test constant) step
      (subst (λ (n : ℕ). step ≡ option_map (steps.Filter n test) (const_for (get_or columns n no_column).kind test constant)) at made))
