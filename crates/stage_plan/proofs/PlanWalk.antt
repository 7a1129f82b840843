-- The stages of a plan, one behind the other.
use Rattle.std.proofs.Common.{◌≡◌, ◌∙◌, ◌<◌, ◌≤◌, ◌+◌, ◌++◌, ℕ, true, false, List, [], ◌∷◌, length, get_or, drop, Result, Ok, Err, refl, ap, sym, append_assoc}
use Rattle.std.proofs.Common.{append-nil}
use Rattle.std.proofs.lemmas.List.{drop_all, map-append}
use Rattle.std.specs.List.{list_any}
use Rattle.data_types.specs.promise.Table.{Column}
use Rattle.stage_model.proofs.Numbers.{none-fails}
use Rattle.stage_model.specs.promise.Typing.{Stage, columns_after, is_struct, plan_end, plan_from, plan_of, rules_of, stage_over, with_stage}
use Rattle.stage_model.specs.Typing.{plan_links, plan_steps}
use Rattle.stage_model.specs.declared.fault.PlanFault.{PlanFault}
use Rattle.stage_model.specs.declared.fault.PlanFault.TheVariants.{At}
use Rattle.stage_model.specs.declared.fault.PlanRule.{PlanRule}
use Rattle.stage_model.specs.declared.fault.PlanRule.TheVariants as rules
use Rattle.stage_model.specs.declared.stage.StageText.{StageText}
use Rattle.stage_model.specs.declared.stage.Step.{Step}
use Rattle.stage_plan.proofs.Twice.{rest-cons}

-- ---- a stage before others
-- stages before those of the rest, or the rest's fault
abbrev pub with_stages : List Stage → Result (List Stage) PlanFault → Result (List Stage) PlanFault
with_stages done (Ok rest) = Ok (done ++ rest)
with_stages done (Err fault) = Err fault

no-stages : (rest : Result (List Stage) PlanFault) → rest ≡ with_stages [] rest
no-stages (Ok rest) = refl
no-stages (Err fault) = refl

one-stage-more : (done : List Stage) (number : ℕ) (s : Stage) (rest : Result (List Stage) PlanFault)
    → with_stages done (with_stage number (Ok s) rest) ≡ with_stages (done ++ s ∷ []) rest
one-stage-more done number s (Ok rest) = ap (λ (l : List Stage). Ok l) (sym (append_assoc done (s ∷ []) rest))
one-stage-more done number s (Err fault) = refl

-- a stage at fault is the fault, whatever is behind it
fault-first : (number : ℕ) (r : Result Stage PlanRule) (rest : Result (List Stage) PlanFault) (f : PlanFault) → with_stage number r (Ok []) ≡ Err f
    → with_stage number r rest ≡ Err f
fault-first number (Ok s) rest f e = let never : ◌≡◌ {A = Result (List Stage) PlanFault} (Ok (s ∷ [])) (Err f) = e in absurd (cc)
fault-first number (Err rule) rest f e = e

-- ---- the plan up to a place
-- the stages before a place, and the columns behind them
pub record PlannedTo (columns : List Column) (texts : List StageText) (place : ℕ) (now : List Column) (links : List (List Column))
    (steps : List Step) : Type 0 where
  pub done : List Stage
  pub is : plan_of columns texts ≡ with_stages done (plan_from (place + 1) now (drop place texts))
  pub links_are : links ++ now ∷ [] ≡ plan_links columns done
  pub steps_are : steps ≡ plan_steps done

pub none-planned : (columns : List Column) (texts : List StageText) (links : List (List Column)) (steps : List Step) → links ≡ [] → steps ≡ []
    → PlannedTo columns texts 0 columns links steps
none-planned columns texts links steps no_links no_steps =
    record {
      done = [];
      is = no-stages (plan_of columns texts);
      links_are = ap (λ (l : List (List Column)). l ++ columns ∷ []) no_links;
      steps_are = no_steps;
    }

module _ (columns : List Column) (texts : List StageText) (place : ℕ) (now : List Column) (links : List (List Column)) (steps : List Step)
    (far : PlannedTo columns texts place now links steps) where
  module _ (d : StageText) (within : place < length texts) where
    abbrev text : StageText
    text = get_or texts place d

    here : plan_of columns texts
        ≡ with_stages far.done (with_stage (place + 1) (stage_over now text) (plan_from (place + 1 + 1) (columns_after now text) (drop (place + 1) texts)))
    here = far.is ∙ ap (λ (ts : List StageText). with_stages far.done (plan_from (place + 1) now ts)) (rest-cons texts place d within)

    pub stage-more : (s : Stage) (more_links : List (List Column)) (more_steps : List Step) → stage_over now text ≡ Ok s → more_links ≡ links ++ now ∷ []
        → more_steps ≡ steps ++ s.step ∷ []
        → PlannedTo columns texts (place + 1) s.columns more_links more_steps
    stage-more s more_links more_steps over put_link put_step =
        let after : columns_after now text ≡ s.columns = ap (λ (x : Stage). x.columns) (none-fails (rules_of now text) _ s over).1 in
        record {
          done = far.done ++ s ∷ [];
          is = here
              ∙ ap (λ (r : Result Stage PlanRule). with_stages far.done
              (with_stage (place + 1) r (plan_from (place + 1 + 1) (columns_after now text) (drop (place + 1) texts)))) over
              ∙ one-stage-more far.done (place + 1) s (plan_from (place + 1 + 1) (columns_after now text) (drop (place + 1) texts))
              ∙ ap (λ (cs : List Column). with_stages (far.done ++ s ∷ []) (plan_from (place + 1 + 1) cs (drop (place + 1) texts))) after;
          links_are = ap (λ (l : List (List Column)). l ++ s.columns ∷ []) (put_link ∙ far.links_are)
              ∙ sym (ap (λ (l : List (List Column)). columns ∷ l) (map-append (λ x. x.columns) far.done (s ∷ [])));
          steps_are = put_step ∙ ap (λ (l : List Step). l ++ s.step ∷ []) far.steps_are ∙ sym (map-append (λ x. x.step) far.done (s ∷ []));
        }

    pub stage-fault : (f : PlanFault) → with_stage (place + 1) (stage_over now text) (Ok []) ≡ Err f → plan_of columns texts ≡ Err f
    stage-fault f e =
        here
        ∙ ap (λ (r : Result (List Stage) PlanFault). with_stages far.done r)
        (fault-first (place + 1) (stage_over now text) (plan_from (place + 1 + 1) (columns_after now text) (drop (place + 1) texts)) f e)

  module _ (over : length texts ≤ place) where
    at_end : plan_of columns texts ≡ with_stages far.done (plan_end (place + 1) (list_any (λ c. is_struct c.kind) now))
    at_end = far.is ∙ ap (λ (ts : List StageText). with_stages far.done (plan_from (place + 1) now ts)) (drop_all place texts over)

    pub nested : list_any (λ c. is_struct c.kind) now ≡ true → plan_of columns texts ≡ Err (At (place + 1) rules.NestedOutput)
    nested e = at_end ∙ ap (λ b. with_stages far.done (plan_end (place + 1) b)) e

    pub all-planned : list_any (λ c. is_struct c.kind) now ≡ false → plan_of columns texts ≡ Ok far.done
    all-planned e =
        at_end ∙ ap (λ b. with_stages far.done (plan_end (place + 1) b)) e ∙ ap (λ (l : List Stage). Ok l) (append-nil far.done)
