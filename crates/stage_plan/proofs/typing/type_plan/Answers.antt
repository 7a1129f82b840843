use Rattle.std.proofs.Common.{◌<◌, ◌≡◌, ◌≢◌, ◌∙◌, ◌+◌, ◌++◌, [], ◌∷◌, ℕ, List, Vec, Global, length, length-append, map, ap, sym, arith, Ok, Err}
use Rattle.std.proofs.lemmas.List.{map-append}
use Rattle.std.proofs.lemmas.Result.{err_from_is_err_and}
use Rattle.std.specs.List.{list_any}
use Rattle.data_types.specs.ColumnView.{column_of, kind_of}
use Rattle.data_types.specs.promise.Table.{Column}
use Rattle.data_types.specs.declared.kind.ColumnType.{ColumnType}
use Rattle.stage_model.specs.promise.Typing.{Stage, is_struct, stage_over, with_stage}
use Rattle.stage_model.specs.Typing.{PlanFaultIs}
use Rattle.stage_model.specs.declared.fault.PlanFault.TheVariants.{At, NoMemory}
use Rattle.stage_model.specs.declared.fault.PlanRule.TheVariants as rules
use Rattle.stage_model.specs.declared.stage.StageText.{StageText}
use Rattle.stage_plan.specs.PlanWords.{columns_in}
use Rattle.stage_plan.proofs.PlanLists.{any-map}
use Rattle.stage_plan.proofs.PlanWalk.{all-planned, nested, stage-fault, stage-more}
use Rattle.stage_plan.proofs.typing.type_plan.Goals as goal

abbrev link_columns : Vec ColumnType Global → List Column
link_columns link = columns_in link.items

-- ---- a stage at fault
pub returns-in_err-stage-clause-fault : goal.returns-in_err-stage-clause-fault
returns-in_err-stage-clause-fault c =
    let columns = columns_in c.args.columns.items in
    let now = columns_in c.loop-place.columns.items in
    let texts = c.args.stages.now in
    let number = c.loop-place.place + 1 in
    let item = c.index-stages-place.result in
    let f = c.in_err-stage.field-0.0 in
    let told : f ≢ NoMemory → PlanFaultIs columns texts f = λ other.
    stage-fault columns texts c.loop-place.place now (map link_columns c.loop-place.links.items) c.loop-place.steps.items
    c.loop-place.invariant.planned item (omega arith) f
    (ap (λ (t : StageText). with_stage number (stage_over now t) (Ok [])) (sym c.index-stages-place.is)
    ∙ ap (λ (cs : List ColumnType). with_stage number (stage_over (columns_in cs) item) (Ok [])) (sym c.as_slice.ensures.value)
    ∙ c.in_err-stage.ensures.fault other) in
    let p = err_from_is_err_and c.from_residual.result c.from_residual.ensures.1 in
    rw (p.1, p.2) told

-- ---- one stage more, and all stages
one-more : {X : Type 0} (xs : List X) (x : X) (more : List X) (n : ℕ) → more ≡ xs ++ x ∷ [] → length xs ≡ n → length more ≡ n + 1
one-more xs x more n is count = ap length is ∙ length-append xs (x ∷ []) ∙ ap (λ k. k + 1) count

pub loop-place-preserved : goal.loop-place-preserved
loop-place-preserved c =
    let columns = columns_in c.args.columns.items in
    let now = columns_in c.loop-place.columns.items in
    let item = c.index-stages-place.result in
    let s : Stage = record { step = c.in_ok-stage.stage.step; columns = columns_in c.in_ok-stage.stage.columns.items } in
    let found : stage_over (columns_in c.as_slice.result.now) item ≡ Ok s = c.in_ok-stage.ensures.found in
    let over =
    ap (λ (t : StageText). stage_over now t) (sym c.index-stages-place.is)
    ∙ ap (λ (cs : List ColumnType). stage_over (columns_in cs) item) (sym c.as_slice.ensures.value) ∙ found in
    let within : c.loop-place.place < length c.args.stages.now = omega arith in
    record {
      steps = one-more c.loop-place.steps.items c.in_ok-stage.stage.step c.push-in-loop-place.new.self.items c.loop-place.place c.in_ok-push-2.ensures.items
          c.loop-place.invariant.steps;
      links = one-more c.loop-place.links.items c.loop-place.columns c.push.new.self.items c.loop-place.place c.in_ok-push.ensures.items
          c.loop-place.invariant.links;
      planned = stage-more columns c.args.stages.now c.loop-place.place now (map link_columns c.loop-place.links.items) c.loop-place.steps.items
          c.loop-place.invariant.planned item within s
          (map link_columns c.push.new.self.items) c.push-in-loop-place.new.self.items over
          (ap (λ (l : List (Vec ColumnType Global)). map link_columns l) c.in_ok-push.ensures.items
          ∙ map-append link_columns c.loop-place.links.items (c.loop-place.columns ∷ []))
          c.in_ok-push-2.ensures.items;
      kinds = c.in_ok-stage.ensures.kinds;
    }

pub returns-then-has_struct-clause-fault : goal.returns-then-has_struct-clause-fault
returns-then-has_struct-clause-fault c =
    let columns = columns_in c.args.columns.items in
    let now = columns_in c.loop-place.columns.items in
    let texts = c.args.stages.now in
    let place = c.loop-place.place in
    let end : place ≡ length texts = omega arith in
    let is =
    any-map (λ (x : Column). is_struct x.kind) column_of c.loop-place.columns.items
    ∙ ap (λ (cs : List ColumnType). list_any (λ x. is_struct (kind_of x.kind)) cs) (sym c.as_slice-2.ensures.value) ∙ sym c.has_struct.ensures
    ∙ c.if-has_struct.true in
    λ other.
    nested columns texts place now (map link_columns c.loop-place.links.items) c.loop-place.steps.items c.loop-place.invariant.planned (omega arith) is
    ∙ ap (λ (n : ℕ). Err (At (n + 1) rules.NestedOutput)) end

pub returns-clause-found : goal.returns-clause-found
returns-clause-found c =
    let columns = columns_in c.args.columns.items in
    let now = columns_in c.loop-place.columns.items in
    let texts = c.args.stages.now in
    let far = c.loop-place.invariant.planned in
    let is =
    any-map (λ (x : Column). is_struct x.kind) column_of c.loop-place.columns.items
    ∙ ap (λ (cs : List ColumnType). list_any (λ x. is_struct (kind_of x.kind)) cs) (sym c.as_slice-2.ensures.value) ∙ sym c.has_struct.ensures
    ∙ c.if-has_struct.false in
    record {
      stages = far.done;
      is = all-planned columns texts c.loop-place.place now (map link_columns c.loop-place.links.items) c.loop-place.steps.items far (omega arith) is;
      links = ap (λ (l : List (Vec ColumnType Global)). map link_columns l) c.in_ok-push-3.ensures.items
          ∙ map-append link_columns c.loop-place.links.items (c.loop-place.columns ∷ [])
          ∙ far.links_are;
      steps = far.steps_are;
    }

pub returns-clause-steps : goal.returns-clause-steps
returns-clause-steps c =
    let end : c.loop-place.place ≡ length c.args.stages.now = omega arith in
    c.loop-place.invariant.steps ∙ end

pub returns-clause-links : goal.returns-clause-links
returns-clause-links c =
    let end : c.loop-place.place ≡ length c.args.stages.now = omega arith in
    one-more c.loop-place.links.items c.loop-place.columns _ (length c.args.stages.now) c.in_ok-push-3.ensures.items
    (c.loop-place.invariant.links ∙ end)
