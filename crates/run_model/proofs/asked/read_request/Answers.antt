use Rattle.std.proofs.Common.{◌≡◌, ◌⊎◌, ◌∙◌, ℕ, List, Result, Ok, Err, Bor, ap, sym, subst, inl, inr, map}
use Rattle.stage_model.specs.declared.stage.StageText.{StageText}
use Rattle.run_model.specs.promise.Words.{Options}
use Rattle.run_model.specs.Words.{options_of}
use Rattle.run_model.specs.promise.Answer.{Request, RequestIs, StagesAsk, stages_from}
use Rattle.run_model.specs.Outcomes.{request_asked}
use Rattle.run_model.specs.declared.request.Request.{Request as AsksFor}
use Rattle.run_model.specs.declared.fault.RunFault.{RunFault}
use Rattle.run_model.specs.declared.fault.RunFault.TheVariants as run
use Rattle.run_model.proofs.asked.read_request.Goals as goal

-- what the options with their stages alone ask for, the options ask for
only-request : (options : Options) (stages : List StageText) (r : Result AsksFor RunFault) → stages_from 1 options.stages ≡ Ok stages
    → (r ≡ Err run.NoMemory) ⊎ ((asked : Result Request RunFault) → StagesAsk options (Ok stages) asked → asked ≡ request_asked r)
    → (r ≡ Err run.NoMemory) ⊎ ((asked : Result Request RunFault) → RequestIs options asked → asked ≡ request_asked r)
only-request options stages r is (inl none) = inl none
only-request options stages r is (inr only) = inr (λ asked asks. only asked (subst (λ s. StagesAsk options s asked) is asks))

pub returns-in-Ok-clause-only : goal.returns-in-Ok-clause-only
returns-in-Ok-clause-only c =
    only-request (options_of c.args.options.now) c.in-Ok.stages.items c.read_others.result
    (ap (λ (texts : List (Bor (List ℕ))). stages_from 1 (map (λ t. t.now) texts)) (sym c.as_slice.ensures.value) ∙ c.in-Ok.ensures.found)
    c.read_others.ensures.only
