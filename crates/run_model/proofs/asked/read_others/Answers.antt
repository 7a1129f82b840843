use Rattle.std.proofs.Common.{◌≡◌, ◌⊎◌, ◌∙◌, ℕ, List, Result, Ok, Err, Vec, ap, sym, inl, inr}
use Rattle.std.specs.Global.{Global}
use Rattle.stage_model.specs.declared.stage.StageText.{StageText}
use Rattle.stage_plan.specs.declared.types.TypeEntry.{TypeEntry}
use Rattle.run_model.specs.promise.Words.{Options}
use Rattle.run_model.specs.Words.{mark_of, options_of}
use Rattle.run_model.specs.promise.Answer.{EntriesAsk, Request, StagesAsk, request_with}
use Rattle.run_model.specs.Outcomes.{entries_asked}
use Rattle.run_model.specs.declared.request.Request.{Request as AsksFor}
use Rattle.run_model.specs.declared.fault.RunFault.{RunFault}
use Rattle.run_model.specs.declared.fault.RunFault.TheVariants as run
use Rattle.run_model.proofs.asked.read_others.Goals as goal

abbrev Entries : Type 0
Entries = Result (Vec TypeEntry Global) RunFault

-- the one fault where memory runs out
same-memory : (read : Entries) (fault : RunFault) → read ≡ Err fault → read ≡ Err run.NoMemory
    → ◌≡◌ {A = Result AsksFor RunFault} (Err fault) (Err run.NoMemory)
same-memory read fault is none =
    let same : ◌≡◌ {A = Entries} (Err fault) (Err run.NoMemory) = sym is ∙ none in let one : fault ≡ run.NoMemory = cc in ap Err one

module _ (options : Options) (stages : List StageText) (read : Entries) where
  -- what the entries ask for with the rest
  abbrev asked-with : Entries → Result Request RunFault
  asked-with entries = request_with options stages (entries_asked entries)

  module _ (fault : RunFault) (is : read ≡ Err fault) where
    err-asks : (read ≡ Err run.NoMemory) ⊎ EntriesAsk options.schema (entries_asked read)
        → (◌≡◌ {A = Result AsksFor RunFault} (Err fault) (Err run.NoMemory)) ⊎ StagesAsk options (Ok stages) (Err fault)
    err-asks (inl none) = inl (same-memory read fault is none)
    err-asks (inr asks) = inr (entries_asked read, asks, ap asked-with (sym is))

    err-only : (read ≡ Err run.NoMemory) ⊎ ((asked : Result (List TypeEntry) RunFault) → EntriesAsk options.schema asked → asked ≡ entries_asked read)
        → (◌≡◌ {A = Result AsksFor RunFault} (Err fault) (Err run.NoMemory))
        ⊎ ((asked : Result Request RunFault) → StagesAsk options (Ok stages) asked → asked ≡ Err fault)
    err-only (inl none) = inl (same-memory read fault is none)
    err-only (inr only) = inr (λ asked asks. asks.2 ∙ ap (request_with options stages) (only asks.0 asks.1) ∙ ap asked-with is)

  module _ (mark : List ℕ) (entries : Vec TypeEntry Global) (is : read ≡ Ok entries) (same : mark ≡ mark_of options) where
    some-entries : read ≡ Err run.NoMemory → ⊥
    some-entries none = let never : ◌≡◌ {A = Entries} (Ok entries) (Err run.NoMemory) = sym is ∙ none in cc

    -- the request, with the mark that was read
    abbrev found : Result Request RunFault
    found = Ok (record { entries = entries.items; stages = stages; batch = options.batch; mark = mark })

    ok-is : found ≡ asked-with read
    ok-is =
        ap (λ (m : List ℕ). Ok (record { entries = entries.items; stages = stages; batch = options.batch; mark = m })) same ∙ ap asked-with (sym is)

    ok-asks : {X : Type 0} → (read ≡ Err run.NoMemory) ⊎ EntriesAsk options.schema (entries_asked read) → X ⊎ StagesAsk options (Ok stages) found
    ok-asks (inl none) = absurd (some-entries none)
    ok-asks (inr asks) = inr (entries_asked read, asks, ok-is)

    ok-only : {X : Type 0} → (read ≡ Err run.NoMemory)
        ⊎ ((asked : Result (List TypeEntry) RunFault) → EntriesAsk options.schema asked → asked ≡ entries_asked read)
        → X ⊎ ((asked : Result Request RunFault) → StagesAsk options (Ok stages) asked → asked ≡ found)
    ok-only (inl none) = absurd (some-entries none)
    ok-only (inr only) = inr (λ asked asks. asks.2 ∙ ap (request_with options stages) (only asks.0 asks.1) ∙ sym ok-is)

pub returns-in_ok-mark-in-Ok-clause-asks : goal.returns-in_ok-mark-in-Ok-clause-asks
returns-in_ok-mark-in-Ok-clause-asks c =
    ok-asks (options_of c.args.options.now) c.args.stages.items c.read_entries.result
    c.in_ok-mark-in-Ok.mark c.in-Ok.entries c.in-Ok.is c.in_ok-mark-in-Ok.ensures c.read_entries.ensures.asks

pub returns-in_ok-mark-in-Ok-clause-only : goal.returns-in_ok-mark-in-Ok-clause-only
returns-in_ok-mark-in-Ok-clause-only c =
    ok-only (options_of c.args.options.now) c.args.stages.items c.read_entries.result
    c.in_ok-mark-in-Ok.mark c.in-Ok.entries c.in-Ok.is c.in_ok-mark-in-Ok.ensures c.read_entries.ensures.only

pub returns-in-Err-clause-asks : goal.returns-in-Err-clause-asks
returns-in-Err-clause-asks c =
    err-asks (options_of c.args.options.now) c.args.stages.items c.read_entries.result c.in-Err.fault c.in-Err.is c.read_entries.ensures.asks

pub returns-in-Err-clause-only : goal.returns-in-Err-clause-only
returns-in-Err-clause-only c =
    err-only (options_of c.args.options.now) c.args.stages.items c.read_entries.result c.in-Err.fault c.in-Err.is c.read_entries.ensures.only
