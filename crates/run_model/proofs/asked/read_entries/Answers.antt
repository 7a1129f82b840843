use Rattle.std.proofs.Common.{◌≡◌, ◌∙◌, ℕ, Bool, true, false, List, [], Option, Some, Result, Ok, Err, Bor, ap, sym, refl, subst, option_map, inr}
use Rattle.stage_plan.specs.declared.fault.TypesFault.{TypesFault}
use Rattle.stage_plan.specs.declared.types.TypeEntry.{TypeEntry}
use Rattle.stage_plan.specs.declared.fault.TypesFault.TheVariants as types
use Rattle.std.proofs.lemmas.Bool.{false≢true}
use Rattle.stage_plan.specs.promise.Types.{Reads, TypesFaultIs}
use Rattle.run_model.specs.promise.Answer.{EntriesAsk, EntriesRead}
use Rattle.run_model.proofs.asked.read_entries.Goals as goal

abbrev is-memory : TypesFault → Bool
is-memory types.NoMemory = true
is-memory (types.At entry rule) = false

-- a schema text is read as it reads
text-read : (schema : Option (Bor (List ℕ))) (text : Bor (List ℕ)) (read : Result (List TypeEntry) TypesFault) → schema ≡ Some text → Reads text.now read
    → EntriesRead (option_map (λ (s : Bor (List ℕ)). s.now) schema) read
text-read schema text read is reads = subst (λ s. EntriesRead (option_map (λ (s : Bor (List ℕ)). s.now) s) read) (sym is) reads

-- no schema text asks for nothing
pub returns-in_default-clause-asks : goal.returns-in_default-clause-asks
returns-in_default-clause-asks c =
    inr (subst (λ schema. EntriesAsk (option_map (λ (s : Bor (List ℕ)). s.now) schema) (Ok c.new.result.items)) (sym c.in_default.is)
    (Ok [], refl, ap Ok c.new.ensures.items))

pub returns-in-Ok-clause-asks : goal.returns-in-Ok-clause-asks
returns-in-Ok-clause-asks c =
    inr (Ok c.in-Ok.entries.items, text-read c.args.schema c.in-Some.text (Ok c.in-Ok.entries.items) c.in-Some.is c.in-Ok.ensures.found, refl)

pub returns-in-Err-At-clause-asks : goal.returns-in-Err-At-clause-asks
returns-in-Err-At-clause-asks c =
    let fault = types.At c.in-Err-At.entry c.in-Err-At.rule in
    let is = c.in-Err-At.field-0-is in
    let reads : TypesFaultIs c.in-Some.text.now c.in-Err-At.field-0 = c.in-Err-At.ensures.fault (λ e. false≢true (ap is-memory (sym is ∙ e))) in
    inr (Err fault, text-read c.args.schema c.in-Some.text (Err fault) c.in-Some.is (subst (TypesFaultIs c.in-Some.text.now) is reads), refl)
