-- What follows of a table from what is between its header and its rows.
use Rattle.std.proofs.Common.{◌≡◌, ◌∙◌, ◌⊎◌, ℕ, List, [], None, Some, Result, Ok, Err, IsTrue, true, false, ap, refl, subst, sym}
use Rattle.csv_model.specs.promise.Reading.{Record}
use Rattle.csv_model.specs.promise.Text.{table_text}
use Rattle.data_types.specs.Parts.{joined_rows}
use Rattle.stages.specs.Structs.{column_structs}
use Rattle.run_model.specs.promise.Answer.{Fault, Request, Text}
use Rattle.run_model.specs.declared.fault.RunFault.{RunFault}
use Rattle.run_model.specs.declared.fault.RunFault.TheVariants as run
use Rattle.stage_chain.specs.Chains.{chain_links, chain_traffic}
use Rattle.stage_chain.specs.Plans.{plan_stages}
use Rattle.stage_chain.proofs.Planning.{plan-stages-are}
use Rattle.stage_model.specs.promise.Links.{Whole}
use Rattle.stage_model.specs.Links.{BatchesGiveTheWhole}
use Rattle.stage_model.specs.promise.Stages.{table}
use Rattle.stage_model.specs.promise.Typing.{plan_of}
use Rattle.stage_model.specs.declared.stage.StageText.{StageText}
use Rattle.stage_plan.specs.PlanWords.{IsPlan}
use Rattle.stage_plan.specs.declared.typing.Plan.{Plan}
use Rattle.stream_face.specs.Streams.{IsFresh, Stream, kept}
use Rattle.csv_write.specs.Faults.{IfRow, OnRow}
use Rattle.csv_write.specs.Runs.{Counted}
use Rattle.csv_write.specs.declared.fault.DriveFault.{DriveFault}
use Rattle.csv_write.specs.declared.fault.DriveFault.TheVariants as drives
use Rattle.unit_pass.specs.Tally.{Tally}
use Rattle.run_model.specs.promise.RunAnswer.{answer_of_records}
use Rattle.pipe_top.specs.ChainFaults.{fault_of_chain}
use Rattle.pipe_top.specs.Begun.{IsBegun}
use Rattle.pipe_top.specs.promise.Over.{is_behind_records}
use Rattle.pipe_top.specs.promise.Traffic.{LinksTraffic, links_of}
use Rattle.pipe_top.proofs.Bodies.{driven-text, driven-told}
use Rattle.pipe_top.proofs.Flat.{proper-flat}
use Rattle.pipe_top.proofs.LinksMade.{chain-counts, chain-links-are}

-- what holds where a record is refused holds behind all records
pub told-behind : {A : Type 0} (chain : Result A DriveFault) (why : DriveFault) (fault : RunFault) (P : Type 0) → chain ≡ Err why → fault ≡ fault_of_chain why
    → OnRow chain P → is_behind_records fault ≡ true → P
told-behind chain (drives.Row row) fault P is told holds behind = subst (λ r. OnRow r P) is holds
told-behind chain drives.NoMemory fault P is told holds behind =
    absurd (let e : false ≡ true = subst (λ f. is_behind_records f ≡ true) told behind in cc)

module _ (request : Request) (records : List Record) (s : Stream) (plan : Plan) (begun : IsBegun request records s plan) where
  planned : plan_of begun.columns request.stages ≡ Ok (plan_stages plan)
  planned = begun.plan_is.is ∙ ap Ok (sym (plan-stages-are begun.columns request.stages plan begun.plan_is))

  -- ---- what the chain asks for
  pub begun-live : IsTrue s.live
  begun-live = subst (λ (m : Stream). IsTrue m.live) (sym begun.source_is) refl

  pub begun-lawful : IsTrue s.lawful
  begun-lawful = subst (λ (m : Stream). IsTrue m.lawful) (sym begun.source_is) refl

  pub begun-fresh : IsFresh s
  begun-fresh = subst IsFresh (sym begun.source_is) (record { lawful = refl; no_failure = refl })

  pub begun-alone : (link : ℕ) → s.joints link ≡ []
  begun-alone link = ap (λ (m : Stream). m.joints link) begun.source_is

  pub begun-flat : column_structs s.columns ≡ 0
  begun-flat = ap (λ (m : Stream). column_structs m.columns) begun.source_is ∙ proper-flat begun.columns begun.proper

  pub begun-kept : kept s ≡ 0
  begun-kept = ap kept begun.source_is

  pub begun-plan : (texts : List StageText) × IsPlan s.columns texts plan
  begun-plan = (request.stages, subst (λ (m : Stream). IsPlan m.columns request.stages plan) (sym begun.source_is) begun.plan_is)

  -- ---- what it comes to
  pub begun-text : (mark made : List ℕ) → BatchesGiveTheWhole → s.ending ≡ None → mark ≡ request.mark
      → made ≡ table_text mark (Whole (table s.columns (joined_rows s.ahead)) (plan_stages plan)) → answer_of_records request records ≡ Text made
  begun-text mark made whole ends same is =
      driven-text request records begun.columns begun.found (plan_stages plan) planned whole (ap (λ (m : Stream). m.ending) (sym begun.source_is) ∙ ends)
      ∙ ap (λ (m : Stream). Text (table_text request.mark (Whole (table m.columns (joined_rows m.ahead)) (plan_stages plan)))) (sym begun.source_is)
      ∙ ap (λ k. Text (table_text k (Whole (table s.columns (joined_rows s.ahead)) (plan_stages plan)))) (sym same)
      ∙ ap Text (sym is)

  pub begun-told : (chain : DriveFault) (fault : RunFault) → fault ≡ fault_of_chain chain → IfRow chain (λ row. s.ending ≡ Some row)
      → (fault ≡ run.NoMemory) ⊎ (answer_of_records request records ≡ Fault fault)
  begun-told chain fault told row =
      driven-told request records begun.columns begun.found (plan_stages plan) planned chain fault told
      (subst (λ (m : Stream). IfRow chain (λ row. m.ending ≡ Some row)) begun.source_is row)

  pub begun-counts : (a d : Tally) → Counted (chain_traffic s (plan_stages plan)) a d
      → LinksTraffic (links_of request records) a.blocks a.nodes d.blocks d.nodes
  begun-counts a d counted = chain-counts request records begun.columns begun.found (plan_stages plan) planned s a d begun.source_is counted

  pub begun-links : chain_links s (plan_stages plan) ≡ links_of request records
  begun-links = chain-links-are request records begun.columns begun.found (plan_stages plan) planned s begun.source_is
