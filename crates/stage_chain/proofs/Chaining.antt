-- One link of a chain.
use Rattle.std.proofs.Common.{◌≡◌, ◌≤◌, ◌+◌, ℕ, List, [], ◌∷◌, Option, Some, None, Result, Ok, Err, OnErr, OnOk, refl, sym, ◌∙◌, ap, subst}
use Rattle.std.proofs.Common.{arith, inl, inr}
use Rattle.std.proofs.lemmas.Bool.Decides.{eqb_tells}
use Rattle.std.proofs.lemmas.List.Sums.{sum_by-cons}
use Rattle.tree_model.specs.promise.TreeCost.{Nodes}
use Rattle.schema_check.specs.promise.ColumnSchema.{SchemaOf}
use Rattle.unit_pass.specs.promise.Tally.{risen}
use Rattle.unit_pass.specs.Tally.{Tally}
use Rattle.stage_model.specs.promise.Links.{Link, links_behind}
use Rattle.stage_model.specs.promise.Stages.{chunks_after}
use Rattle.stage_model.specs.promise.Traffic.{Made, table_nodes}
use Rattle.stage_model.specs.Traffic.{link_blocks, link_nodes}
use Rattle.stage_model.specs.promise.Typing.{Stage}
use Rattle.stream_face.specs.Raw.{raw_joints, raw_state}
use Rattle.stream_face.specs.promise.Shown.{Seen, Shown, rows_of_link}
use Rattle.stream_face.specs.declared.fault.StreamFault.{StreamFault}
use Rattle.stream_face.specs.promise.Streams.{Making}
use Rattle.stream_face.specs.Streams.{IsFresh, Stream, Traffic, telling}
use Rattle.stage_chain.specs.Chains.{chain_links, chain_traffic, joints_with, makings_with, over_stream}
use Rattle.csv_write.specs.promise.Runs.{ShowsAll, ShowsSome}
use Rattle.csv_write.specs.Runs.{Counted}
use Rattle.stream_face.proofs.Orders.{made-none, nil_part}
use Rattle.csv_write.proofs.RunLemmas.{grown-nil}

pub on-err : {A E P Q : Type 0} (r : Result A E) → (P → Q) → OnErr r P → OnErr r Q
on-err (Ok a) f p = tt
on-err (Err e) f p = f p

pub on-ok : {A E P Q : Type 0} (r : Result A E) → (P → Q) → OnOk r P → OnOk r Q
on-ok (Ok a) f p = f p
on-ok (Err e) f p = tt

pub whatever : {A E P : Type 0} (r : Result A E) → P → OnErr r P
whatever (Ok a) p = tt
whatever (Err e) p = p

-- nothing was shown
pub shows-nothing : (joints : ℕ → List Shown) (makings : ℕ → Option Making) (seen : Option (List Seen)) → ShowsSome joints makings seen seen
shows-nothing joints makings seen = record {
  shown = [];
  told = grown-nil seen;
  begins = λ link. (joints link, refl);
  in_order = λ first rest e link. made-none (makings link) link first (ap (rows_of_link link) (nil_part first rest e));
}

-- a stream checked at a link, which was not asked yet
abbrev pub IsStarted : ℕ → ℕ → Stream → Stream → Type 0
IsStarted link nodes s up = up ≡ raw_state link nodes None (telling None s)

pub started : (own link nodes : ℕ) (fault : Option StreamFault) (inner s : Stream) → own ≡ link → fault ≡ None → inner ≡ telling None s
    → IsStarted link nodes s (raw_state own nodes fault inner)
started own link nodes fault inner s at none told = λ i. raw_state (at i) nodes (none i) (told i)

-- where the stream had not refused, nor has it
pub started-fresh : (s up : Stream) (link nodes : ℕ) → IsStarted link nodes s up → IsFresh s → IsFresh up
started-fresh s up link nodes raw fresh = subst IsFresh (sym raw) (record { lawful = fresh.lawful; no_failure = fresh.no_failure })

raw_above : (s : Stream) (link : ℕ) → ((later : ℕ) → link ≤ later → s.joints later ≡ []) → (later : ℕ) → link + 1 ≤ later
    → raw_joints link (telling None s) later ≡ []
raw_above s link none later above =
    elim (eqb_tells link later) [ inl h ↦ absurd (let e : link ≡ later = h.1 in omega (arith, e, above)) | inr h ↦ rw h.0 (none later (omega (arith, above))) ]

-- ---- what is shown

pub both-all : (j k : ℕ → List Shown) (m n : ℕ → Option Making) (before after : Option (List Seen)) → j ≡ k → m ≡ n → ShowsAll j m before after
    → ShowsAll k n before after
both-all j k m n before after e f x = subst (λ z. ShowsAll z n before after) e (subst (λ z. ShowsAll j z before after) f x)

pub both-some : (j k : ℕ → List Shown) (m n : ℕ → Option Making) (before after : Option (List Seen)) → j ≡ k → m ≡ n → ShowsSome j m before after
    → ShowsSome k n before after
both-some j k m n before after e f x = subst (λ z. ShowsSome z n before after) e (subst (λ z. ShowsSome j z before after) f x)

pub makings-last : (stages : List Stage) (s up : Stream) (link nodes : ℕ) → stages ≡ [] → IsStarted link nodes s up
    → up.makings ≡ makings_with s.ending link s.making s.makings (chain_links s stages)
makings-last stages s up link nodes none raw = rw (none, raw) refl

pub joints-last : (stages : List Stage) (s up : Stream) (link nodes : ℕ) → stages ≡ [] → IsStarted link nodes s up
    → up.joints ≡ joints_with link s.joints (chain_links s stages)
joints-last stages s up link nodes none raw = rw (none, raw) refl

-- ---- what is counted

pub counted-last : (stages : List Stage) (s up : Stream) (link nodes : ℕ) (a b d : Tally) → stages ≡ [] → IsStarted link nodes s up
    → Nodes (SchemaOf s.columns) ≡ table_nodes Made s.columns → b.nodes ≡ risen a.nodes (Nodes (SchemaOf s.columns)) → b.blocks ≡ a.blocks
    → Counted up.due b d → Counted (chain_traffic s stages) a d
counted-last stages s up link nodes a b d none raw schema more same counted =
    let due : up.due ≡ s.due = ap (λ (m : Stream). m.due) raw in
    let blocks : up.due.blocks ≡ s.due.blocks = ap (λ (t : Traffic). t.blocks) due in
    let made : up.due.nodes ≡ s.due.nodes = ap (λ (t : Traffic). t.nodes) due in
    rw none (record {
      blocks = omega (arith, counted.blocks, same, blocks);
      nodes = omega (arith, counted.nodes, more, schema, made);
    })

-- ---- a stage over a stream that is started
module _ (stage : Stage) (s up node : Stream) (link nodes : ℕ) (raw : IsStarted link nodes s up) (is : node ≡ over_stream link stage up) where
  -- no link from the next one on is below it
  pub joints-above : ((later : ℕ) → link ≤ later → s.joints later ≡ []) → (later : ℕ) → link + 1 ≤ later → node.joints later ≡ []
  joints-above none later above = rw (is, raw) (raw_above s link none later above)

  -- it has not refused where the stream had not
  pub fresh-above : IsFresh s → IsFresh node
  fresh-above fresh =
      let started = started-fresh s up link nodes raw fresh in
      subst IsFresh (sym is) (record { lawful = started.lawful; no_failure = started.no_failure })

  -- what is shown
  pub joints-step : (rest stages : List Stage) → stages ≡ stage ∷ rest
      → joints_with (link + 1) node.joints (chain_links node rest) ≡ joints_with link s.joints (chain_links s stages)
  joints-step rest stages are = rw (are, is, raw) refl

  pub makings-step : (rest stages : List Stage) → stages ≡ stage ∷ rest
      → makings_with node.ending (link + 1) node.making node.makings (chain_links node rest)
      ≡ makings_with s.ending link s.making s.makings (chain_links s stages)
  makings-step rest stages are = rw (are, is, raw) refl

  -- what is counted
  pub counted-step : (rest stages : List Stage) (a b d : Tally) → stages ≡ stage ∷ rest
      → Nodes (SchemaOf s.columns) ≡ table_nodes Made s.columns → b.nodes ≡ risen a.nodes (Nodes (SchemaOf s.columns)) → b.blocks ≡ a.blocks
      → Counted (chain_traffic node rest) b d → Counted (chain_traffic s stages) a d
  counted-step rest stages a b d are schema more same counted =
      let over : node ≡ over_stream link stage (raw_state link nodes None (telling None s)) = is ∙ ap (over_stream link stage) raw in
      let now : Counted (chain_traffic (over_stream link stage (raw_state link nodes None (telling None s))) rest) b d =
      subst (λ (m : Stream). Counted (chain_traffic m rest) b d) over counted in
      let chunks = chunks_after stage.step s.ending s.ahead in
      let behind = links_behind (record { chunks = chunks; ending = s.ending }) rest in
      let link_of : Link = record { maker = Some stage.step; columns = stage.columns; chunks = chunks } in
      rw are (record {
        blocks = omega (arith, now.blocks, same, sum_by-cons link_blocks link_of behind);
        nodes = omega (arith, now.nodes, more, schema, sum_by-cons link_nodes link_of behind);
      })
