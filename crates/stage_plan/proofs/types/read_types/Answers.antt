use Rattle.std.proofs.Common.{◌∙◌, ◌+◌, ap, sym, subst, arith, refl, List, ℕ, length, map, Err, [], ◌∷◌, ◌++◌}
use Rattle.std.proofs.lemmas.Result.{err_from_is_err_and}
use Rattle.stage_plan.specs.Code.{entry_of}
use Rattle.stage_plan.specs.promise.Types.{parts, TypesFaultIs}
use Rattle.stage_plan.specs.Types.{Gives}
use Rattle.stage_plan.specs.declared.types.TypeEntry.{TypeEntry}
use Rattle.stage_plan.specs.declared.fault.TypesFault.{TypesFault}
use Rattle.stage_plan.specs.declared.fault.TypesFault.TheVariants.{At}
use Rattle.stage_plan.specs.declared.fault.TypesRule.TheVariants.{BadEntry, Twice}
use Rattle.stage_plan.proofs.Loop.{ReadSoFar, at_start, one_more, bad, bad_only, twice, twice_only, done, done_only, settles_none, settles_some, was_there}
use Rattle.stage_plan.proofs.Loop.{was_new, put_in, kinds_valid, kinds_of_columns}
use Rattle.stage_plan.proofs.Cuts.{entry}
use Rattle.stage_plan.proofs.types.read_types.Goals as goal

pub loop-part-init : goal.loop-part-init
loop-part-init c =
    at_start c.deref-part-items.result.now c.new-names.result.keys c.new-entries.result.items c.new-names.ensures.empty c.new-entries.ensures.items

-- ---- a part at fault
pub returns-in_default-clause-fault : goal.returns-in_default-clause-fault
returns-in_default-clause-fault c =
    let all = ap (map (λ p. p.now)) c.deref-part-items.ensures.value ∙ c.in_ok-parts.ensures ∙ ap parts c.as_bytes.ensures.value in
    let is = c.fault_behind.ensures ∙ ap (λ (l : List TypeEntry). At (length l + 1) BadEntry) c.as_slice.ensures.value in
    λ other.
    subst (TypesFaultIs c.args.text.now) (sym is)
    (bad c.deref-part-items.result.now c.loop-part.part-index c.loop-part.names.keys c.loop-part.entries.items c.loop-part.invariant _
    (omega arith) c.args.text.now all
    (settles_none _ c.in_ok-entry.field-0 c.in_ok-entry.ensures.found c.in_ok-entry.ensures.only c.in_default.is))

pub returns-in_default-clause-only : goal.returns-in_default-clause-only
returns-in_default-clause-only c =
    let all = ap (map (λ p. p.now)) c.deref-part-items.ensures.value ∙ c.in_ok-parts.ensures ∙ ap parts c.as_bytes.ensures.value in
    let is = c.fault_behind.ensures ∙ ap (λ (l : List TypeEntry). At (length l + 1) BadEntry) c.as_slice.ensures.value in
    λ read reads.
    subst (λ (f : TypesFault). Gives (Err f) read) (sym is)
    (bad_only c.deref-part-items.result.now c.loop-part.part-index c.loop-part.names.keys c.loop-part.entries.items c.loop-part.invariant _
    (omega arith) c.args.text.now all
    (settles_none _ c.in_ok-entry.field-0 c.in_ok-entry.ensures.found c.in_ok-entry.ensures.only c.in_default.is) read reads)

pub returns-then-not-added-clause-fault : goal.returns-then-not-added-clause-fault
returns-then-not-added-clause-fault c =
    let all = ap (map (λ p. p.now)) c.deref-part-items.ensures.value ∙ c.in_ok-parts.ensures ∙ ap parts c.as_bytes.ensures.value in
    let is = c.fault_behind-then-not-added.ensures ∙ ap (λ (l : List TypeEntry). At (length l + 1) Twice) c.as_slice-then-not-added.ensures.value in
    let old = was_there c.in_ok-added.added _ c.in_ok-added.ensures.added c.if-not-added.true in
    λ other.
    subst (TypesFaultIs c.args.text.now) (sym is)
    (twice c.deref-part-items.result.now c.loop-part.part-index c.loop-part.names.keys c.loop-part.entries.items c.loop-part.invariant _
    (omega arith) c.args.text.now all
    c.in-Some.entry.name (entry_of c.in-Some.entry)
    (settles_some _ c.in_ok-entry.field-0 c.in-Some.entry c.in_ok-entry.ensures.found c.in_ok-entry.ensures.only c.in-Some.is) refl old)

pub returns-then-not-added-clause-only : goal.returns-then-not-added-clause-only
returns-then-not-added-clause-only c =
    let all = ap (map (λ p. p.now)) c.deref-part-items.ensures.value ∙ c.in_ok-parts.ensures ∙ ap parts c.as_bytes.ensures.value in
    let is = c.fault_behind-then-not-added.ensures ∙ ap (λ (l : List TypeEntry). At (length l + 1) Twice) c.as_slice-then-not-added.ensures.value in
    let old = was_there c.in_ok-added.added _ c.in_ok-added.ensures.added c.if-not-added.true in
    λ read reads.
    subst (λ (f : TypesFault). Gives (Err f) read) (sym is)
    (twice_only c.deref-part-items.result.now c.loop-part.part-index c.loop-part.names.keys c.loop-part.entries.items c.loop-part.invariant _
    (omega arith) c.args.text.now all
    c.in-Some.entry.name (entry_of c.in-Some.entry)
    (settles_some _ c.in_ok-entry.field-0 c.in-Some.entry c.in_ok-entry.ensures.found c.in_ok-entry.ensures.only c.in-Some.is) refl old read reads)

-- ---- one entry more, and all entries
pub loop-part-preserved : goal.loop-part-preserved
loop-part-preserved c =
    let new = was_new c.in_ok-added.added _ c.in_ok-added.ensures.added c.if-not-added.false in
    let far =
    one_more c.deref-part-items.result.now c.loop-part.part-index c.loop-part.names.keys c.loop-part.entries.items c.loop-part.invariant _
    (omega arith) c.insert.new.self.keys
    c.in-Some.entry.name (entry_of c.in-Some.entry)
    (settles_some _ c.in_ok-entry.field-0 c.in-Some.entry c.in_ok-entry.ensures.found c.in_ok-entry.ensures.only c.in-Some.is) refl new
    (put_in _ _ c.in_ok-added.added c.in_ok-added.ensures.keys c.if-not-added.false) in
    rw c.in_ok-push.ensures.items
    (subst (λ (n : List ℕ). ReadSoFar c.deref-part-items.result.now (c.loop-part.part-index + 1) c.insert.new.self.keys
    (c.loop-part.entries.items ++ entry n c.in-Some.entry.kind ∷ []))
    (sym c.in_ok-name.ensures) far)

pub returns-clause-found : goal.returns-clause-found
returns-clause-found c =
    let all = ap (map (λ p. p.now)) c.deref-part-items.ensures.value ∙ c.in_ok-parts.ensures ∙ ap parts c.as_bytes.ensures.value in
    done c.deref-part-items.result.now c.loop-part.part-index c.loop-part.names.keys c.loop-part.entries.items c.loop-part.invariant
    (omega arith) c.args.text.now all

pub returns-clause-valid : goal.returns-clause-valid
returns-clause-valid c =
    let all = ap (map (λ p. p.now)) c.deref-part-items.ensures.value ∙ c.in_ok-parts.ensures ∙ ap parts c.as_bytes.ensures.value in
    kinds_valid c.spelled_is_valid.ensures c.args.text.now c.loop-part.entries.items
    (done c.deref-part-items.result.now c.loop-part.part-index c.loop-part.names.keys c.loop-part.entries.items c.loop-part.invariant
    (omega arith) c.args.text.now all)

pub returns-clause-column : goal.returns-clause-column
returns-clause-column c =
    let all = ap (map (λ p. p.now)) c.deref-part-items.ensures.value ∙ c.in_ok-parts.ensures ∙ ap parts c.as_bytes.ensures.value in
    kinds_of_columns c.args.text.now c.loop-part.entries.items
    (done c.deref-part-items.result.now c.loop-part.part-index c.loop-part.names.keys c.loop-part.entries.items c.loop-part.invariant
    (omega arith) c.args.text.now all)

pub returns-clause-only : goal.returns-clause-only
returns-clause-only c =
    let all = ap (map (λ p. p.now)) c.deref-part-items.ensures.value ∙ c.in_ok-parts.ensures ∙ ap parts c.as_bytes.ensures.value in
    done_only c.deref-part-items.result.now c.loop-part.part-index c.loop-part.names.keys c.loop-part.entries.items c.loop-part.invariant
    (omega arith) c.args.text.now all

-- ---- out of memory says nothing
pub returns-in_err-parts-clause-only : goal.returns-in_err-parts-clause-only
returns-in_err-parts-clause-only c =
    let p = err_from_is_err_and c.from_residual.result c.from_residual.ensures.1 in
    rw (p.1, p.2) (λ _ _. tt)

pub returns-in_err-entry-clause-only : goal.returns-in_err-entry-clause-only
returns-in_err-entry-clause-only c =
    let p = err_from_is_err_and c.from_residual-in_err-entry.result c.from_residual-in_err-entry.ensures.1 in
    rw (p.1, p.2) (λ _ _. tt)

pub returns-in_err-added-clause-only : goal.returns-in_err-added-clause-only
returns-in_err-added-clause-only c =
    let p = err_from_is_err_and c.from_residual-in_err-added.result c.from_residual-in_err-added.ensures.1 in
    rw (p.1, p.2) (λ _ _. tt)

pub returns-in_err-name-clause-only : goal.returns-in_err-name-clause-only
returns-in_err-name-clause-only c =
    let p = err_from_is_err_and c.from_residual-in_err-name.result c.from_residual-in_err-name.ensures.1 in
    rw (p.1, p.2) (λ _ _. tt)

pub returns-in_err-push-clause-only : goal.returns-in_err-push-clause-only
returns-in_err-push-clause-only c =
    let p = err_from_is_err_and c.from_residual-in_err-push.result c.from_residual-in_err-push.ensures.1 in
    rw (p.1, p.2) (λ _ _. tt)
