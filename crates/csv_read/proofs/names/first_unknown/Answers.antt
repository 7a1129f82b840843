use Rattle.std.proofs.Common.{◌∙◌, ap, sym, not, arith}
use Rattle.stage_plan.specs.PlanWords.{has_text}
use Rattle.csv_read.proofs.Entries.{unknown-is}
use Rattle.csv_read.proofs.Remaining.{position-hit, position-none, position-start}
use Rattle.csv_read.proofs.names.first_unknown.Goals as goal

pub loop-place-init : goal.loop-place-init
loop-place-init c = position-start (λ e. not (has_text c.args.known.now.keys e.name)) c.args.entries.now

pub returns-then-not-contains-clause-place : goal.returns-then-not-contains-clause-place
returns-then-not-contains-clause-place c =
    let entry = c.index-entries-place.result in
    let keys = c.args.known.now.keys in
    λ names knows.
    sym (unknown-is c.args.entries.now keys names knows
    ∙ position-hit (λ e. not (has_text keys e.name)) c.args.entries.now c.loop-place.place c.loop-place.invariant entry (omega arith)
    (ap not (ap (has_text keys) (sym c.as_slice.ensures) ∙ sym c.contains.ensures ∙ c.if-not-contains.true)))

pub returns-clause-place : goal.returns-clause-place
returns-clause-place c =
    let keys = c.args.known.now.keys in
    λ names knows.
    sym (unknown-is c.args.entries.now keys names knows
    ∙ position-none (λ e. not (has_text keys e.name)) c.args.entries.now c.loop-place.place c.loop-place.invariant (omega arith))
