use Rattle.std.proofs.Common.{◌∙◌, ap, sym, not, List, ℕ, Bor, arith}
use Rattle.std.specs.Str.{is_utf8}
use Rattle.csv_read.proofs.Remaining.{position-hit, position-none, position-of-map, position-start}
use Rattle.csv_read.proofs.names.first_not_text.Goals as goal

pub loop-place-init : goal.loop-place-init
loop-place-init c = position-start (λ name. not (is_utf8 name.now)) c.args.names.now

pub returns-then-not-is_text-clause-place : goal.returns-then-not-is_text-clause-place
returns-then-not-is_text-clause-place c =
    sym (position-of-map (λ (b : Bor (List ℕ)). b.now) (λ field. not (is_utf8 field)) c.args.names.now
    ∙ position-hit (λ name. not (is_utf8 name.now)) c.args.names.now c.loop-place.place c.loop-place.invariant _ (omega arith)
    (ap not (sym c.is_text.ensures ∙ c.if-not-is_text.true)))

pub returns-clause-place : goal.returns-clause-place
returns-clause-place c =
    sym (position-of-map (λ (b : Bor (List ℕ)). b.now) (λ field. not (is_utf8 field)) c.args.names.now
    ∙ position-none (λ name. not (is_utf8 name.now)) c.args.names.now c.loop-place.place c.loop-place.invariant (omega arith))
