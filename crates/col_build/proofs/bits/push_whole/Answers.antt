use Rattle.std.proofs.Common.{◌≡◌, ◌∙◌, ◌*◌, ◌/◌, ◌++◌, ℕ, List, append-nil, arith, ap, sym, replicate}
use Rattle.col_build.specs.promise.Encoding.{bit_bytes}
use Rattle.col_build.proofs.BitBytes.{bits-whole, full_byte}
use Rattle.col_build.proofs.bits.push_whole.Goals as goal
use Rattle.col_build.proofs.bits.push_whole.Goals.{then-flag, else-flag}

pub returns-then-whole-eq0-clause-added : goal.returns-then-whole-eq0-clause-added
returns-then-whole-eq0-clause-added c flags len is =
    is ∙ ap bit_bytes (sym (append-nil flags)) ∙ ap (λ n. bit_bytes (flags ++ replicate (8 * n) c.args.flag)) (sym c.if-whole-eq0.true)

pub returns-clause-added : goal.returns-clause-added
returns-clause-added c flags len is =
    let old = c.args.bits.now.items in
    let whole = c.args.whole in
    let full : c.if-flag.byte ≡ full_byte c.args.flag = elim c.if-flag.branch [
      | then-flag w ↦ w.byte-is ∙ ap full_byte (sym w.if-flag.true)
      | else-flag w ↦ w.byte-is ∙ ap full_byte (sym w.if-flag.false)
    ] in
    c.append_all.ensures.items ∙ ap (λ n. old ++ replicate whole n) full ∙ ap (λ (bs : List ℕ). bs ++ replicate whole (full_byte c.args.flag)) is
    ∙ sym (bits-whole flags (c.args.count / 8) whole c.args.flag (omega (arith, len, c.requires.even c.if-whole-eq0.false)))
