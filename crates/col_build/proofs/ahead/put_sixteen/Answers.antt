use Rattle.std.proofs.Common.{◌≡◌, ◌∙◌, ◌+◌, ◌++◌, ◌%◌, ◌/◌, ◌^◌, ℕ, List, take, sym, ap, append_assoc, arith}
use Rattle.data_types.specs.promise.Packed.{le_bytes}
use Rattle.col_build.proofs.Halves.{halves}
use Rattle.col_build.proofs.ahead.put_sixteen.Goals as goal

pub returns : goal.returns
returns c =
    let n = c.args.number in
    let old = c.args.bytes.now.items in
    let end : c.args.at + 16 ≡ c.args.at + 8 + 8 = omega arith in
    ap (λ k. take k c.put_number-2.new.bytes.items) end ∙ c.put_number-2.ensures.put
    ∙ ap (λ (bs : List ℕ). bs ++ le_bytes 8 (n / 2 ^ 64)) c.put_number.ensures.put
    ∙ append_assoc (take c.args.at old) (le_bytes 8 (n % 2 ^ 64)) (le_bytes 8 (n / 2 ^ 64)) ∙ ap (λ (bs : List ℕ). take c.args.at old ++ bs) (sym (halves n))
