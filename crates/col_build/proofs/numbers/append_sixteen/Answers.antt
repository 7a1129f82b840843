use Rattle.std.proofs.Common.{◌∙◌, ◌++◌, ◌%◌, ◌/◌, ◌^◌, ℕ, List, refl, sym, ap, append_assoc}
use Rattle.data_types.specs.promise.Packed.{le_bytes}
use Rattle.col_build.proofs.Halves.{halves}
use Rattle.col_build.proofs.numbers.append_sixteen.Goals as goal

pub returns : goal.returns
returns c =
    let n = c.args.number in
    let low = le_bytes 8 (n % 2 ^ 64) in
    let high = le_bytes 8 (n / 2 ^ 64) in
    let old = c.reserve.new.self.items in (
      refl,
      c.append_eight-2.ensures.items ∙ ap (λ (bs : List ℕ). bs ++ high) c.append_eight.ensures.items ∙ append_assoc old low high
          ∙ ap (λ (bs : List ℕ). old ++ bs) (sym (halves n)) ∙ ap (λ (bs : List ℕ). bs ++ le_bytes 16 n) c.reserve.ensures.items,
    )
