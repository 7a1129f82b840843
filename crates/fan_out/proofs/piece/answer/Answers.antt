use Rattle.std.proofs.Common.{◌≡◌, ◌∙◌, ℕ, ℤ, pos, ◌+◌, ◌*◌, ◌/◌, ◌<◌, ◌≤◌, ◌≤ℤ◌, arith, refl, subst, sym, to_z, of_z, w64}
use Rattle.std.proofs.Math.Nat.{div-mul-le_self}
use Rattle.std.proofs.lemmas.Int.{ints}
use Rattle.std.proofs.lemmas.Nat.{le-div}
use Rattle.layout_rules.specs.promise.Layout.{natural}
use Rattle.array_laws.specs.Pieces.{border}
use Rattle.fan_out.proofs.piece.answer.Goals as goal

between : (a b x y : ℤ) → a ≡ b → x ≡ y → b ≤ℤ x → a ≤ℤ y
between a b x y low high less = subst (λ z. z ≤ℤ y) (sym low) (subst (λ z. b ≤ℤ z) high less)

below : (a b : ℤ) (m n : ℕ) → a ≡ pos m → b ≡ pos n → m ≤ n → a ≤ℤ b
below a b m n first second less = between a (pos m) (pos n) b first (sym second) (omega (arith, ints, less))

-- no piece ends before it begins
rises : (items workers w : ℕ) → w < workers → border items workers w ≤ border items workers (w + 1)
rises items workers w less =
    let below = div-mul-le_self (w * items) workers in
    let more : (w + 1) * items ≡ w * items + items = omega arith in
    le-div (w * items / workers) ((w + 1) * items) workers (omega (arith, less)) (omega (arith, below, more))

pub run-requires-clause-window : goal.run-requires-clause-window
run-requires-clause-window g c =
    let from : to_z w64 (of_z w64 c.border_at-from.result) ≡ c.border_at-from.result = omega (arith, ints, c.border_at-from.type_inv) in
    let to : to_z w64 (of_z w64 c.border_at-to.result) ≡ c.border_at-to.result = omega (arith, ints, c.border_at-to.type_inv) in
    let count = c.count_rows-rows.result in
    let rows : to_z w64 (of_z w64 count) ≡ count = omega (arith, ints, c.count_rows-rows.type_inv) in
    let within : c.border_at-to.result ≤ℤ to_z w64 (of_z w64 count) = c.border_at-to.ensures.within in
    let first = from ∙ c.border_at-from.ensures.border in
    let second = to ∙ c.border_at-to.ensures.border in (
      below _ _ _ _ refl first (omega arith),
      below _ _ _ _ first second (rises (natural (to_z w64 (of_z w64 count))) c.args.workers c.args.worker c.requires.worker.0),
      between _ _ _ _ to (rows ∙ c.count_rows-rows.ensures) within,
    )
