use Rattle.std.proofs.Common.{◌≡◌, ◌≤◌, ◌∙◌, ℕ, zero, suc, [], ◌∷◌, replicate, take, refl, ap, arith, rules}
use Rattle.col_build.proofs.adds.fill_first.Goals as goal

zeros : (n : ℕ) → 4 ≤ n → take {A = ℕ} 4 (replicate n 0) ≡ 0 ∷ 0 ∷ 0 ∷ 0 ∷ []
zeros zero some = absurd (omega arith)
zeros (suc zero) some = absurd (omega arith)
zeros (suc (suc zero)) some = absurd (omega arith)
zeros (suc (suc (suc zero))) some = absurd (omega arith)
zeros (suc (suc (suc (suc n)))) some = refl

pub returns-in-Ok : goal.returns-in-Ok
returns-in-Ok c =
    let made : c.resize.new.self.items ≡ replicate c.args.end 0 = search rules in
    ap (take {A = ℕ} 4) made ∙ zeros c.args.end c.requires.some
