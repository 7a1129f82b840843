use Rattle.std.proofs.Common.{◌≡◌, ◌+◌, ◌-◌, ◌*◌, ◌/◌, ◌%◌, ◌^◌, ◌∙◌, ◌++◌, ◌∷◌, [], ℕ, true, false, List, replicate, arith, rules, ap, sym}
use Rattle.col_build.specs.promise.Encoding.{bit_bytes}
use Rattle.col_build.proofs.BitBytes.{bits-filled}
use Rattle.col_build.proofs.bits.fill_to_clear.Goals as goal

pub returns : goal.returns
returns c =
    let made : c.resize.new.self.items ≡ replicate (c.args.count / 8) 255 = search rules in
    let placed : c.push.new.self.items ≡ c.resize.new.self.items ++ (2 ^ (c.args.count % 8) - 1) ∷ [] = search rules in
    let parts : 8 * (c.args.count / 8) + c.args.count % 8 ≡ c.args.count = omega arith in
    placed ∙ ap (λ (bytes : List ℕ). bytes ++ (2 ^ (c.args.count % 8) - 1) ∷ []) made
    ∙ sym (bits-filled (c.args.count / 8) (c.args.count % 8) (omega arith))
    ∙ ap (λ n. bit_bytes (replicate n true ++ false ∷ [])) parts
