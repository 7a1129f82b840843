-- Bytes that are stored by two copies, which overlap.
use Rattle.std.proofs.Common.{◌≡◌, ◌≤◌, ◌∙◌, ◌+◌, ◌++◌, ◌-◌, ℕ, List, length, take, drop, sym, ap, append_assoc, arith}
use Rattle.std.proofs.Math.Seq.{take-append-add}
use Rattle.std.proofs.lemmas.List.{length-drop, length-take-le, take-append-drop, take-take}

-- what stands behind the first bytes, once the first n of more were stored and then the last n
pub ends : (old more once twice first last : List ℕ) (at n rest : ℕ)
    → at ≤ length old → rest + n ≡ length more → rest ≤ n → first ≡ take n more → last ≡ drop rest more
    → take (at + length first) once ≡ take at old ++ first
    → take (at + rest + length last) twice ≡ take (at + rest) once ++ last
    → take (at + length more) twice ≡ take at old ++ more
ends old more once twice first last at n rest inside all few is-first is-last put-first put-last =
    let begin = take at old in
    let size : length begin ≡ at = length-take-le at old inside in
    let size-first : length first ≡ n = ap length is-first ∙ length-take-le n more (omega (arith, all)) in
    let size-last : length last ≡ length more - rest = ap length is-last ∙ length-drop rest more in
    let end : at + length more ≡ at + rest + length last = omega (arith, all, size-last) in
    let within : at + rest ≤ at + length first = omega (arith, few, size-first) in
    let front : take (at + rest) once ≡ begin ++ take rest more =
    sym (take-take (at + rest) (at + length first) once within)
    ∙ ap (take (at + rest)) put-first
    ∙ ap (λ k. take (k + rest) (begin ++ first)) (sym size)
    ∙ take-append-add begin first rest
    ∙ ap (λ (bs : List ℕ). begin ++ take rest bs) is-first
    ∙ ap (λ (bs : List ℕ). begin ++ bs) (take-take rest n more few) in
    ap (λ k. take k twice) end
    ∙ put-last
    ∙ ap (λ (bs : List ℕ). bs ++ last) front
    ∙ ap (λ (bs : List ℕ). (begin ++ take rest more) ++ bs) is-last
    ∙ append_assoc begin (take rest more) (drop rest more)
    ∙ ap (λ (bs : List ℕ). begin ++ bs) (take-append-drop rest more)
