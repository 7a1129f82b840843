-- Pieces one behind another are the whole.
use Rattle.std.proofs.Common.{◌≡◌, ◌∙◌, ℕ, zero, suc, ◌+◌, ◌-◌, ◌*◌, ◌/◌, ◌<◌, ◌≤◌, List, ◌++◌, length, take, drop, refl, ap, sym, arith}
use Rattle.std.proofs.Math.Nat.{div-mul-le_self, mul-div_cancel_left}
use Rattle.std.proofs.Math.Seq.{take-length}
use Rattle.std.proofs.lemmas.Nat.{le-div}
use Rattle.array_laws.specs.Pieces.{border, joined_pieces}
use Rattle.array_laws.proofs.JoinedWindows.{joined}

front : {X : Type 0} → (from : ℕ → ℕ) (xs : List X) (w : ℕ) → ((k : ℕ) → from k ≤ from (suc k)) → from 0 ≡ 0 → joined_pieces from xs w ≡ take (from w) xs
front from xs zero rises start = let e : 0 ≡ from 0 = sym start in ap (λ n. take n xs) e
front from xs (suc w) rises start =
    let p : 0 + from w ≡ from w = omega arith in
    let q : from w + (from (suc w) - from w) ≡ from (suc w) = omega (arith, rises w) in
    ap (λ ys. ys ++ take (from (suc w) - from w) (drop (from w) xs)) (front from xs w rises start)
    ∙ ap (λ n. take (from w) xs ++ take (from (suc w) - from w) (drop n xs)) (sym p)
    ∙ joined xs 0 (from w) (from (suc w) - from w)
    ∙ ap (λ n. take n xs) q

pub border-rises : (items workers w : ℕ) → 0 < workers → border items workers w ≤ border items workers (suc w)
border-rises items workers w above =
    let a = div-mul-le_self (w * items) workers in
    let b : suc w * items ≡ w * items + items = omega arith in
    le-div (w * items / workers) (suc w * items) workers above (omega (arith, a, b))

pub border-start : (items workers : ℕ) → 0 < workers → border items workers 0 ≡ 0
border-start items workers above =
    let z : 0 * items ≡ 0 = omega arith in
    let e = div-mul-le_self 0 workers in
    let d : 0 / workers ≡ 0 = nothing (0 / workers) workers above e in
    ap (λ n. n / workers) z ∙ d
  where
    nothing : (q n : ℕ) → 0 < n → q * n ≤ 0 → q ≡ 0
    nothing zero n above le = refl
    nothing (suc q) n above le = let e : suc q * n ≡ q * n + n = omega arith in absurd (omega (arith, e, le, above))

pub border-end : (items workers : ℕ) → 0 < workers → border items workers workers ≡ items
border-end items workers above = mul-div_cancel_left items above

pub pieces-whole : {X : Type 0} → (xs : List X) (workers : ℕ) → 0 < workers → joined_pieces (border (length xs) workers) xs workers ≡ xs
pieces-whole xs workers above =
    front (border (length xs) workers) xs workers (λ k. border-rises (length xs) workers k above) (border-start (length xs) workers above)
    ∙ ap (λ n. take n xs) (border-end (length xs) workers above) ∙ take-length xs

rise-by : (items workers w k : ℕ) → 0 < workers → border items workers w ≤ border items workers (w + k)
rise-by items workers w zero above = let e : w + 0 ≡ w = omega arith in let f = ap (border items workers) e in omega (arith, f)
rise-by items workers w (suc k) above =
    let e : w + suc k ≡ suc (w + k) = omega arith in
    let f = ap (border items workers) e in
    let a = rise-by items workers w k above in
    let b = border-rises items workers (w + k) above in
    omega (arith, a, b, f)

pub piece-fits : (items workers w : ℕ) → w < workers → border items workers w + (border items workers (w + 1) - border items workers w) ≤ items
piece-fits items workers w lt =
    let above : 0 < workers = omega (arith, lt) in
    let a = rise-by items workers w 1 above in
    let b = rise-by items workers (w + 1) (workers - (w + 1)) above in
    let e : w + 1 + (workers - (w + 1)) ≡ workers = omega (arith, lt) in
    let f = ap (border items workers) e in
    let g = border-end items workers above in
    omega (arith, a, b, f, g)
