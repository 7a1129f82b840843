-- The part of a chunk that a slice keeps is one window of its rows.
use Rattle.std.proofs.Common.{◌≡◌, ◌≤◌, ◌<◌, ℕ, suc, ◌+◌, ◌-◌, true, false, List, [], ◌∷◌, length, take, drop, refl, sym, ap, ◌∙◌, arith, inl, inr}
use Rattle.std.proofs.Math.Seq.{drop-nil, take-nil}
use Rattle.std.proofs.lemmas.Bool.{cases_lt, lt-ltb, le-ltb, le-leb, lt-leb}
use Rattle.data_types.specs.promise.Table.{Row}
use Rattle.stage_model.specs.promise.Stages.{sliced}
use Rattle.stage_model.specs.Stages.{is_within, window_end, window_start}

before-window : (off len number : ℕ) → number < off → is_within off len number ≡ false
before-window off len number h = rw (lt-leb off number h) refl

behind-window : (off len number : ℕ) → off + len ≤ number → is_within off len number ≡ false
behind-window off len number h = rw (le-leb off number (omega (arith, h)), le-ltb number (off + len) h) refl

in-window : (off len number : ℕ) → off ≤ number → number < off + len → is_within off len number ≡ true
in-window off len number h k = rw (le-leb off number h, lt-ltb number (off + len) k) refl

skipped : (m n k l : ℕ) (row : Row) (rows : List Row) → m ≡ l → n ≡ suc k → take m (drop n (row ∷ rows)) ≡ take l (drop k rows)
skipped m n k l row rows e f = rw (e, f) refl

kept : (m n k l : ℕ) (row : Row) (rows : List Row) → m ≡ suc l → n ≡ 0 → k ≡ 0 → take m (drop n (row ∷ rows)) ≡ row ∷ take l (drop k rows)
kept m n k l row rows e f g = rw (e, f, g) refl

nothing : (m n k l : ℕ) (row : Row) (rows : List Row) → m ≡ 0 → l ≡ 0 → take m (drop n (row ∷ rows)) ≡ take l (drop k rows)
nothing m n k l row rows e f = rw (e, f) refl

none : (m n : ℕ) → ◌≡◌ {A = List Row} (take m (drop n [])) []
none m n = rw (drop-nil n, take-nil m) refl

-- how many rows the window has
abbrev size : ℕ → ℕ → ℕ → ℕ → ℕ
size off len number count = window_end off len number count - window_start off number count

pub window-within : (off len number count : ℕ) → window_start off number count ≤ window_end off len number count
window-within off len number count = omega arith

pub window-few : (off len number count : ℕ) → window_end off len number count ≤ count
window-few off len number count = omega arith

pub sliced-window : (off len number : ℕ) (rows : List Row)
    → sliced off len number rows ≡ take (size off len number (length rows)) (drop (window_start off number (length rows)) rows)
sliced-window off len number [] = sym (none (size off len number 0) (window_start off number 0))
sliced-window off len number (row ∷ rows) =
    let more = sliced-window off len (number + 1) rows in
    let start = window_start off number (length (row ∷ rows)) in
    let now = size off len number (length (row ∷ rows)) in
    let next = window_start off (number + 1) (length rows) in
    let later = size off len (number + 1) (length rows) in
    elim (cases_lt number off) [
      | inl before ↦
          let skip = skipped now start next later row rows (omega (arith, before)) (omega (arith, before)) in
          rw (before-window off len number before) (more ∙ sym skip)
      | inr from ↦ elim (cases_lt number (off + len)) [
        | inl within ↦
            let keep = kept now start next later row rows (omega (arith, from, within)) (omega (arith, from)) (omega (arith, from)) in
            rw (in-window off len number from within) (ap (λ kept. row ∷ kept) more ∙ sym keep)
        | inr behind ↦
            let end = nothing now start next later row rows (omega (arith, behind)) (omega (arith, behind)) in
            rw (behind-window off len number behind) (more ∙ sym end)
      ]
    ]
