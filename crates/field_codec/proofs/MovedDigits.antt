-- The digits in front of a point, moved one place ahead with the bytes before them, so that the point is behind them.
use Rattle.std.proofs.Common.{◌≡◌, ℕ, ◌+◌, ◌-◌, ◌/◌, ◌^◌, ◌<◌, ◌≤◌, List, ◌∷◌, ◌++◌, length, take, drop, set, get_or, refl, sym, ap}
use Rattle.std.proofs.Common.{◌∙◌, append_assoc, arith, length-append, length-drop}
use Rattle.std.specs.Fmt.{decimal}
use Rattle.std.proofs.lemmas.List.{append-nil, drop-append-le, drop-drop, drop-take, drop_all, drop_at, drop_more}
use Rattle.std.proofs.lemmas.List.{length-set, length-take-le, set-append_right, set_at, take_at}
use Rattle.data_types.specs.promise.FieldText.{last_digits, point_text}
use Rattle.field_codec.proofs.DigitText.{behind_byte, wide}
use Rattle.field_codec.proofs.PointText.{length-last_digits, point_is, split_digits}

-- `before` bytes are left as they are, then sixteen, `none` of which are before the digits
module _ (text bytes whole fraction : List ℕ) (before none : ℕ) (sixteen : none + length whole ≡ 16) (within : before + 17 ≤ length text)
    (is : drop (before + 1 + none) text ≡ whole ++ fraction) (copied : bytes ≡ take 16 (drop (before + 1) text)) where
  left : length (take before text) ≡ before
  left = length-take-le before text (omega (arith, within))

  all_sixteen : length bytes ≡ 16
  all_sixteen = ap (λ (ds : List ℕ). length ds) copied ∙ length-take-le 16 (drop (before + 1) text) (omega (arith, length-drop (before + 1) text, within))

  digits_of : drop none bytes ≡ whole
  digits_of =
      ap (drop none) copied
      ∙ ap (λ (k : ℕ). drop none (take k (drop (before + 1) text))) (sym sixteen)
      ∙ drop-take none (length whole) (drop (before + 1) text)
      ∙ ap (take (length whole)) (drop-drop none (before + 1) text ∙ is)
      ∙ take_at whole fraction (length whole) refl

  behind : drop (before + 16 + 1) text ≡ fraction
  behind =
      let place : before + 16 + 1 ≡ before + 1 + none + length whole = omega (arith, sixteen) in
      ap (λ (k : ℕ). drop k text) place ∙ sym (drop-drop (length whole) (before + 1 + none) text)
      ∙ ap (drop (length whole)) is ∙ drop_at whole fraction (length whole) refl

  put : set (take before text ++ (bytes ++ drop (before + 16) text)) (before + 16) 46 ≡ take before text ++ (bytes ++ (46 ∷ fraction))
  put =
      let place : before + 16 - before ≡ 16 = omega arith in
      let last = drop_more text (before + 16) 0 (omega (arith, within)) in
      set-append_right (take before text) (bytes ++ drop (before + 16) text) before (before + 16) 46 left (omega arith)
      ∙ ap (λ (k : ℕ). take before text ++ set (bytes ++ drop (before + 16) text) k 46) place
      ∙ ap (λ (ds : List ℕ). take before text ++ set (bytes ++ ds) 16 46) last
      ∙ ap (λ (ds : List ℕ). take before text ++ ds) (set_at bytes (get_or text (before + 16) 0) (drop (before + 16 + 1) text) 46 16 all_sixteen)
      ∙ ap (λ (ds : List ℕ). take before text ++ (bytes ++ (46 ∷ ds))) behind

  pointed_sixteen : drop (before + none) (set (take before text ++ (bytes ++ drop (before + 16) text)) (before + 16) 46) ≡ whole ++ (46 ∷ fraction)
  pointed_sixteen =
      ap (drop (before + none)) put
      ∙ sym (drop-drop none before (take before text ++ (bytes ++ (46 ∷ fraction))))
      ∙ ap (drop none) (drop_at (take before text) (bytes ++ (46 ∷ fraction)) before left)
      ∙ drop-append-le none bytes (46 ∷ fraction) (omega (arith, sixteen, all_sixteen))
      ∙ ap (λ (ds : List ℕ). ds ++ (46 ∷ fraction)) digits_of

-- the same by the places at which the digits start and end
moved_point : (text new whole fraction : List ℕ) (start end : ℕ) → 17 ≤ end → end ≤ length text → start + length whole ≡ end → end ≤ start + 16
    → drop start text ≡ whole ++ fraction → new ≡ take (end - 17) text ++ take 16 (drop (end - 16) text) ++ drop (end - 1) text
    → drop (start - 1) (set new (end - 1) 46) ≡ whole ++ (46 ∷ fraction)
moved_point text new whole fraction start end room within ends few is copied =
    let before = end - 17 in
    let none = start + 16 - end in
    let first : end - 16 ≡ before + 1 = omega (arith, room) in
    let last : end - 1 ≡ before + 16 = omega (arith, room) in
    let at : start - 1 ≡ before + none = omega (arith, room, ends, few) in
    let from : before + 1 + none ≡ start = omega (arith, room, ends, few) in
    let bytes = take 16 (drop (end - 16) text) in
    ap (λ (ds : List ℕ). drop (start - 1) (set ds (end - 1) 46)) (copied ∙ append_assoc (take before text) bytes (drop (end - 1) text))
    ∙ ap (λ (k : ℕ). drop k (set (take before text ++ (bytes ++ drop (end - 1) text)) (end - 1) 46)) at
    ∙ ap (λ (k : ℕ). drop (before + none) (set (take before text ++ (bytes ++ drop k text)) k 46)) last
    ∙ pointed_sixteen text bytes whole fraction before none (omega (arith, ends, few)) (omega (arith, room, within)) (ap (λ (k : ℕ). drop k text) from ∙ is)
    (ap (λ (k : ℕ). take 16 (drop k text)) first)

-- the text of a decimal with one to sixteen digits in front of its point, from the digits of its number
module _ (places n start : ℕ) (text new old : List ℕ) (small : n < 2 ^ 64) (some : 0 < places) (few : places ≤ 18) (room : length old ≡ 40)
    (size : length text ≡ 40) (starts : start + length (decimal n) ≡ 40) (front : start < 40 - places) (short : 40 - places ≤ start + 16)
    (written : drop start text ≡ decimal n ++ drop 40 old)
    (copied : new ≡ take (40 - places - 17) text ++ take 16 (drop (40 - places - 16) text) ++ drop (40 - places - 1) text) where
  pub moved_digits : drop (start - 1) (set new (40 - places - 1) 46) ≡ point_text places n
  moved_digits =
      let whole : List ℕ = decimal (n / 10 ^ places) in
      let fraction : List ℕ = last_digits 10 places n in
      let split = split_digits places n (wide n small) (omega (arith, starts, front, few)) in
      let len = ap (λ (ds : List ℕ). length ds) split in
      let all : drop start text ≡ whole ++ fraction =
      written ∙ ap (λ (ds : List ℕ). decimal n ++ ds) (drop_all 40 old (omega (arith, room))) ∙ append-nil (decimal n) ∙ split in
      moved_point text new whole fraction start (40 - places) (omega (arith, few)) (omega (arith, size))
      (omega (arith, starts, front, few, len, length-append whole fraction, length-last_digits places n)) short all copied
      ∙ sym (point_is places n some)

  pub moved_minus : length new ≡ 40 → drop (start - 2) (set (set new (40 - places - 1) 46) (start - 2) 45) ≡ 45 ∷ point_text places n
  moved_minus still =
      let pointed = set new (40 - places - 1) 46 in
      let next : start - 1 - 1 ≡ start - 2 = omega arith in
      let within : start - 1 ≤ length pointed = omega (arith, front, still, length-set new (40 - places - 1) 46) in
      ap (λ (k : ℕ). drop k (set pointed k 45)) (sym next)
      ∙ behind_byte pointed (point_text places n) (start - 1) 45 (omega (arith, few, short)) within moved_digits
