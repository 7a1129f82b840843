-- How many bytes stand as escapes, of some bytes and of a piece of them.
use Rattle.std.proofs.Common.{◌≡◌, ◌∙◌, ℕ, suc, ◌+◌, ◌-◌, ◌*◌, ◌<◌, ◌≤◌, Bool, true, false, List, inl, inr, [], ◌∷◌, ◌++◌, length, get_or, take, drop}
use Rattle.std.proofs.Common.{ap, refl, sym, arith, length-append}
use Rattle.std.specs.Prelude.{if◌then◌else◌}
use Rattle.std.proofs.lemmas.List.{get_or_append_left, length-drop, length-take-le, take_more}
use Rattle.std.proofs.lemmas.Bool.{cases_eq}
use Rattle.std.proofs.Math.Seq.{get_or-append_seam, take-add}
use Rattle.data_types.specs.promise.ValueTexts.{byte_text, is_plain, value_text}
use Rattle.data_types.specs.ValueTexts.{bytes_text}
use Rattle.data_types.specs.promise.Value.{Bytes}
use Rattle.value_text.specs.Escapes.{CountsEscapes, escapes}
use Rattle.value_text.specs.Lengths.{capped, text_length}

byte-long : (byte : ℕ) → length (byte_text byte) ≡ 1 + 2 * (if is_plain byte then 0 else 1)
byte-long byte = by (is_plain byte) refl
  where
    by : (b : Bool) → is_plain byte ≡ b → length (byte_text byte) ≡ 1 + 2 * (if is_plain byte then 0 else 1)
    by true e = simp e refl
    by false e = simp e refl

pub escape-long : (bytes : List ℕ) → length (bytes_text bytes) ≡ length bytes + 2 * escapes bytes
escape-long [] = refl
escape-long (byte ∷ bytes) =
    let both : length (bytes_text (byte ∷ bytes)) ≡ length (byte_text byte) + length (bytes_text bytes) = length-append (byte_text byte) (bytes_text bytes) in
    omega (arith, both, byte-long byte, escape-long bytes)

pub escapes-append : (before after : List ℕ) → escapes (before ++ after) ≡ escapes before + escapes after
escapes-append [] after = omega arith
escapes-append (byte ∷ before) after = omega (arith, escapes-append before after)

pub escapes-more : (bytes : List ℕ) (n : ℕ) → n < length bytes
    → escapes (take (n + 1) bytes) ≡ escapes (take n bytes) + (if is_plain (get_or bytes n 0) then 0 else 1)
escapes-more bytes n inside =
    ap escapes (take_more bytes n 0 inside)
    ∙ escapes-append (take n bytes) (get_or bytes n 0 ∷ [])
    ∙ (let none : (if is_plain (get_or bytes n 0) then 0 else 1) + 0 ≡ (if is_plain (get_or bytes n 0) then 0 else 1) = omega arith in
    ap (λ k. escapes (take n bytes) + k) none)

pub piece-long : (counts bytes : List ℕ) (from size : ℕ) → CountsEscapes counts bytes → from + size < length counts
    → text_length (Bytes (take size (drop from bytes))) ≡ capped (size + 2 * (get_or counts (from + size) 0 - get_or counts from 0) + 1)
piece-long counts bytes from size known inside =
    let piece = take size (drop from bytes) in
    let all : from + size ≤ length bytes = omega (arith, known.many, inside) in
    let both : escapes (take (from + size) bytes) ≡ escapes (take from bytes) + escapes piece =
    ap escapes (take-add from size bytes) ∙ escapes-append (take from bytes) piece in
    let last = known.each (from + size) all in
    let here = known.each from (omega (arith, all)) in
    let sized : length piece ≡ size = length-take-le size (drop from bytes) (omega (arith, length-drop from bytes, all)) in
    let long : length (value_text (Bytes piece)) ≡ suc (length (bytes_text piece)) = refl in
    omega (arith, both, last, here, sized, escape-long piece, long)

-- those of one byte more
pub counts-more : (counts bytes : List ℕ) (i x : ℕ) → length counts ≡ i + 1 → ((n : ℕ) → n ≤ i → get_or counts n 0 ≡ escapes (take n bytes))
    → x ≡ escapes (take (i + 1) bytes) → (n : ℕ) → n ≤ i + 1 → get_or (counts ++ x ∷ []) n 0 ≡ escapes (take n bytes)
counts-more counts bytes i x many before last n upto =
    elim (cases_eq n (i + 1)) [
      | inl e ↦
          let there : n ≡ length counts = omega (arith, e, many) in
          ap (λ k. get_or (counts ++ x ∷ []) k 0) there
          ∙ get_or-append_seam counts x [] 0 ∙ last ∙ ap (λ k. escapes (take k bytes)) (sym e)
      | inr other ↦
          get_or_append_left counts (x ∷ []) 0 n (omega (arith, upto, other, many)) ∙ before n (omega (arith, upto, other))
    ]
