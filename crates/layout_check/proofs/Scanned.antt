-- What the scans over whole buffers show of each item.
use Rattle.std.proofs.Common.{◌≡◌, ℕ, zero, suc, ◌+◌, ◌-◌, ◌<◌, ◌≤◌, ◌&&◌, not, Bool, true, false, ℤ, pos, List, length, take, drop, Option, None, refl, ap}
use Rattle.std.proofs.Common.{◌∙◌, sym, subst, arith}
use Rattle.std.specs.Prelude.{IsUtf8}
use Rattle.std.specs.Str.{IsAscii, IsCharBoundary, is_utf8}
use Rattle.std.specs.Str.Lossy.{utf8_valid_len}
use Rattle.std.proofs.lemmas.List.{drop-take, take-take, drop-drop}
use Rattle.std.proofs.lemmas.Str.{IsAscii-take, IsAscii-drop, IsUtf8-from_ascii, IsUtf8-between, is_utf8-from_IsUtf8}
use Rattle.raw_array.specs.promise.Members.{ArrayMembers}
use Rattle.layout_rules.specs.declared.rule.Numbers.{Numbers}
use Rattle.layout_rules.specs.promise.Layout.{items, first, end, natural, offset, offset_in, bytes, data_of, is_valid, stored_number}
use Rattle.layout_rules.specs.promise.Rules.{fault_if, first_below, offsets_fall, index_wrong, is_outside}
use Rattle.layout_rules.specs.Rules.{not_text}
use Rattle.layout_check.specs.Scans.{used_data, outside_in, AreBorders}
use Rattle.layout_rules.proofs.Firsts.{first_below-none, first_below-none_at}
use Rattle.layout_rules.proofs.TextData.{offsets-from, offsets-rise, natural-rise, offsets-next, offsets-last, offsets-start}

-- no fault at each number, no fault below one
pub first_below-all : (f : ℕ → Option Numbers) (n : ℕ) → ((i : ℕ) → i < n → f i ≡ None) → first_below f n ≡ None
first_below-all f zero h = refl
first_below-all f (suc n) h =
    let same : n + 1 ≡ suc n = omega arith in
    sym (ap (first_below f) same) ∙ first_below-none f n (first_below-all f n (λ i l. h i (omega (arith, l)))) (h n (omega arith))

-- ---- borders

pub AreBorders-none : (wide : Bool) (offsets : List ℕ) (start base : ℕ) (text : List ℕ) → AreBorders wide offsets start base text 0
AreBorders-none wide offsets start base text = record { at = λ k l. absurd (omega (arith, l)) }

last_or_before : (P : ℕ → Type 0) (i k d : ℕ) → k + d ≡ i → ((j : ℕ) → j < i → P j) → P i → P k
last_or_before P i k zero e h p = subst P (let same : i ≡ k = omega (arith, e) in same) p
last_or_before P i k (suc d) e h p = h k (omega (arith, e))

pub AreBorders-more : (wide : Bool) (offsets : List ℕ) (start base : ℕ) (text : List ℕ) (n : ℕ)
    → AreBorders wide offsets start base text n → IsCharBoundary text (natural (offset_in wide offsets (start + n)) - base)
    → AreBorders wide offsets start base text (n + 1)
AreBorders-more wide offsets start base text n h b =
    record { at = λ k l. last_or_before (λ j. IsCharBoundary text (natural (offset_in wide offsets (start + j)) - base)) n k (n - k) (omega (arith, l)) h.at b }

pub ruleset borders = (AreBorders-none, AreBorders-more)

-- ---- the data of an item is a part of what is used

part : (d : List ℕ) (from before size rest : ℕ) → take size (drop before (take (before + (size + rest)) (drop from d))) ≡ take size (drop (from + before) d)
part d from before size rest =
    ap (take size) (drop-take before (size + rest) (drop from d))
    ∙ take-take size (size + rest) (drop before (drop from d)) (omega arith)
    ∙ ap (take size) (drop-drop before from d)

-- between four places that rise
part_of : (d : List ℕ) (from here next to : ℕ) → from ≤ here → here ≤ next → next ≤ to
    → take (next - here) (drop (here - from) (take (to - from) (drop from d))) ≡ take (next - here) (drop here d)
part_of d from here next to a b c =
    let whole : to - from ≡ (here - from) + ((next - here) + (to - next)) = omega (arith, a, b, c) in
    let place : from + (here - from) ≡ here = omega (arith, a) in
    ap (λ n. take (next - here) (drop (here - from) (take n (drop from d)))) whole
    ∙ part d from (here - from) (next - here) (to - next)
    ∙ ap (λ n. take (next - here) (drop n d)) place

module _ (wide : Bool) (own : ArrayMembers) (i : ℕ) (e : offsets_fall wide own ≡ None) (h : i < items own) where
  -- the places of an item's data: from, here, next, to
  pub from-here : natural (offset wide own (first own)) ≤ natural (offset wide own (first own + i))
  from-here = natural-rise (offset wide own (first own)) (offset wide own (first own + i)) (offsets-start wide own i e h).0 (offsets-start wide own i e h).1

  pub here-next : natural (offset wide own (first own + i)) ≤ natural (offset wide own (first own + i + 1))
  here-next = natural-rise (offset wide own (first own + i)) (offset wide own (first own + i + 1)) (offsets-from wide own i e h) (offsets-rise wide own i e h)

  pub next-to : natural (offset wide own (first own + i + 1)) ≤ natural (offset wide own (end own))
  next-to = natural-rise (offset wide own (first own + i + 1)) (offset wide own (end own)) (offsets-next wide own i e h) (offsets-last wide own i e h)

  pub item-part : take (natural (offset wide own (first own + i + 1)) - natural (offset wide own (first own + i)))
      (drop (natural (offset wide own (first own + i)) - natural (offset wide own (first own))) (used_data wide own)) ≡ data_of wide own i
  item-part =
      part_of (bytes own 2) (natural (offset wide own (first own))) (natural (offset wide own (first own + i))) (natural (offset wide own (first own + i + 1)))
      (natural (offset wide own (end own)))
      from-here here-next next-to

  -- a part of a text, between two places where characters begin
  pub text-between : IsUtf8 (used_data wide own)
      → AreBorders wide (bytes own 1) (first own) (natural (offset wide own (first own))) (used_data wide own) (items own + 1)
      → IsUtf8 (data_of wide own i)
  text-between u b =
      let from = natural (offset wide own (first own)) in
      let here = natural (offset wide own (first own + i)) in
      let next = natural (offset wide own (first own + i + 1)) in
      let place : first own + (i + 1) ≡ first own + i + 1 = omega arith in
      let size : (next - from) - (here - from) ≡ next - here = omega (arith, from-here, here-next) in
      let there : IsCharBoundary (used_data wide own) (next - from) =
      subst (λ p. IsCharBoundary (used_data wide own) (natural (offset wide own p) - from)) place (b.at (i + 1) (omega (arith, h))) in
      subst IsUtf8 (ap (λ n. take n (drop (here - from) (used_data wide own))) size ∙ item-part)
      (IsUtf8-between (used_data wide own) (here - from) (next - from) u (omega (arith, from-here, here-next))
      (b.at i (omega (arith, h))) there)

-- ---- texts

text-passes : (valid : Bool) (text : List ℕ) (i : ℕ) → IsUtf8 text
    → fault_if (valid && not (is_utf8 text)) i (pos (utf8_valid_len text)) (pos (length text)) ≡ None
text-passes true text i h = ap (λ b. fault_if (not b) i (pos (utf8_valid_len text)) (pos (length text))) (is_utf8-from_IsUtf8 text h)
text-passes false text i h = refl

pub ascii-passes : (wide : Bool) (own : ArrayMembers) → offsets_fall wide own ≡ None → IsAscii (used_data wide own)
    → first_below (not_text wide own) (items own) ≡ None
ascii-passes wide own e h = first_below-all (not_text wide own) (items own) (λ i l.
    let before = natural (offset wide own (first own + i)) - natural (offset wide own (first own)) in
    let size = natural (offset wide own (first own + i + 1)) - natural (offset wide own (first own + i)) in
    text-passes (is_valid own i) (data_of wide own i) i
    (subst IsUtf8 (item-part wide own i e l) (IsUtf8-from_ascii (take size (drop before (used_data wide own)))
    (IsAscii-take (drop before (used_data wide own)) size (IsAscii-drop (used_data wide own) before h)))))

pub borders-pass : (wide : Bool) (own : ArrayMembers) → offsets_fall wide own ≡ None → IsUtf8 (used_data wide own)
    → AreBorders wide (bytes own 1) (first own) (natural (offset wide own (first own))) (used_data wide own) (items own + 1)
    → first_below (not_text wide own) (items own) ≡ None
borders-pass wide own e u b =
    first_below-all (not_text wide own) (items own) (λ i l. text-passes (is_valid own i) (data_of wide own i) i (text-between wide own i e l u b))

pub no-texts : (wide : Bool) (own : ArrayMembers) → items own ≡ 0 → first_below (not_text wide own) (items own) ≡ None
no-texts wide own e = ap (first_below (not_text wide own)) e

pub ruleset texts = (ascii-passes, borders-pass, no-texts)

-- ---- indices

index-passes : (valid outside : Bool) (i : ℕ) (index total : ℤ) → fault_if outside i index total ≡ None → fault_if (valid && outside) i index total ≡ None
index-passes true outside i index total e = e
index-passes false outside i index total e = refl

pub inside-passes : (width : ℕ) (signed : Bool) (own : ArrayMembers) (total : ℤ)
    → first_below (outside_in width signed (bytes own 1) (first own) total) (items own) ≡ None
    → first_below (index_wrong width signed own total) (items own) ≡ None
inside-passes width signed own total e = first_below-all (index_wrong width signed own total) (items own) (λ i l.
    index-passes (is_valid own i) (is_outside total (stored_number width signed own i)) i (stored_number width signed own i) total
    (first_below-none_at (outside_in width signed (bytes own 1) (first own) total) (items own) i l e))

pub ruleset indices = (inside-passes)
