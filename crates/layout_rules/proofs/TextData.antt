-- Where the data of a text's items lies.
use Rattle.std.proofs.Common.{◌≡◌, ℕ, zero, suc, ◌+◌, ◌-◌, ◌<◌, ◌≤◌, ◌==◌, Bool, true, false, ℤ, pos, negsuc, List, length, Option, None, refl, subst}
use Rattle.std.proofs.Common.{true≢false, arith}
use Rattle.std.specs.Prelude.{if◌then◌else◌, int_lt, nat_lt, ◌≤ℤ◌, IsUtf8, ◌||◌}
use Rattle.std.specs.Int.Signed.{≤ℤ_refl}
use Rattle.std.specs.Str.{is_utf8}
use Rattle.std.proofs.lemmas.Str.{IsUtf8-from_is_utf8, is_utf8-from_IsUtf8}
use Rattle.raw_array.specs.promise.Members.{ArrayMembers}
use Rattle.layout_rules.specs.declared.rule.Numbers.{Numbers}
use Rattle.layout_rules.specs.promise.Layout.{items, first, end, natural, offset, bytes, offsets_need, data_need}
use Rattle.layout_rules.specs.promise.Rules.{fault_if, fault, is_negative, first_below, offsets_fall}
use Rattle.layout_rules.specs.Rules.{offset_falls}
use Rattle.layout_rules.proofs.Firsts.{first_below-none_at}

-- ---- the test

not_true : (b : Bool) → ¬ (b ≡ true) → b ≡ false
not_true true h = absurd (h refl)
not_true false h = refl

pub is_utf8-yes : (bs : List ℕ) → IsUtf8 bs → is_utf8 bs ≡ true
is_utf8-yes = is_utf8-from_IsUtf8

pub is_utf8-no : (bs : List ℕ) → ¬ (IsUtf8 bs) → is_utf8 bs ≡ false
is_utf8-no bs h = not_true (is_utf8 bs) (λ e. h (IsUtf8-from_is_utf8 bs e))

pub ruleset utf8 = (is_utf8-yes, is_utf8-no)

-- ---- offsets that rise

trans-≤ℤ : (a b c : ℤ) → a ≤ℤ b → b ≤ℤ c → a ≤ℤ c
trans-≤ℤ a b c h k = grind arith

not_negative : (z : ℤ) → is_negative z ≡ false → pos 0 ≤ℤ z
not_negative (pos n) e = grind arith
not_negative (negsuc n) e = absurd (true≢false e)

no_fall : (i : ℕ) (here next : ℤ) → fault_if (int_lt next here) i here next ≡ None → here ≤ℤ next
no_fall i here next e = grind arith

parts : (none : Bool) (z : ℤ) (rest : Option Numbers) → none ≡ false
    → (if none then None else if is_negative z then fault 0 (pos 0) z else rest) ≡ None
    → (is_negative z ≡ false) × (rest ≡ None)
parts true z rest h e = absurd (true≢false h)
parts false (pos m) rest h e = (refl, e)
parts false (negsuc m) rest h e = grind arith

pub not_zero : (n : ℕ) → 0 < n → (n == 0) ≡ false
not_zero n h = grind arith

-- from any place to one behind it
rise : (f : ℕ → ℤ) (a n : ℕ) → ((i : ℕ) → i < n → f (a + i) ≤ℤ f (a + i + 1)) → (i k : ℕ) → i + k ≤ n → f (a + i) ≤ℤ f (a + i + k)
rise f a n h i zero l =
    let same : a + i ≡ a + i + 0 = omega arith in
    subst (λ p. f (a + i) ≤ℤ f p) same (≤ℤ_refl (f (a + i)))
rise f a n h i (suc k) l =
    let here : a + (i + k) ≡ a + i + k = omega arith in
    let next : a + (i + k) + 1 ≡ a + i + suc k = omega arith in
    trans-≤ℤ (f (a + i)) (f (a + i + k)) (f (a + i + suc k))
    (rise f a n h i k (omega (arith, l)))
    (subst (λ p. f p ≤ℤ f (a + i + suc k)) here (subst (λ p. f (a + (i + k)) ≤ℤ f p) next (h (i + k) (omega (arith, l)))))

pub natural-rise : (a b : ℤ) → pos 0 ≤ℤ a → a ≤ℤ b → natural a ≤ natural b
natural-rise (pos a) (pos b) h k = grind arith
natural-rise (pos a) (negsuc b) h k = grind arith
natural-rise (negsuc a) b h k = grind arith

pub natural-within : (z : ℤ) (size : ℕ) → z ≤ℤ pos size → natural z ≤ size
natural-within (pos n) size h = grind arith
natural-within (negsuc n) size h = omega arith

pub not_below : (a b : ℤ) → pos 0 ≤ℤ a → a ≤ℤ b → pos 0 ≤ℤ b
not_below a b h k = trans-≤ℤ (pos 0) a b h k

pub ruleset naturals = (natural-rise, natural-within, not_below)

steps : (wide : Bool) (own : ArrayMembers) → first_below (offset_falls wide own) (items own) ≡ None
    → (i : ℕ) → i < items own → offset wide own (first own + i) ≤ℤ offset wide own (first own + i + 1)
steps wide own e i h =
    no_fall i (offset wide own (first own + i)) (offset wide own (first own + i + 1)) (first_below-none_at (offset_falls wide own) (items own) i h e)

within : (places found needed size : ℕ) (z : ℤ) → 0 < places → needed ≤ found
    → (if (places == 0) || nat_lt found needed then 0 else natural z) ≤ size → z ≤ℤ pos size
within places found needed size (pos n) h l e = grind arith
within places found needed size (negsuc n) h l e = grind arith

-- ---- the offsets of an item
module _ (wide : Bool) (own : ArrayMembers) (i : ℕ) (e : offsets_fall wide own ≡ None) (h : i < items own) where
  fall_parts : (is_negative (offset wide own (first own)) ≡ false) × (first_below (offset_falls wide own) (items own) ≡ None)
  fall_parts = parts (end own == 0) (offset wide own (first own)) (first_below (offset_falls wide own) (items own)) (not_zero (end own) (omega (arith, h))) e

  -- each offset of an item is at least 0, no more than the next one, and within the data
  pub offsets-from : pos 0 ≤ℤ offset wide own (first own + i)
  offsets-from =
      let start : first own ≡ first own + 0 = omega arith in
      let place : first own + 0 + i ≡ first own + i = omega arith in
      trans-≤ℤ (pos 0) (offset wide own (first own + 0)) (offset wide own (first own + i))
      (subst (λ k. pos 0 ≤ℤ offset wide own k) start (not_negative (offset wide own (first own)) fall_parts.0))
      (subst (λ k. offset wide own (first own + 0) ≤ℤ offset wide own k) place
      (rise (offset wide own) (first own) (items own) (steps wide own fall_parts.1) 0 i (omega (arith, h))))

  pub offsets-rise : offset wide own (first own + i) ≤ℤ offset wide own (first own + i + 1)
  offsets-rise = steps wide own fall_parts.1 i h

  -- the first offset is at least 0, and no more than an item's
  pub offsets-start : (pos 0 ≤ℤ offset wide own (first own)) × (offset wide own (first own) ≤ℤ offset wide own (first own + i))
  offsets-start =
      let start : first own + 0 ≡ first own = omega arith in
      let place : first own + 0 + i ≡ first own + i = omega arith in (
        not_negative (offset wide own (first own)) fall_parts.0,
        subst (λ k. offset wide own k ≤ℤ offset wide own (first own + i)) start
            (subst (λ k. offset wide own (first own + 0) ≤ℤ offset wide own k) place
            (rise (offset wide own) (first own) (items own) (steps wide own fall_parts.1) 0 i (omega (arith, h)))),
      )

  pub offsets-next : pos 0 ≤ℤ offset wide own (first own + i + 1)
  offsets-next = trans-≤ℤ (pos 0) (offset wide own (first own + i)) (offset wide own (first own + i + 1)) offsets-from offsets-rise

  pub offsets-last : offset wide own (first own + i + 1) ≤ℤ offset wide own (end own)
  offsets-last =
      let here : first own + (i + 1) ≡ first own + i + 1 = omega arith in
      let last : first own + (i + 1) + (items own - (i + 1)) ≡ end own = omega (arith, h) in
      subst (λ k. offset wide own k ≤ℤ offset wide own (end own)) here
      (subst (λ k. offset wide own (first own + (i + 1)) ≤ℤ offset wide own k) last
      (rise (offset wide own) (first own) (items own) (steps wide own fall_parts.1) (i + 1) (items own - (i + 1)) (omega (arith, h))))

  pub offsets-within : offsets_need wide (end own) ≤ length (bytes own 1) → data_need wide own ≤ length (bytes own 2)
      → offset wide own (first own + i + 1) ≤ℤ pos (length (bytes own 2))
  offsets-within long stored =
      trans-≤ℤ (offset wide own (first own + i + 1)) (offset wide own (end own)) (pos (length (bytes own 2)))
      offsets-last
      (within (end own) (length (bytes own 1)) (offsets_need wide (end own)) (length (bytes own 2)) (offset wide own (end own)) (omega (arith, h)) long stored)

-- ---- the borders of a window
module _ (wide : Bool) (own : ArrayMembers) (e : offsets_fall wide own ≡ None) (h : 0 < items own) where
  -- the offsets at the borders of a window of some items
  pub border-from : pos 0 ≤ℤ offset wide own (first own)
  border-from = (offsets-start wide own 0 e h).0

  pub border-rise : offset wide own (first own) ≤ℤ offset wide own (end own)
  border-rise =
      trans-≤ℤ (offset wide own (first own)) (offset wide own (first own + 0)) (offset wide own (end own)) (offsets-start wide own 0 e h).1
      (trans-≤ℤ (offset wide own (first own + 0)) (offset wide own (first own + 0 + 1)) (offset wide own (end own)) (offsets-rise wide own 0 e h)
      (offsets-last wide own 0 e h))

  pub border-within : offsets_need wide (end own) ≤ length (bytes own 1) → data_need wide own ≤ length (bytes own 2)
      → offset wide own (end own) ≤ℤ pos (length (bytes own 2))
  border-within long stored =
      within (end own) (length (bytes own 1)) (offsets_need wide (end own)) (length (bytes own 2)) (offset wide own (end own)) (omega (arith, h)) long stored

pub ruleset borders_lie = (border-from, border-rise, border-within)

pub ruleset items_lie = (offsets-from, offsets-rise, offsets-within)
