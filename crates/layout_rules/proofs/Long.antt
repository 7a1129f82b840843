-- A buffer that is there where something is needed, and not short, is as long as its need.
use Rattle.std.proofs.Common.{◌≡◌, ℕ, ◌≤◌, ◌<◌, ◌*◌, ◌&&◌, not, Bool, pos, List, length, Option, None, Some, arith, suc, ◌-◌, subst}
use Rattle.std.specs.Prelude.{is_some, nat_lt, max, if◌then◌else◌}
use Rattle.raw_array.specs.promise.Members.{ArrayMembers}
use Rattle.layout_rules.specs.declared.layout.Layout.{Layout}
use Rattle.layout_rules.specs.declared.layout.Layout.TheVariants.{ByOffsets, ListOffsets, FixedWidth, TruthBits, Views}
use Rattle.layout_rules.specs.promise.Layout.{bytes_or_none, buffer, buffer_count, bytes, offsets_need, data_need, end, need}
use Rattle.layout_rules.specs.Layout.{bits_need, IsLong, IsLongIfPresent}
use Rattle.layout_rules.specs.promise.Layout.{view_width, data_buffers, data_place, data_length, data_lengths, lengths_need}
use Rattle.layout_rules.specs.promise.Rules.{fault_if, first_below, buffer_absent}
use Rattle.layout_rules.specs.Rules.{buffer_short}
use Rattle.layout_rules.specs.Within.{AreThere}
use Rattle.layout_rules.proofs.Firsts.{first_below-none_at}

long_enough : (b : Option (List ℕ)) (needed k : ℕ)
    → fault_if (not (is_some b) && nat_lt 0 needed) k (pos 0) (pos needed) ≡ None
    → fault_if (is_some b && nat_lt (length (bytes_or_none b)) needed) k (pos (length (bytes_or_none b))) (pos needed) ≡ None
    → needed ≤ length (bytes_or_none b)
long_enough None needed k e f = grind arith
long_enough (Some b) needed k e f = grind arith

pub long-bytes : (wide : Bool) (own : ArrayMembers) → first_below (buffer_absent (ByOffsets wide) own) 3 ≡ None
    → first_below (buffer_short (ByOffsets wide) own) 3 ≡ None → offsets_need wide (end own) ≤ length (bytes own 1)
long-bytes wide own e f =
    long_enough (buffer own 1) (offsets_need wide (end own)) 1
    (first_below-none_at (buffer_absent (ByOffsets wide) own) 3 1 (omega arith) e)
    (first_below-none_at (buffer_short (ByOffsets wide) own) 3 1 (omega arith) f)

pub long-data : (wide : Bool) (own : ArrayMembers) → first_below (buffer_absent (ByOffsets wide) own) 3 ≡ None
    → first_below (buffer_short (ByOffsets wide) own) 3 ≡ None → data_need wide own ≤ length (bytes own 2)
long-data wide own e f =
    long_enough (buffer own 2) (data_need wide own) 2
    (first_below-none_at (buffer_absent (ByOffsets wide) own) 3 2 (omega arith) e)
    (first_below-none_at (buffer_short (ByOffsets wide) own) 3 2 (omega arith) f)

pub long-list : (wide : Bool) (own : ArrayMembers) → first_below (buffer_absent (ListOffsets wide) own) 2 ≡ None
    → first_below (buffer_short (ListOffsets wide) own) 2 ≡ None → offsets_need wide (end own) ≤ length (bytes own 1)
long-list wide own e f =
    long_enough (buffer own 1) (offsets_need wide (end own)) 1
    (first_below-none_at (buffer_absent (ListOffsets wide) own) 2 1 (omega arith) e)
    (first_below-none_at (buffer_short (ListOffsets wide) own) 2 1 (omega arith) f)

pub long-fixed : (width : ℕ) (own : ArrayMembers) → first_below (buffer_absent (FixedWidth width) own) 2 ≡ None
    → first_below (buffer_short (FixedWidth width) own) 2 ≡ None → end own * width ≤ length (bytes own 1)
long-fixed width own e f =
    long_enough (buffer own 1) (end own * width) 1
    (first_below-none_at (buffer_absent (FixedWidth width) own) 2 1 (omega arith) e)
    (first_below-none_at (buffer_short (FixedWidth width) own) 2 1 (omega arith) f)

-- a validity buffer that is there has a bit for each place

bits_enough : (bits bytes : ℕ) → bits_need bits ≤ bytes → bits ≤ 8 * bytes
bits_enough bits bytes h = omega (arith, h)

not_short : (b : List ℕ) (needed : ℕ) → fault_if (nat_lt (length b) needed) 0 (pos (length b)) (pos needed) ≡ None → needed ≤ length b
not_short b needed e = grind arith

long_bits : (b : Option (List ℕ)) (places : ℕ)
    → fault_if (is_some b && nat_lt (length (bytes_or_none b)) (bits_need places)) 0 (pos (length (bytes_or_none b))) (pos (bits_need places)) ≡ None
    → IsLong places b
long_bits None places e = tt
long_bits (Some b) places e = bits_enough places (length b) (not_short b (bits_need places) e)

pub long-truth : (own : ArrayMembers) → first_below (buffer_absent TruthBits own) 2 ≡ None → first_below (buffer_short TruthBits own) 2 ≡ None
    → end own ≤ 8 * length (bytes own 1)
long-truth own e f =
    bits_enough (end own) (length (bytes own 1))
    (long_enough (buffer own 1) (bits_need (end own)) 1
    (first_below-none_at (buffer_absent TruthBits own) 2 1 (omega arith) e)
    (first_below-none_at (buffer_short TruthBits own) 2 1 (omega arith) f))

pub long-validity : (layout : Layout) (own : ArrayMembers) → first_below (buffer_short layout own) (buffer_count layout (length own.buffers)) ≡ None
    → 0 < buffer_count layout (length own.buffers) → IsLongIfPresent own
long-validity layout own e h =
    long_bits (buffer own 0) (end own) (first_below-none_at (buffer_short layout own) (buffer_count layout (length own.buffers)) 0 h e)

-- ---- views

least : (n : ℕ) → n ≡ max 3 n → 3 ≤ n
least n e = omega (arith, e)

most : (n : ℕ) → 3 ≤ n → max 3 n ≡ n
most n h = omega (arith, h)

-- views have three buffers at least
pub some_views : (own : ArrayMembers) → length own.buffers ≡ buffer_count Views (length own.buffers) → 3 ≤ length own.buffers
some_views own e = least (length own.buffers) e

at_least : (n : ℕ) → 3 ≤ max 3 n
at_least n = omega arith

at_most : (n k : ℕ) → k < n - 3 → suc (suc k) < max 3 n
at_most n k h = omega (arith, h)

behind : (n : ℕ) → suc (suc (n - 3)) < max 3 n
behind n = omega arith

below : (k n a b : ℕ) → k < n → (if nat_lt k n then a else b) ≡ a
below k n a b h = grind arith

not_below : (n a b : ℕ) → (if nat_lt n n then a else b) ≡ b
not_below n a b = grind arith

module _ (own : ArrayMembers) (e : first_below (buffer_absent Views own) (buffer_count Views (length own.buffers)) ≡ None)
    (f : first_below (buffer_short Views own) (buffer_count Views (length own.buffers)) ≡ None) where
  -- a buffer of views is as long as its need
  long-at : (k : ℕ) → suc k < buffer_count Views (length own.buffers) → need Views own (suc k) ≤ length (bytes own (suc k))
  long-at k h =
      long_enough (buffer own (suc k)) (need Views own (suc k)) (suc k)
      (first_below-none_at (buffer_absent Views own) (buffer_count Views (length own.buffers)) (suc k) h e)
      (first_below-none_at (buffer_short Views own) (buffer_count Views (length own.buffers)) (suc k) h f)

  pub long-views : end own * view_width ≤ length (bytes own 1)
  long-views = long-at 0 (omega (arith, at_least (length own.buffers)))

  pub long-lengths : lengths_need own ≤ length (data_lengths own)
  long-lengths =
      let here = long-at (suc (data_buffers own)) (behind (length own.buffers)) in
      let place : suc (suc (data_buffers own)) ≡ data_place (data_buffers own) = omega arith in
      subst (λ p. lengths_need own ≤ length (bytes own p)) place
      (subst (λ n. n ≤ length (bytes own (suc (suc (data_buffers own)))))
      (not_below (data_buffers own) (data_length own (data_buffers own)) (lengths_need own)) here)

  pub long-named : AreThere own
  long-named = λ k h.
      let here = long-at (suc k) (at_most (length own.buffers) k h) in
      let place : suc (suc k) ≡ data_place k = omega arith in
      subst (λ p. data_length own k ≤ length (bytes own p)) place
      (subst (λ n. n ≤ length (bytes own (suc (suc k)))) (below k (data_buffers own) (data_length own k) (lengths_need own) h) here)

pub ruleset long = (long-bytes, long-data, long-list, long-validity, some_views, long-views, long-lengths, long-named)

pub ruleset valid = (long-fixed, long-validity)
