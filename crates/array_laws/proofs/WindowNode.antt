-- A part of a lawful node's window is lawful.
use Rattle.std.proofs.Common.{◌≡◌, ◌∙◌, ℕ, zero, suc, ◌+◌, ◌-◌, ◌*◌, ◌<◌, ◌≤◌, ℤ, pos, negsuc, Bool, true, false, not, ◌&&◌, ◌==◌, List, [], ◌∷◌, length}
use Rattle.std.proofs.Common.{Option, None, Some, refl, ap, sym, arith}
use Rattle.std.specs.Prelude.{if◌then◌else◌, is_some, nat_lt, ◌||◌}
use Rattle.std.specs.Ordering.{int_eq}
use Rattle.std.proofs.lemmas.Bool.{le-ltb}
use Rattle.raw_array.specs.promise.Members.{ArrayMembers, ArrayTree}
use Rattle.raw_array.specs.Members.{nulls_in_part}
use Rattle.layout_rules.specs.declared.layout.Layout.{Layout}
use Rattle.layout_rules.specs.declared.layout.Layout.TheVariants.{NoBuffers, FixedWidth, TruthBits, ByOffsets, ListOffsets, FixedItems, ByChildren, Views}
use Rattle.layout_rules.specs.declared.rule.Numbers.{Numbers}
use Rattle.layout_rules.specs.promise.Layout.{buffer, bytes, bytes_or_none, data_need, end, first, is_valid, is_valid_by, items, layout_of, natural, need, offset}
use Rattle.layout_rules.specs.promise.Layout.{view_width, offsets_need}
use Rattle.layout_rules.specs.promise.Rules.{Node, buffer_absent, child_short, fault, fault_if, first_below, indices_wrong, is_behind_offsets}
use Rattle.layout_rules.specs.Rules.{buffer_short, offset_falls}
use Rattle.layout_rules.specs.promise.Rules.{is_negative, items_need, live_length, null_count_wrong, null_count_wrong_in, null_total, offsets_fall}
use Rattle.layout_rules.specs.promise.Rules.{offsets_fall_if, prefixes_wrong, views_misplaced, short_child, texts_wrong, count_wrong, length_if, window_limit}
use Rattle.layout_rules.proofs.Lawful.{left-none, right-none}
use Rattle.layout_rules.proofs.Long.{long-bytes}
use Rattle.layout_rules.proofs.TextData.{not_zero}
use Rattle.layout_rules.specs.declared.rule.LayoutRule.TheVariants as rules
use Rattle.layout_rules.proofs.NamedRules.{AreMet}
use Rattle.array_laws.proofs.NodeParts.{below-again, both-none, no-fault}
use Rattle.array_laws.proofs.PlaceRules.{IsPart, each-part, falls-by_place, indices-by_place, places-by_place, prefixes-by_place, rule-part, texts-by_place}
use Rattle.array_laws.proofs.Rising.{falls-step, natural-rises, never-negative, rises}
use Rattle.array_laws.proofs.Sizes.{count-same, count_of, counts_nulls, named-same, nulls-in, offset-same}

-- such a part whose numbers are not negative, and whose null count is what a window makes of the first one's
pub record IsWindow (m w : ArrayMembers) (off len : ℕ) : Type 0 where
  pub part : IsPart m w off len
  pub not_before : is_negative w.offset ≡ false
  pub not_less : is_negative w.length ≡ false
  pub nulls_are : w.null_count ≡ nulls_in_part m.null_count

-- ---- numbers

mul-le : (a b c : ℕ) → a ≤ b → a * c ≤ b * c
mul-le a b zero h = omega arith
mul-le a b (suc c) h = let e = mul-le a b c h in omega (arith, e, h)

offsets-le : (wide : Bool) (a b : ℕ) → a ≤ b → offsets_need wide a ≤ offsets_need wide b
offsets-le wide zero b h = omega arith
offsets-le wide (suc a) zero h = absurd (omega (arith, h))
offsets-le true (suc a) (suc b) h = omega (arith, h)
offsets-le false (suc a) (suc b) h = omega (arith, h)

chosen : (none some : Bool) (a b : ℕ) → (none ≡ false → some ≡ false × (a ≤ b)) → (if none then 0 else a) ≤ (if some then 0 else b)
chosen true some a b h = omega arith
chosen false some a b h = let e = h refl in rw (e.0) e.1

or-parts : (a b : Bool) → (a || b) ≡ false → (a ≡ false) × (b ≡ false)
or-parts true b e = absurd (cc)
or-parts false b e = (refl, e)

or-false : (a b : Bool) → a ≡ false → b ≡ false → (a || b) ≡ false
or-false a b e f = ap (λ x. x || b) e ∙ f

above-zero : (n : ℕ) → (n == 0) ≡ false → 0 < n
above-zero zero e = absurd (cc)
above-zero (suc n) e = omega arith

-- ---- the rules of buffers

absent-fewer : (there : Bool) (a b k : ℕ) → a ≤ b → fault_if (not there && nat_lt 0 b) k (pos 0) (pos b) ≡ None
    → fault_if (not there && nat_lt 0 a) k (pos 0) (pos a) ≡ None
absent-fewer true a b k h e = refl
absent-fewer false a b k h e = grind arith

short-fewer : (there : Bool) (found a b k : ℕ) → a ≤ b → fault_if (there && nat_lt found b) k (pos found) (pos b) ≡ None
    → fault_if (there && nat_lt found a) k (pos found) (pos a) ≡ None
short-fewer false found a b k h e = refl
short-fewer true found a b k h e = grind arith

absent-part : (l : Layout) (m w : ArrayMembers) (k : ℕ) → buffer w k ≡ buffer m k → need l w k ≤ need l m k → buffer_absent l m k ≡ None
    → buffer_absent l w k ≡ None
absent-part l m w zero same le e = refl
absent-part l m w (suc k) same le e =
    absent-fewer (is_some (buffer w (suc k))) (need l w (suc k)) (need l m (suc k)) (suc k) le
    (ap (λ b. fault_if (not (is_some b) && nat_lt 0 (need l m (suc k))) (suc k) (pos 0) (pos (need l m (suc k)))) same ∙ e)

short-part : (l : Layout) (m w : ArrayMembers) (k : ℕ) → buffer w k ≡ buffer m k → need l w k ≤ need l m k → buffer_short l m k ≡ None
    → buffer_short l w k ≡ None
short-part l m w k same le e =
    short-fewer (is_some (buffer w k)) (length (bytes w k)) (need l w k) (need l m k) k le
    (ap (λ b. fault_if (is_some b && nat_lt (length (bytes_or_none b)) (need l m k)) k (pos (length (bytes_or_none b))) (pos (need l m k))) same ∙ e)

fall-by : (none : Bool) (z : ℤ) (rest : Option Numbers) → (none ≡ false → (is_negative z ≡ false) × (rest ≡ None))
    → (if none then None else if is_negative z then fault 0 (pos 0) z else rest) ≡ None
fall-by true z rest h = refl
fall-by false (pos n) rest h = (h refl).1
fall-by false (negsuc n) rest h = let e : true ≡ false = (h refl).0 in absurd (cc)

-- ---- children

short-le : (a b k : ℕ) (found : Option ℤ) → a ≤ b → short_child b k found ≡ None → short_child a k found ≡ None
short-le a b k None h e = refl
short-le a b k (Some (pos found)) h e = grind arith
short-le a b k (Some (negsuc found)) h e = absurd (grind arith)

pub children-le : (a b k : ℕ) (cs : List ArrayTree) → a ≤ b → child_short b k cs ≡ None → child_short a k cs ≡ None
children-le a b k [] h e = refl
children-le a b k (c ∷ cs) h e =
    let head = left-none (short_child b k (live_length c)) (child_short b (suc k) cs) e in
    both-none (short_child a k (live_length c)) (child_short a (suc k) cs) (short-le a b k (live_length c) h head)
    (children-le a b (suc k) cs h (right-none (short_child b k (live_length c)) (child_short b (suc k) cs) head e))

-- ---- nulls

abbrev none_or_one : Bool → ℕ
none_or_one b = if b then 0 else 1

total-more : (m : ArrayMembers) (a k : ℕ) → null_total m a ≤ null_total m (a + k)
total-more m a zero = let e : a + 0 ≡ a = omega arith in let f = ap (null_total m) e in omega (arith, f)
total-more m a (suc k) =
    let e : a + suc k ≡ suc (a + k) = omega arith in
    let f = ap (null_total m) e in
    let g = total-more m a k in
    omega (arith, f, g)

abbrev wrong : ℤ → ℕ → Option Numbers
wrong count total = fault_if (not (int_eq count (negsuc 0)) && not (int_eq count (pos total))) 0 count (pos total)

count-part : (count : ℤ) (total fewer : ℕ) → fewer ≤ total → wrong count total ≡ None → wrong (nulls_in_part count) fewer ≡ None
count-part (pos zero) total zero le e = refl
count-part (pos zero) total (suc fewer) le e = grind arith
count-part (pos (suc n)) total fewer le e = refl
count-part (negsuc n) total fewer le e = refl

-- ---- a part needs no more, its offsets rise, and it has no more nulls

module _ (m w : ArrayMembers) (off len : ℕ) (p : IsPart m w off len) where
  pub end-part : end w ≤ end m
  end-part = omega (arith, p.first_is, p.items_are, p.fits)

  end-at : end w ≡ first m + (off + len)
  end-at = omega (arith, p.first_is, p.items_are)

  -- a place below the part's end
  natural-end : (wide : Bool) → offsets_fall wide m ≡ None → 0 < end w → natural (offset wide w (end w)) ≤ natural (offset wide m (end m))
  natural-end wide falls above =
      let r = rises wide m falls (omega (arith, above, end-part)) in
      let here : natural (offset wide w (end w)) ≡ natural (offset wide m (first m + (off + len))) =
      ap natural (offset-same wide m w p.same (end w) ∙ ap (offset wide m) (end-at)) in
      let le = natural-rises wide m r (off + len) (items m) p.fits (omega arith) in
      omega (arith, here, le)

  data-le : (wide : Bool) → offsets_fall wide m ≡ None → offsets_need wide (end m) ≤ length (bytes m 1) → data_need wide w ≤ data_need wide m
  data-le wide falls long =
      chosen ((end w == 0) || nat_lt (length (bytes w 1)) (offsets_need wide (end w)))
      ((end m == 0) || nat_lt (length (bytes m 1)) (offsets_need wide (end m)))
      (natural (offset wide w (end w))) (natural (offset wide m (end m))) (λ e.
      let above = above-zero (end w) (or-parts _ _ e).0 in (
        or-false (end m == 0) (nat_lt (length (bytes m 1)) (offsets_need wide (end m))) (not_zero (end m) (omega (arith, above, end-part)))
            (le-ltb (length (bytes m 1)) (offsets_need wide (end m)) long),
        natural-end wide falls above,
      ))

  need-le : (l : Layout) (k : ℕ) → offsets_fall_if (is_behind_offsets l) m ≡ None
      → ((wide : Bool) → l ≡ ByOffsets wide → offsets_need wide (end m) ≤ length (bytes m 1)) → need l w k ≤ need l m k
  need-le l zero falls long = let e = end-part in omega (arith, e)
  need-le (FixedWidth width) (suc k) falls long = mul-le (end w) (end m) width (end-part)
  need-le TruthBits (suc k) falls long = let e = end-part in omega (arith, e)
  need-le (ByOffsets wide) (suc zero) falls long = offsets-le wide (end w) (end m) (end-part)
  need-le (ByOffsets wide) (suc (suc k)) falls long = data-le wide falls (long wide refl)
  need-le (ListOffsets wide) (suc k) falls long = offsets-le wide (end w) (end m) (end-part)
  need-le NoBuffers (suc k) falls long = omega arith
  need-le (FixedItems size) (suc k) falls long = omega arith
  need-le ByChildren (suc k) falls long = omega arith
  need-le Views (suc zero) falls long = mul-le (end w) (end m) view_width (end-part)
  need-le Views (suc (suc k)) falls long = let e = named-same m w p.same k in omega (arith, e)

  items-le : (l : Layout) → offsets_fall_if (is_behind_offsets l) m ≡ None → items_need l w ≤ items_need l m
  items-le NoBuffers falls = omega arith
  items-le (FixedWidth width) falls = omega arith
  items-le TruthBits falls = omega arith
  items-le (ByOffsets wide) falls = omega arith
  items-le (ListOffsets wide) falls =
      chosen (end w == 0) (end m == 0) (natural (offset wide w (end w))) (natural (offset wide m (end m))) (λ e.
      let above = above-zero (end w) e in (not_zero (end m) (omega (arith, above, end-part)), natural-end wide falls above))
  items-le (FixedItems size) falls = mul-le (end w) (end m) size (end-part)
  items-le ByChildren falls = end-part
  items-le Views falls = omega arith

  -- ---- the offsets and the nulls of the part
  fall-part : (wide : Bool) → offsets_fall wide m ≡ None → offsets_fall wide w ≡ None
  fall-part wide falls =
      fall-by (end w == 0) (offset wide w (first w)) (first_below (offset_falls wide w) (items w)) (λ e.
      let above : 0 < end m = omega (arith, above-zero (end w) e, end-part) in
      let r = rises wide m falls above in
      let start : offset wide w (first w) ≡ offset wide m (first m + off) = offset-same wide m w p.same (first w) ∙ ap (offset wide m) p.first_is in (
        ap is_negative start ∙ never-negative (offset wide m (first m + off)) (r.from off (omega (arith, p.fits))),
        rule-part m w off len p (offset_falls wide) (falls-by_place wide) (falls-step wide m falls above),
      ))

  falls-part : (o : Option Bool) → offsets_fall_if o m ≡ None → offsets_fall_if o w ≡ None
  falls-part None e = refl
  falls-part (Some wide) e = fall-part wide e

  valid-part : (i : ℕ) → is_valid w i ≡ is_valid m (off + i)
  valid-part i =
      let q : first w + i ≡ first m + (off + i) = omega (arith, p.first_is) in
      λ t. is_valid_by (p.same.bytes 0 t) (q t)

  total-part : (n : ℕ) → null_total w n ≤ null_total m (off + n)
  total-part zero = omega arith
  total-part (suc n) =
      let e : off + suc n ≡ suc (off + n) = omega arith in
      let f = ap (null_total m) e in
      let g = total-part n in
      let v : none_or_one (is_valid w n) ≡ none_or_one (is_valid m (off + n)) = ap none_or_one (valid-part n) in
      omega (arith, f, g, v)

  pub total-within : null_total w (items w) ≤ null_total m (items m)
  total-within =
      let a = total-part len in
      let b = total-more m (off + len) (items m - (off + len)) in
      let e : off + len + (items m - (off + len)) ≡ items m = omega (arith, p.fits) in
      let f = ap (null_total m) e in
      let g = ap (null_total w) p.items_are in
      omega (arith, a, b, f, g)

module _ (m w : ArrayMembers) (off len : ℕ) (p : IsWindow m w off len) where
  nulls-part : null_count_wrong m ≡ None → null_count_wrong w ≡ None
  nulls-part e =
      ap (λ count. wrong count (null_total w (items w))) p.nulls_are
      ∙ count-part m.null_count (null_total m (items m)) (null_total w (items w)) (total-within m w off len p.part) e

  nulls-part_if : (counted : Bool) → (if counted then null_count_wrong m else None) ≡ None → (if counted then null_count_wrong w else None) ≡ None
  nulls-part_if true e = nulls-part e
  nulls-part_if false e = refl

  nulls-part_in : (l : Layout) → null_count_wrong_in l m ≡ None → null_count_wrong_in l w ≡ None
  nulls-part_in l e = nulls-in l w ∙ nulls-part_if (counts_nulls l) (sym (nulls-in l m) ∙ e)

-- ---- the node

abbrev with_own : Node → ArrayMembers → Node
with_own n w = record { kind = n.kind; kids = n.kids; dict = n.dict; own = w; children = n.children; dictionary = n.dictionary }

-- the offsets of a layout that has them are there
offsets-long : (l : Layout) (m : ArrayMembers) → first_below (buffer_absent l m) (count_of l m) ≡ None → first_below (buffer_short l m) (count_of l m) ≡ None
    → (wide : Bool) → l ≡ ByOffsets wide → offsets_need wide (end m) ≤ length (bytes m 1)
offsets-long l m there long wide same =
    long-bytes wide m (ap (λ k. first_below (buffer_absent k m) (count_of k m)) (sym same) ∙ there)
    (ap (λ k. first_below (buffer_short k m) (count_of k m)) (sym same) ∙ long)

not-long : (a b : ℕ) → a ≤ b → fault_if (nat_lt window_limit b) 0 (pos b) (pos window_limit) ≡ None
    → fault_if (nat_lt window_limit a) 0 (pos a) (pos window_limit) ≡ None
not-long a b h e = grind arith

module _ (n : Node) (w : ArrayMembers) (off len : ℕ) (p : IsWindow n.own w off len) where
  abbrev l : Layout
  l = layout_of n.kind

  buffers-part : (f g : ℕ → Option Numbers) → ((k : ℕ) → f k ≡ None → g k ≡ None) → first_below f (count_of l n.own) ≡ None
      → first_below g (count_of l w) ≡ None
  buffers-part f g each e =
      ap (first_below g) (count-same l n.own w p.part.same) ∙ below-again f g (count_of l n.own) (λ k lt. each k) e

  module _ (met : AreMet n) where
    needed : (k : ℕ) → need l w k ≤ need l n.own k
    needed k =
        need-le n.own w off len p.part l k (met rules.OffsetsFall) (offsets-long l n.own (met rules.BufferAbsent) (met rules.BufferShort))

    pub part-met : AreMet (with_own n w)
    part-met rules.Released = refl
    part-met rules.NegativeLength = no-fault (is_negative w.length) 0 w.length (pos 0) p.not_less
    part-met rules.NegativeOffset = no-fault (is_negative w.offset) 0 w.offset (pos 0) p.not_before
    part-met rules.BufferCount = (λ t. count_wrong (p.part.same.count t) (count-same l n.own w p.part.same t)) ∙ met rules.BufferCount
    part-met rules.ChildCount = met rules.ChildCount
    part-met rules.Dictionary = met rules.Dictionary
    part-met rules.BufferAbsent =
        buffers-part (buffer_absent l n.own) (buffer_absent l w) (λ k. absent-part l n.own w k (p.part.same.bytes k) (needed k)) (met rules.BufferAbsent)
    part-met rules.BufferShort =
        buffers-part (buffer_short l n.own) (buffer_short l w) (λ k. short-part l n.own w k (p.part.same.bytes k) (needed k)) (met rules.BufferShort)
    part-met rules.OffsetsFall = falls-part n.own w off len p.part (is_behind_offsets l) (met rules.OffsetsFall)
    part-met rules.ChildShort =
        children-le (items_need l w) (items_need l n.own) 0 n.children (items-le n.own w off len p.part l (met rules.OffsetsFall)) (met rules.ChildShort)
    part-met rules.NullCount = nulls-part_in n.own w off len p l (met rules.NullCount)
    part-met rules.ViewPlace = each-part n.own w off len p.part (views_misplaced l) (places-by_place l) (met rules.ViewPlace)
    part-met rules.ViewPrefix = each-part n.own w off len p.part (prefixes_wrong l) (prefixes-by_place l) (met rules.ViewPrefix)
    part-met rules.NotText = each-part n.own w off len p.part (texts_wrong n.kind) (texts-by_place n.kind) (met rules.NotText)
    part-met rules.IndexRange =
        each-part n.own w off len p.part (λ own. indices_wrong n.kind own (length_if n.dictionary))
        (indices-by_place n.kind (length_if n.dictionary)) (met rules.IndexRange)
    part-met rules.WindowTooLong = not-long (end w) (end n.own) (end-part n.own w off len p.part) (met rules.WindowTooLong)
    part-met rules.TopKind = refl
    part-met rules.TopNulls = refl
