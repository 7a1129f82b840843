-- What a long view names, by the tests of its numbers.
use Rattle.std.proofs.Common.{◌≡◌, ℕ, ◌+◌, ◌<◌, Bool, true, false, ℤ, pos, negsuc, Option, refl, true≢false, arith}
use Rattle.std.specs.Prelude.{if◌then◌else◌, nat_lt, ◌≤ℤ◌}
use Rattle.raw_array.specs.promise.Members.{ArrayMembers}
use Rattle.layout_rules.specs.declared.rule.Numbers.{Numbers}
use Rattle.layout_rules.specs.promise.Layout.{natural, data_buffers, data_length}
use Rattle.layout_rules.specs.promise.Views.{view_length, view_buffer, view_offset}
use Rattle.layout_rules.specs.promise.Rules.{fault, fault_if, is_negative, is_outside, named_outside}

pick : (outside before : Bool) (x y z : Option Numbers) → outside ≡ false → before ≡ false → (if outside then x else if before then y else z) ≡ z
pick true before x y z e f = absurd (true≢false e)
pick false true x y z e f = absurd (true≢false f)
pick false false x y z e f = refl

pick_first : (outside : Bool) (x z : Option Numbers) → outside ≡ true → (if outside then x else z) ≡ x
pick_first true x z e = refl
pick_first false x z e = absurd (true≢false (let back : true ≡ false = cc in back))

pick_second : (outside before : Bool) (x y z : Option Numbers) → outside ≡ false → before ≡ true → (if outside then x else if before then y else z) ≡ y
pick_second true before x y z e f = absurd (true≢false e)
pick_second false before x y z e f = pick_first before y z f

pub not_negative : (z : ℤ) → pos 0 ≤ℤ z → is_negative z ≡ false
not_negative (pos n) h = refl
not_negative (negsuc n) h = absurd (grind arith)

pub negative : (z : ℤ) → ¬ (pos 0 ≤ℤ z) → is_negative z ≡ true
negative (pos n) h = absurd (h (grind arith))
negative (negsuc n) h = refl

pub named-no_buffer : (own : ArrayMembers) (i : ℕ) → is_outside (pos (data_buffers own)) (view_buffer own i) ≡ true
    → named_outside own i ≡ fault i (view_buffer own i) (pos (data_buffers own))
named-no_buffer own i e = pick_first (is_outside (pos (data_buffers own)) (view_buffer own i)) (fault i (view_buffer own i) (pos (data_buffers own))) _ e

pub named-before : (own : ArrayMembers) (i : ℕ) → is_outside (pos (data_buffers own)) (view_buffer own i) ≡ false → ¬ (pos 0 ≤ℤ view_offset own i)
    → named_outside own i ≡ fault i (view_offset own i) (pos 0)
named-before own i e f = pick_second (is_outside (pos (data_buffers own)) (view_buffer own i)) (is_negative (view_offset own i)) _
    (fault i (view_offset own i) (pos 0)) _ e (negative (view_offset own i) f)

pub named-behind : (own : ArrayMembers) (i : ℕ) → is_outside (pos (data_buffers own)) (view_buffer own i) ≡ false → pos 0 ≤ℤ view_offset own i
    → named_outside own i ≡ fault_if (nat_lt (data_length own (natural (view_buffer own i))) (natural (view_offset own i) + natural (view_length own i))) i
    (pos (natural (view_offset own i) + natural (view_length own i))) (pos (data_length own (natural (view_buffer own i))))
named-behind own i e f =
    pick (is_outside (pos (data_buffers own)) (view_buffer own i)) (is_negative (view_offset own i)) _ _ _ e (not_negative (view_offset own i) f)

inside_from : (total : ℕ) (z : ℤ) → is_outside (pos total) z ≡ false → pos 0 ≤ℤ z
inside_from total (pos n) e = grind arith
inside_from total (negsuc n) e = absurd (true≢false e)

inside_below : (total : ℕ) (z : ℤ) → is_outside (pos total) z ≡ false → natural z < total
inside_below total (pos n) e = grind arith
inside_below total (negsuc n) e = absurd (true≢false e)

pub named-from : (own : ArrayMembers) (i : ℕ) → is_outside (pos (data_buffers own)) (view_buffer own i) ≡ false → pos 0 ≤ℤ view_buffer own i
named-from own i e = inside_from (data_buffers own) (view_buffer own i) e

pub named-below : (own : ArrayMembers) (i : ℕ) → is_outside (pos (data_buffers own)) (view_buffer own i) ≡ false
    → natural (view_buffer own i) < data_buffers own
named-below own i e = inside_below (data_buffers own) (view_buffer own i) e

pub ruleset named = (named-no_buffer, named-before, named-behind, named-from, named-below)
