-- Where each valid view names data, its data are there.
use Rattle.std.proofs.Common.{◌≡◌, ℕ, ◌+◌, ◌<◌, ◌≤◌, Bool, true, false, ℤ, pos, negsuc, Option, None, refl, sym, true≢false, arith}
use Rattle.std.specs.Prelude.{if◌then◌else◌, nat_lt, ◌≤ℤ◌, IsTrue}
use Rattle.raw_array.specs.promise.Members.{ArrayMembers}
use Rattle.layout_rules.specs.declared.rule.Numbers.{Numbers}
use Rattle.layout_rules.specs.promise.Layout.{natural, items, is_valid, data_buffers, data_length}
use Rattle.layout_rules.specs.promise.Views.{view_length, view_buffer, view_offset, is_long}
use Rattle.layout_rules.specs.promise.Rules.{fault, fault_if, is_negative, is_outside, first_below, named_outside, view_outside}
use Rattle.layout_rules.specs.Rules.{misplaced}
use Rattle.layout_rules.specs.Within.{NamedWithin, DataWithin, AreThere}
use Rattle.layout_rules.proofs.Firsts.{first_below-none_at}
use Rattle.layout_rules.proofs.Named.{named-from, named-below}

if_valid : (valid : Bool) (o : Option Numbers) → (if valid then o else None) ≡ None → IsTrue valid → o ≡ None
if_valid true o e h = e
if_valid false o e h = absurd (true≢false (sym h))

size_parts : (size : ℤ) (i : ℕ) (rest : Option Numbers) → (if is_negative size then fault i size (pos 0) else if is_long size then rest else None) ≡ None
    → (pos 0 ≤ℤ size) × (IsTrue (is_long size) → rest ≡ None)
size_parts (pos n) i rest e = (grind arith, if_valid (is_long (pos n)) rest e)
size_parts (negsuc n) i rest e = grind arith

not_behind : (size to i : ℕ) → fault_if (nat_lt size to) i (pos to) (pos size) ≡ None → to ≤ size
not_behind size to i e = grind arith

named_parts : (outside : Bool) (from : ℤ) (size to i : ℕ) (x : ℤ) (total : ℤ)
    → (if outside then fault i x total else if is_negative from then fault i from (pos 0) else fault_if (nat_lt size to) i (pos to) (pos size)) ≡ None
    → (outside ≡ false) × (pos 0 ≤ℤ from) × (to ≤ size)
named_parts true from size to i x total e = grind arith
named_parts false (pos n) size to i x total e = (refl, grind arith, not_behind size to i e)
named_parts false (negsuc n) size to i x total e = grind arith

named-within : (own : ArrayMembers) (i : ℕ) → AreThere own → named_outside own i ≡ None → NamedWithin own i
named-within own i there e =
    let buffer = view_buffer own i in
    let size = data_length own (natural buffer) in
    let to = natural (view_offset own i) + natural (view_length own i) in
    let parts = named_parts (is_outside (pos (data_buffers own)) buffer) (view_offset own i) size to i buffer (pos (data_buffers own)) e in
    record {
      buffer_from = named-from own i parts.0;
      buffer = named-below own i parts.0;
      from = parts.1;
      sized = parts.2;
      there = omega (arith, parts.2, there (natural buffer) (named-below own i parts.0));
    }

pub view-within : (own : ArrayMembers) (i : ℕ) → AreThere own → first_below (misplaced own) (items own) ≡ None → i < items own
    → IsTrue (is_valid own i) → DataWithin own i
view-within own i there e l valid =
    let here = if_valid (is_valid own i) (view_outside own i) (first_below-none_at (misplaced own) (items own) i l e) valid in
    let parts = size_parts (view_length own i) i (named_outside own i) here in
    record { size = parts.0; named = λ h. named-within own i there (parts.1 h) }

pub ruleset placed = (view-within)
