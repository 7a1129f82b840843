use Rattle.std.proofs.Common.{◌≡◌, ◌+◌, ◌≤◌, ℕ, length, get_or, take}
use Rattle.value_text.specs.Escapes.{escapes}
use Rattle.value_text.proofs.views.escape_counts.Given as goal

-- those of the first bytes so far
abbrev pub invariant-loop-i : goal.invariant-loop-i
invariant-loop-i l =
    (length l.counts.items ≡ l.i + 1)
    × (l.count ≡ escapes (take l.i l.bytes))
    × (l.count ≤ l.i)
    × ((n : ℕ) → n ≤ l.i → get_or l.counts.items n 0 ≡ escapes (take n l.bytes))
