use Rattle.std.proofs.Common.{◌≡◌, length, map}
use Rattle.raw_place.specs.Led.{way}
use Rattle.raw_place.specs.Ways.{ways}
use Rattle.raw_place.proofs.kids.pointed_at.Given as goal

-- a pointer to each value so far; the values and the room stay
abbrev pub invariant-loop-i : goal.invariant-loop-i
invariant-loop-i g l =
    (l.values ≡ l.fn.values) × (l.first ≡ l.fn.values.ptr) × (map way l.pointers.items ≡ ways l.fn.values.ptr l.i)
    × (length l.pointers.items ≡ l.i) × (l.pointers.room ≡ l.fn.pointers.room)
