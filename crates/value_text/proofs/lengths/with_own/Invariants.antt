use Rattle.std.proofs.Common.{◌≡◌, ◌+◌, take}
use Rattle.value_text.specs.Lengths.{capped, some_fields}
use Rattle.value_text.proofs.lengths.with_own.Given as goal

-- those so far
abbrev pub invariant-loop-q : goal.invariant-loop-q
invariant-loop-q l = capped l.sum ≡ capped (l.same + some_fields l.kids l.place (take l.q l.own))
