use Rattle.value_text.specs.Lengths.{AreSummed}
use Rattle.value_text.proofs.lengths.field_sums.Given as goal

-- the fields so far
abbrev pub invariant-loop-k : goal.invariant-loop-k
invariant-loop-k l = AreSummed l.kids l.k l.same l.own.items
