use Rattle.std.proofs.Common.{◌≡◌, ◌+◌, take, drop}
use Rattle.std.specs.List.{flat_map}
use Rattle.stage_filter.proofs.workers.joined.Given as goal

-- the first, and those behind it so far
abbrev pub invariant-loop-more : goal.invariant-loop-more
invariant-loop-more l = l.kept.items ≡ flat_map (λ v. v.items) (take (l.more-index + 1) l.fn.found.items)
