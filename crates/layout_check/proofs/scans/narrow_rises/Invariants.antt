use Rattle.std.proofs.Common.{◌≡◌, false}
use Rattle.std.specs.Prelude.{is_none}
use Rattle.layout_rules.specs.promise.Rules.{falls_in, first_below}
use Rattle.layout_check.proofs.scans.narrow_rises.Given as goal

abbrev pub invariant-loop-i : goal.invariant-loop-i
invariant-loop-i l = l.rises ≡ is_none (first_below (falls_in false l.offsets l.start) l.i)
