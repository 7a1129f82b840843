use Rattle.std.proofs.Common.{◌≡◌, None, true}
use Rattle.layout_rules.specs.promise.Rules.{first_below}
use Rattle.layout_check.specs.Scans.{outside_in}
use Rattle.layout_check.proofs.scans.inside.Given as goal

abbrev pub invariant-loop-i : goal.invariant-loop-i
invariant-loop-i l = l.inside ≡ true → first_below (outside_in l.width l.signed l.stored l.start l.total) l.i ≡ None
