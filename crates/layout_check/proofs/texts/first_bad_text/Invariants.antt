use Rattle.std.proofs.Common.{◌≡◌, None}
use Rattle.raw_array.specs.promise.Members.{members_of}
use Rattle.layout_rules.specs.promise.Rules.{first_below}
use Rattle.layout_rules.specs.Rules.{not_text}
use Rattle.layout_check.proofs.texts.first_bad_text.Given as goal

abbrev pub invariant-loop-i : goal.invariant-loop-i
invariant-loop-i l = first_below (not_text l.wide (members_of l.node.array.now)) l.i ≡ None
