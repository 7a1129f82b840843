use Rattle.std.proofs.Common.{◌≡◌, None}
use Rattle.raw_array.specs.promise.Members.{members_of}
use Rattle.layout_rules.specs.promise.Rules.{first_below}
use Rattle.layout_rules.specs.Rules.{view_not_text}
use Rattle.layout_check.proofs.view_texts.first_bad_text.Given as goal

abbrev pub invariant-loop-i : goal.invariant-loop-i
invariant-loop-i l = first_below (view_not_text (members_of l.node.array.now)) l.i ≡ None
