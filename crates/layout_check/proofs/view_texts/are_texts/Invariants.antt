use Rattle.raw_array.specs.promise.Members.{members_of}
use Rattle.layout_check.specs.Scans.{AreTexts}
use Rattle.layout_check.proofs.view_texts.are_texts.Given as goal

abbrev pub invariant-loop-k : goal.invariant-loop-k
invariant-loop-k l = AreTexts (members_of l.node.array.now) l.k
