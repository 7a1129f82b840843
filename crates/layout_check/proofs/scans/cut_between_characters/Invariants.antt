use Rattle.layout_check.specs.Scans.{AreBorders}
use Rattle.layout_check.proofs.scans.cut_between_characters.Given as goal

abbrev pub invariant-loop-i : goal.invariant-loop-i
invariant-loop-i l = AreBorders l.wide l.offsets l.start l.base l.text l.i
