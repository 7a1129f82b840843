use Rattle.std.proofs.Common.{◌≡◌, length}
use Rattle.tree_text.proofs.LowerHex.{PairsRead}
use Rattle.tree_text.proofs.hexadecimal.read_pairs.Given as goal

abbrev pub invariant-loop-i : goal.invariant-loop-i
invariant-loop-i l = (length l.room ≡ length l.fn.room) × PairsRead l.text l.room l.i l.all
