use Rattle.std.proofs.Common.{◌≡◌, ◌++◌, All, vec_len}
use Rattle.csv_read.specs.TextBlocks.{IsFilled, later_bytes}
use Rattle.csv_read.proofs.blocks.TextBlocks.new.Given as goal

-- the blocks that were cut off are what the text has behind the rest, and each has some bytes
abbrev pub invariant-loop-later : goal.invariant-loop-later
invariant-loop-later l = record {
  all : l.block.items ++ later_bytes l.later.items ≡ l.fn.text.items;
  filled : All IsFilled l.later.items;
}

abbrev pub decreases-loop-later : goal.decreases-loop-later
decreases-loop-later l = vec_len l.block
