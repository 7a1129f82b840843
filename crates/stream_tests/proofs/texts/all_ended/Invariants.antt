use Rattle.std.proofs.Common.{vec_len}
use Rattle.stream_tests.proofs.texts.all_ended.Given as goal

abbrev pub decreases-loop-array : goal.decreases-loop-array
decreases-loop-array g l = vec_len l.arrays
