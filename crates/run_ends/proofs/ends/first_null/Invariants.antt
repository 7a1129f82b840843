use Rattle.std.proofs.Common.{◌≡◌, None}
use Rattle.layout_rules.specs.promise.Rules.{first_below}
use Rattle.arr_import.specs.Window.{item_at}
use Rattle.arr_import.specs.Cols.{window_of}
use Rattle.run_ends.specs.RunRules.{null_end}
use Rattle.run_ends.proofs.ends.first_null.Given as goal

abbrev pub invariant-loop-k : goal.invariant-loop-k
invariant-loop-k l = first_below (null_end (item_at (window_of l.ends))) l.k ≡ None
