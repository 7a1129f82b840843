use Rattle.std.specs.Str.{bytes_eq}
use Rattle.csv_read.proofs.Remaining.{FindFrom}
use Rattle.csv_read.proofs.columns.type_for.Given as goal

abbrev pub invariant-loop-entry : goal.invariant-loop-entry
invariant-loop-entry l = FindFrom (λ e. bytes_eq e.name l.name) l.entries l.entry-index
