use Rattle.std.proofs.Common.{◌≤◌, ◌*◌, List, length}
use Rattle.data_types.specs.promise.Value.{Value}
use Rattle.data_types.specs.declared.kind.DataType.{DataType}
use Rattle.col_build.specs.Holding.{Holds}
use Rattle.text_cases.proofs.times.take_words.Given as goal

-- both columns hold the same values, at most 100,000 of each word so far
abbrev pub invariant-loop-word : goal.invariant-loop-word
invariant-loop-word l =
    (kind : DataType) × (values : List Value) × Holds l.pushed kind values × Holds l.added kind values × (length values ≤ 100000 * l.word-index)
