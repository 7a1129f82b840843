use Rattle.col_build.specs.Holding.{HoldsSome}
use Rattle.text_cases.proofs.columns.push_words.Given as goal

abbrev pub invariant-loop-word : goal.invariant-loop-word
invariant-loop-word l = HoldsSome l.builder
