use Rattle.std.proofs.Common.{arith}
use Rattle.run_tests.proofs.Fitting.{fit}
use Rattle.run_tests.proofs.OwnCalls.{tables}
use Rattle.run_tests.specs.Own.{own_values}
use Rattle.run_tests.proofs.own.OwnStreamArrayStream.lawful_facts.Goals as goal

pub returns-clause-columns : goal.returns-clause-columns
returns-clause-columns c = λ _. c.fitting_values_make_a_lawful_chunk.ensures.columns 3 own_values fit (omega arith)

pub returns-clause-tables : goal.returns-clause-tables
returns-clause-tables c = λ _. tables (c.fitting_values_make_a_lawful_chunk.ensures.table 3 own_values fit) c.args.self.now.given
