use Rattle.std.proofs.Common.{arith}
use Rattle.number_stream.proofs.Fitting.{fit, tables}
use Rattle.number_stream.specs.Numbers.{number_values}
use Rattle.number_stream.proofs.numbers.NumbersArrayStream.lawful_facts.Goals as goal

pub returns-clause-columns : goal.returns-clause-columns
returns-clause-columns c = λ _. c.fitting_values_make_a_lawful_chunk.ensures.columns 3 number_values fit (omega arith)

pub returns-clause-tables : goal.returns-clause-tables
returns-clause-tables c = λ _. tables (c.fitting_values_make_a_lawful_chunk.ensures.table 3 number_values fit) c.args.self.now.next
