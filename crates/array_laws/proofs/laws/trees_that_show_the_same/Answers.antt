use Rattle.std.proofs.Common.{sym, ap, ◌∙◌}
use Rattle.layout_rules.specs.promise.Values.{rows_of, values_of}
use Rattle.array_laws.proofs.SharedPieces.{same-items}
use Rattle.array_laws.proofs.ShownItems.{rows-shown, values-shown}
use Rattle.array_laws.proofs.ShownWalk.{same-chunk, same-chunk_fault, same-fault, same-lawful}
use Rattle.array_laws.proofs.laws.trees_that_show_the_same.Goals as goal

pub returns-clause-fault : goal.returns-clause-fault
returns-clause-fault c = same-fault

pub returns-clause-chunk_fault : goal.returns-clause-chunk_fault
returns-clause-chunk_fault c = same-chunk_fault

pub returns-clause-lawful : goal.returns-clause-lawful
returns-clause-lawful c = same-lawful

pub returns-clause-chunk : goal.returns-clause-chunk
returns-clause-chunk c = same-chunk

pub returns-clause-items : goal.returns-clause-items
returns-clause-items c = same-items

pub returns-clause-values : goal.returns-clause-values
returns-clause-values c typed t u e = sym (values-shown typed t) ∙ ap (values_of typed) e ∙ values-shown typed u

pub returns-clause-rows : goal.returns-clause-rows
returns-clause-rows c typed t u e = sym (rows-shown typed t) ∙ ap (rows_of typed) e ∙ rows-shown typed u
