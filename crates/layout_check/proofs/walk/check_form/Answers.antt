use Rattle.layout_check.proofs.Faults.{form}
use Rattle.std.proofs.Common.{arith}
use Rattle.layout_check.proofs.walk.check_form.Goals as goal

pub length-requires : goal.length-requires
length-requires c = grind (arith, form)

pub negative-requires : goal.negative-requires
negative-requires c = grind (arith, form)

pub ruled-requires : goal.ruled-requires
ruled-requires c = grind (arith, form)

pub returns-in_err-ruled-clause-fault : goal.returns-in_err-ruled-clause-fault
returns-in_err-ruled-clause-fault c = grind (arith, form)

pub returns-in_err-ruled-clause-length : goal.returns-in_err-ruled-clause-length
returns-in_err-ruled-clause-length c = grind (arith, form)

pub returns-in_err-ruled-clause-offset : goal.returns-in_err-ruled-clause-offset
returns-in_err-ruled-clause-offset c = grind (arith, form)

pub returns-in_err-ruled-clause-buffers : goal.returns-in_err-ruled-clause-buffers
returns-in_err-ruled-clause-buffers c = grind (arith, form)

pub returns-in_err-ruled-clause-children : goal.returns-in_err-ruled-clause-children
returns-in_err-ruled-clause-children c = grind (arith, form)

pub returns-in_err-ruled-clause-few : goal.returns-in_err-ruled-clause-few
returns-in_err-ruled-clause-few c = grind (arith, form)

pub offset-requires : goal.offset-requires
offset-requires c = grind (arith, form)

pub negative-requires-2 : goal.negative-requires-2
negative-requires-2 c = grind (arith, form)

pub ruled-requires-2 : goal.ruled-requires-2
ruled-requires-2 c = grind (arith, form)

pub returns-in_err-ruled-2-clause-fault : goal.returns-in_err-ruled-2-clause-fault
returns-in_err-ruled-2-clause-fault c = grind (arith, form)

pub returns-in_err-ruled-2-clause-length : goal.returns-in_err-ruled-2-clause-length
returns-in_err-ruled-2-clause-length c = grind (arith, form)

pub returns-in_err-ruled-2-clause-offset : goal.returns-in_err-ruled-2-clause-offset
returns-in_err-ruled-2-clause-offset c = grind (arith, form)

pub returns-in_err-ruled-2-clause-buffers : goal.returns-in_err-ruled-2-clause-buffers
returns-in_err-ruled-2-clause-buffers c = grind (arith, form)

pub returns-in_err-ruled-2-clause-children : goal.returns-in_err-ruled-2-clause-children
returns-in_err-ruled-2-clause-children c = grind (arith, form)

pub returns-in_err-ruled-2-clause-few : goal.returns-in_err-ruled-2-clause-few
returns-in_err-ruled-2-clause-few c = grind (arith, form)

pub layout_of-requires : goal.layout_of-requires
layout_of-requires c = grind (arith, form)

pub buffers_wrong-requires : goal.buffers_wrong-requires
buffers_wrong-requires c = grind (arith, form)

pub ruled-requires-3 : goal.ruled-requires-3
ruled-requires-3 c = grind (arith, form)

pub returns-in_err-ruled-3-clause-fault : goal.returns-in_err-ruled-3-clause-fault
returns-in_err-ruled-3-clause-fault c = grind (arith, form)

pub returns-in_err-ruled-3-clause-length : goal.returns-in_err-ruled-3-clause-length
returns-in_err-ruled-3-clause-length c = grind (arith, form)

pub returns-in_err-ruled-3-clause-offset : goal.returns-in_err-ruled-3-clause-offset
returns-in_err-ruled-3-clause-offset c = grind (arith, form)

pub returns-in_err-ruled-3-clause-buffers : goal.returns-in_err-ruled-3-clause-buffers
returns-in_err-ruled-3-clause-buffers c = grind (arith, form)

pub returns-in_err-ruled-3-clause-children : goal.returns-in_err-ruled-3-clause-children
returns-in_err-ruled-3-clause-children c = grind (arith, form)

pub returns-in_err-ruled-3-clause-few : goal.returns-in_err-ruled-3-clause-few
returns-in_err-ruled-3-clause-few c = grind (arith, form)

pub children_wrong-requires : goal.children_wrong-requires
children_wrong-requires c = grind (arith, form)

pub ruled-requires-4 : goal.ruled-requires-4
ruled-requires-4 c = grind (arith, form)

pub returns-in_err-ruled-4-clause-length : goal.returns-in_err-ruled-4-clause-length
returns-in_err-ruled-4-clause-length c = grind (arith, form)

pub returns-in_err-ruled-4-clause-offset : goal.returns-in_err-ruled-4-clause-offset
returns-in_err-ruled-4-clause-offset c = grind (arith, form)

pub returns-in_err-ruled-4-clause-buffers : goal.returns-in_err-ruled-4-clause-buffers
returns-in_err-ruled-4-clause-buffers c = grind (arith, form)

pub returns-in_err-ruled-4-clause-children : goal.returns-in_err-ruled-4-clause-children
returns-in_err-ruled-4-clause-children c = grind (arith, form)

pub returns-in_err-ruled-4-clause-few : goal.returns-in_err-ruled-4-clause-few
returns-in_err-ruled-4-clause-few c = grind (arith, form)

pub dictionary_wrong-requires : goal.dictionary_wrong-requires
dictionary_wrong-requires c = grind (arith, form)

pub ruled-requires-5 : goal.ruled-requires-5
ruled-requires-5 c = grind (arith, form)

pub returns-clause-length : goal.returns-clause-length
returns-clause-length c = grind (arith, form)

pub returns-clause-offset : goal.returns-clause-offset
returns-clause-offset c = grind (arith, form)

pub returns-clause-buffers : goal.returns-clause-buffers
returns-clause-buffers c = grind (arith, form)

pub returns-clause-children : goal.returns-clause-children
returns-clause-children c = grind (arith, form)

pub returns-clause-few : goal.returns-clause-few
returns-clause-few c = grind (arith, form)
