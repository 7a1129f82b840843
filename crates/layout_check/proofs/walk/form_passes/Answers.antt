use Rattle.layout_check.proofs.Passes.{node}
use Rattle.std.proofs.Common.{arith}
use Rattle.layout_check.proofs.walk.form_passes.Goals as goal

pub length-requires : goal.length-requires
length-requires c = grind (arith, node)

pub negative-requires : goal.negative-requires
negative-requires c = grind (arith, node)

pub offset-requires : goal.offset-requires
offset-requires c = grind (arith, node)

pub negative-requires-then-is_none : goal.negative-requires-then-is_none
negative-requires-then-is_none c = grind (arith, node)

pub layout_of-requires : goal.layout_of-requires
layout_of-requires c = grind (arith, node)

pub buffers_wrong-requires : goal.buffers_wrong-requires
buffers_wrong-requires c = grind (arith, node)

pub children_wrong-requires : goal.children_wrong-requires
children_wrong-requires c = grind (arith, node)

pub dictionary_wrong-requires : goal.dictionary_wrong-requires
dictionary_wrong-requires c = grind (arith, node)

pub returns-then-is_none-4-clause-length : goal.returns-then-is_none-4-clause-length
returns-then-is_none-4-clause-length c = grind (arith, node)

pub returns-then-is_none-4-clause-offset : goal.returns-then-is_none-4-clause-offset
returns-then-is_none-4-clause-offset c = grind (arith, node)

pub returns-then-is_none-4-clause-buffers : goal.returns-then-is_none-4-clause-buffers
returns-then-is_none-4-clause-buffers c = grind (arith, node)

pub returns-then-is_none-4-clause-children : goal.returns-then-is_none-4-clause-children
returns-then-is_none-4-clause-children c = grind (arith, node)

pub returns-then-is_none-4-clause-dictionary : goal.returns-then-is_none-4-clause-dictionary
returns-then-is_none-4-clause-dictionary c = grind (arith, node)

pub returns-else-is_none-4-clause-length : goal.returns-else-is_none-4-clause-length
returns-else-is_none-4-clause-length c = grind (arith, node)

pub returns-else-is_none-4-clause-offset : goal.returns-else-is_none-4-clause-offset
returns-else-is_none-4-clause-offset c = grind (arith, node)

pub returns-else-is_none-4-clause-buffers : goal.returns-else-is_none-4-clause-buffers
returns-else-is_none-4-clause-buffers c = grind (arith, node)

pub returns-else-is_none-4-clause-children : goal.returns-else-is_none-4-clause-children
returns-else-is_none-4-clause-children c = grind (arith, node)

pub returns-else-is_none-4-clause-dictionary : goal.returns-else-is_none-4-clause-dictionary
returns-else-is_none-4-clause-dictionary c = grind (arith, node)
