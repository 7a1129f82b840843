use Rattle.std.proofs.Common.{arith}
use Rattle.layout_rules.proofs.TextData.{naturals}
use Rattle.layout_check.proofs.texts.data_between.Goals as goal

pub data_place-here-requires-clause-buffers : goal.data_place-here-requires-clause-buffers
data_place-here-requires-clause-buffers c = grind (arith, naturals)

pub data_place-here-requires-clause-long : goal.data_place-here-requires-clause-long
data_place-here-requires-clause-long c = grind (arith, naturals)

pub data_place-here-requires-clause-from : goal.data_place-here-requires-clause-from
data_place-here-requires-clause-from c = grind (arith, naturals)

pub data_place-next-requires-clause-buffers : goal.data_place-next-requires-clause-buffers
data_place-next-requires-clause-buffers c = grind (arith, naturals)

pub data_place-next-requires-clause-long : goal.data_place-next-requires-clause-long
data_place-next-requires-clause-long c = grind (arith, naturals)

pub data_place-next-requires-clause-from : goal.data_place-next-requires-clause-from
data_place-next-requires-clause-from c = grind (arith, naturals)

pub bytes-requires : goal.bytes-requires
bytes-requires c = grind (arith, naturals)

pub slice_bounds-result-count : goal.slice_bounds-result-count
slice_bounds-result-count c = grind (arith, naturals)

pub slice_bounds-result-start : goal.slice_bounds-result-start
slice_bounds-result-start c = grind (arith, naturals)

pub slice_bounds-result-end : goal.slice_bounds-result-end
slice_bounds-result-end c = grind (arith, naturals)

pub returns : goal.returns
returns c = grind (arith, naturals)
