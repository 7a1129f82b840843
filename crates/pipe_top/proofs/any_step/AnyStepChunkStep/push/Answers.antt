use Rattle.pipe_top.proofs.any_step.AnyStepChunkStep.push.Goals as goal

pub returns-in-Select : goal.returns-in-Select
returns-in-Select g c = rw c.in-Select.is c.push.ensures

pub returns-in-Slice : goal.returns-in-Slice
returns-in-Slice g c = rw c.in-Slice.is c.push-in-Slice.ensures

pub returns-in-Filter : goal.returns-in-Filter
returns-in-Filter g c = rw c.in-Filter.is c.push-in-Filter.ensures

pub returns-in-Pack : goal.returns-in-Pack
returns-in-Pack g c = rw c.in-Pack.is c.push-in-Pack.ensures

pub returns-in-Unpack : goal.returns-in-Unpack
returns-in-Unpack g c = rw c.in-Unpack.is c.push-in-Unpack.ensures

pub returns-in-Recode : goal.returns-in-Recode
returns-in-Recode g c = rw c.in-Recode.is c.push-in-Recode.ensures

pub returns-in-Totals : goal.returns-in-Totals
returns-in-Totals g c = rw c.in-Totals.is c.push-in-Totals.ensures
