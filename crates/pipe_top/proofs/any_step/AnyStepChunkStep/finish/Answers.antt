use Rattle.pipe_top.proofs.any_step.AnyStepChunkStep.finish.Goals as goal

pub returns-in-Select : goal.returns-in-Select
returns-in-Select c = rw c.in-Select.is c.finish.ensures

pub returns-in-Slice : goal.returns-in-Slice
returns-in-Slice c = rw c.in-Slice.is c.finish-in-Slice.ensures

pub returns-in-Filter : goal.returns-in-Filter
returns-in-Filter c = rw c.in-Filter.is c.finish-in-Filter.ensures

pub returns-in-Pack : goal.returns-in-Pack
returns-in-Pack c = rw c.in-Pack.is c.finish-in-Pack.ensures

pub returns-in-Unpack : goal.returns-in-Unpack
returns-in-Unpack c = rw c.in-Unpack.is c.finish-in-Unpack.ensures

pub returns-in-Recode : goal.returns-in-Recode
returns-in-Recode c = rw c.in-Recode.is c.finish-in-Recode.ensures

pub returns-in-Totals : goal.returns-in-Totals
returns-in-Totals c = rw c.in-Totals.is c.finish-in-Totals.ensures
