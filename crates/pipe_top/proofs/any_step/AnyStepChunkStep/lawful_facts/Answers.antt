use Rattle.pipe_top.proofs.any_step.AnyStepChunkStep.lawful_facts.Goals as goal

pub returns-in-Select : goal.returns-in-Select
returns-in-Select c = rw c.in-Select.is c.lawful_facts.ensures

pub returns-in-Slice : goal.returns-in-Slice
returns-in-Slice c = rw c.in-Slice.is c.lawful_facts-in-Slice.ensures

pub returns-in-Filter : goal.returns-in-Filter
returns-in-Filter c = rw c.in-Filter.is c.lawful_facts-in-Filter.ensures

pub returns-in-Pack : goal.returns-in-Pack
returns-in-Pack c = rw c.in-Pack.is c.lawful_facts-in-Pack.ensures

pub returns-in-Unpack : goal.returns-in-Unpack
returns-in-Unpack c = rw c.in-Unpack.is c.lawful_facts-in-Unpack.ensures

pub returns-in-Recode : goal.returns-in-Recode
returns-in-Recode c = rw c.in-Recode.is c.lawful_facts-in-Recode.ensures

pub returns-in-Totals : goal.returns-in-Totals
returns-in-Totals c = rw c.in-Totals.is c.lawful_facts-in-Totals.ensures
