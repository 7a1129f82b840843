use Rattle.array_laws.proofs.TableForm.{pack-chunk, pack-rows, select-chunk, select-fit, select-range, select-rows, unpack-table, unpack-table_rows}
use Rattle.array_laws.proofs.column_laws.columns_of_a_table.Goals as goal

pub returns-clause-select_range : goal.returns-clause-select_range
returns-clause-select_range c columns t picks ok within = select-range columns t ok picks within

pub returns-clause-select_fits : goal.returns-clause-select_fits
returns-clause-select_fits c columns t picks ok within = select-fit columns t ok picks within

pub returns-clause-select : goal.returns-clause-select
returns-clause-select c columns none t picks ok within = select-chunk columns t ok picks within none

pub returns-clause-select_rows : goal.returns-clause-select_rows
returns-clause-select_rows c columns none t picks ok within = select-rows columns t ok picks within none

pub returns-clause-pack : goal.returns-clause-pack
returns-clause-pack c columns none name t rest picks ok a b = pack-chunk columns t ok none name rest picks a b

pub returns-clause-pack_rows : goal.returns-clause-pack_rows
returns-clause-pack_rows c columns none name t rest picks ok a b = pack-rows columns t ok none name rest picks a b

pub returns-clause-unpack : goal.returns-clause-unpack
returns-clause-unpack c columns none t place fields ok lt is = unpack-table columns t ok none place fields lt is

pub returns-clause-unpack_rows : goal.returns-clause-unpack_rows
returns-clause-unpack_rows c columns none t place fields ok lt is all = unpack-table_rows columns t ok none place fields lt is all
