use Rattle.tree_model.proofs.Measures.{measures}
use Rattle.std.proofs.Common.{arith}
use Rattle.stage_kernels.proofs.packed.built.Goals as goal

pub release_all-requires : goal.release_all-requires
release_all-requires c = grind (arith, measures)

pub returns-in-Ok-export_table-clause-units : goal.returns-in-Ok-export_table-clause-units
returns-in-Ok-export_table-clause-units c = grind (arith, measures)

pub returns-in-Err-export_table-clause-units : goal.returns-in-Err-export_table-clause-units
returns-in-Err-export_table-clause-units c = grind (arith, measures)
