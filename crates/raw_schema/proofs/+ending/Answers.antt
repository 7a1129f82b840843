use Rattle.tree_model.proofs.Measures.{measures}
use Rattle.std.proofs.Common.{arith}
use Rattle.raw_schema.proofs.+ending.Goals as goal

pub release::end_all-end-requires : goal.release::end_all-end-requires
release::end_all-end-requires t c = grind (arith, measures)

pub release::end_all-loop-child-preserved : goal.release::end_all-loop-child-preserved
release::end_all-loop-child-preserved t c = grind (arith, measures)

pub release::end_all-loop-child-init : goal.release::end_all-loop-child-init
release::end_all-loop-child-init t c = grind (arith, measures)

pub release::end_all-destroy_empty-requires : goal.release::end_all-destroy_empty-requires
release::end_all-destroy_empty-requires t c = grind (arith, measures)

pub release::end_all-returns-clause-units : goal.release::end_all-returns-clause-units
release::end_all-returns-clause-units t c = grind (arith, measures)

pub release::end_all-returns-clause-blocks : goal.release::end_all-returns-clause-blocks
release::end_all-returns-clause-blocks t c = grind (arith, measures)

pub release::end_all-returns-clause-nodes : goal.release::end_all-returns-clause-nodes
release::end_all-returns-clause-nodes t c = grind (arith, measures)

pub schema::RawSchema::end-end_all-requires : goal.schema::RawSchema::end-end_all-requires
schema::RawSchema::end-end_all-requires t c = grind (arith, measures)

pub schema::RawSchema::end-end-requires : goal.schema::RawSchema::end-end-requires
schema::RawSchema::end-end-requires t c = grind (arith, measures)
