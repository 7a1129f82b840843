use Rattle.stage_model.proofs.ChunkRows.{whole-columns, whole-rows}
use Rattle.stage_model.proofs.laws.chunks_give_the_whole.Goals as goal

pub returns-clause-rows : goal.returns-clause-rows
returns-clause-rows c = whole-rows

pub returns-clause-columns : goal.returns-clause-columns
returns-clause-columns c = whole-columns
