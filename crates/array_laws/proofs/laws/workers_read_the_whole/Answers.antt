use Rattle.array_laws.proofs.WorkerPieces.{worker-chunk, worker-rows}
use Rattle.array_laws.proofs.laws.workers_read_the_whole.Goals as goal

pub returns-clause-chunk : goal.returns-clause-chunk
returns-clause-chunk c = worker-chunk

pub returns-clause-rows : goal.returns-clause-rows
returns-clause-rows c typed t workers above ok = worker-rows typed t workers ok above
