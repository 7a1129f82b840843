use Rattle.array_laws.proofs.SharedPieces.{piece-chunk, piece-fits, piece-rows}
use Rattle.array_laws.proofs.laws.pieces_of_shares.Goals as goal

pub returns-clause-fits : goal.returns-clause-fits
returns-clause-fits c = piece-fits

pub returns-clause-chunk : goal.returns-clause-chunk
returns-clause-chunk c = piece-chunk

pub returns-clause-rows : goal.returns-clause-rows
returns-clause-rows c = piece-rows
