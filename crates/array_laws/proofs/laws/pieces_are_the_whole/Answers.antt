use Rattle.array_laws.proofs.JoinedPieces.{piece-fits, pieces-whole}
use Rattle.array_laws.proofs.laws.pieces_are_the_whole.Goals as goal

pub returns-clause-fit : goal.returns-clause-fit
returns-clause-fit c = piece-fits

pub returns-clause-rows : goal.returns-clause-rows
returns-clause-rows c = pieces-whole
