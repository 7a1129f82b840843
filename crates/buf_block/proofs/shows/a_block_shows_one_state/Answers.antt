use Rattle.buf_block.proofs.Shown.{made_whole, shows_ok, shows_one}
use Rattle.buf_block.proofs.shows.a_block_shows_one_state.Goals as goal

pub returns-clause-made : goal.returns-clause-made
returns-clause-made c = made_whole

pub returns-clause-ok : goal.returns-clause-ok
returns-clause-ok c = shows_ok

pub returns-clause-one : goal.returns-clause-one
returns-clause-one c = shows_one
