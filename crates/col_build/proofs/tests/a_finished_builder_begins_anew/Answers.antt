use Rattle.std.proofs.Common.{[]}
use Rattle.col_build.proofs.tests.a_finished_builder_begins_anew.Goals as goal

pub push_taken-requires-2-clause-empty : goal.push_taken-requires-2-clause-empty
push_taken-requires-2-clause-empty g c =
    let was = c.expect_finish.ensures.empty in
    (was.0, c.in-Ok.ensures.begun was.0 [] was.1)
