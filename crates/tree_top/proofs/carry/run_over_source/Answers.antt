use Rattle.tree_top.proofs.Carried.{some-bytes, words-over}
use Rattle.tree_top.proofs.carry.run_over_source.Goals as goal

pub returns-in-None-clause-over : goal.returns-in-None-clause-over
returns-in-None-clause-over g c =
    let bytes = some-bytes (g.S.Source.left c.args.source.now) in
    (bytes.0, bytes.1, words-over c.one_answer.ensures.alone c.args.command bytes.0 _ _ _ _ _ _ _ _ c.in-None.is)
