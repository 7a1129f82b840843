use Rattle.number_stream.proofs.Fitting.{counts-chunk, counts-end}
use Rattle.number_stream.proofs.numbers.NumbersArrayStream.get_next.Goals as goal

pub returns-in-Ok-clause-counts : goal.returns-in-Ok-clause-counts
returns-in-Ok-clause-counts g c = λ _ _.
    counts-chunk c.args.self.now.next c.args.pass.now c.number_chunk.new.pass c.put.new.self c.in-Chunk.is c.in-Ok.ensures.blocks c.in-Ok.ensures.nodes

pub returns-in-End-clause-counts : goal.returns-in-End-clause-counts
returns-in-End-clause-counts g c = λ _ _. counts-end c.args.self.now.next c.args.pass.now c.args.out.now c.in-End.is
