use Rattle.run_tests.proofs.OwnCalls.{counts-chunk, counts-end, counts-record}
use Rattle.run_tests.proofs.own.OwnStream.next_chunk.Goals as goal

pub returns-else-self-2-clause-counts : goal.returns-else-self-2-clause-counts
returns-else-self-2-clause-counts c = counts-end c.args.self.now.given c.args.pass.now c.args.out.now c.if-self.true

pub returns-in-Ok-clause-counts : goal.returns-in-Ok-clause-counts
returns-in-Ok-clause-counts c =
    counts-chunk c.args.self.now.given c.args.pass.now c.own_chunk.new.pass c.put.new.self c.if-self.false c.in-Ok.ensures.blocks c.in-Ok.ensures.nodes

pub returns-then-self-2-clause-refused_counts : goal.returns-then-self-2-clause-refused_counts
returns-then-self-2-clause-refused_counts c = λ _. counts-record c.args.self.now.given c.args.pass.now c.args.out.now c.if-self.true
