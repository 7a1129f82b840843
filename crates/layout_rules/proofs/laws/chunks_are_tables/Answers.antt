use Rattle.layout_rules.proofs.TreeLaws.{chunk_holds, length-rows}
use Rattle.layout_rules.proofs.laws.chunks_are_tables.Goals as goal

pub returns : goal.returns
returns c = record { chunk = chunk_holds; rows = length-rows }
