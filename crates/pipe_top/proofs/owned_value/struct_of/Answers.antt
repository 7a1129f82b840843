use Rattle.std.proofs.Common.{rules}
use Rattle.pipe_top.specs.declared.owned_value.OwnedValue.TheViews.{the_lemmas}
use Rattle.pipe_top.proofs.Kept.{row_is}
use Rattle.pipe_top.proofs.owned_value.struct_of.Goals as goal

pub returns : goal.returns
returns c = search (rules, the_lemmas, row_is)
