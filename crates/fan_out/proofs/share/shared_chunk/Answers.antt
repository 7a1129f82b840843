use Rattle.std.proofs.Common.{◌∙◌, ap, sym}
use Rattle.array_laws.specs.Shown.{shown}
use Rattle.fan_out.proofs.Lists.{both_ok}
use Rattle.fan_out.proofs.share.shared_chunk.Goals as goal

pub returns-clause-share : goal.returns-clause-share
returns-clause-share c =
    both_ok c.share.result _ _ _
    (λ v is cost. let same = ap shown is ∙ c.shares_show_the_same.ensures.share c.args.chunk.now in
    record {
      lawful = c.trees_that_show_the_same.ensures.chunk _ _ _ (sym same) c.requires.chunk;
      rows = c.trees_that_show_the_same.ensures.rows _ _ _ same;
      cost = cost;
    })
    c.share.ensures.tree c.share.ensures.cost

pub returns-clause-kept : goal.returns-clause-kept
returns-clause-kept c =
    let same = c.shares_show_the_same.ensures.like _ _ c.share.ensures.like in
    record {
      lawful = c.trees_that_show_the_same.ensures.chunk _ _ _ same c.requires.chunk;
      rows = sym (c.trees_that_show_the_same.ensures.rows _ _ _ same);
      cost = c.share.ensures.cost_kept;
    }
