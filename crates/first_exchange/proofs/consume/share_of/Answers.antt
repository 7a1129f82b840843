use Rattle.std.proofs.Common.{◌∙◌, ap, sym}
use Rattle.std.proofs.lemmas.Result.{IfOk-weaker}
use Rattle.array_laws.specs.Shown.{shown}
use Rattle.first_exchange.proofs.consume.share_of.Goals as goal

pub returns-clause-lawful : goal.returns-clause-lawful
returns-clause-lawful c =
    c.trees_that_show_the_same.ensures.lawful _ _ _ (c.shares_show_the_same.ensures.like _ _ c.share.ensures.like) c.requires.lawful

pub returns-clause-share : goal.returns-clause-share
returns-clause-share c =
    IfOk-weaker c.share.result _ _
    (λ share is. let same = ap shown is ∙ c.shares_show_the_same.ensures.share c.args.table.now in
    c.trees_that_show_the_same.ensures.lawful _ _ _ (sym same) c.requires.lawful)
    c.share.ensures.tree
