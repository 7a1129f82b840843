use Rattle.stage_filter.proofs.laws.like_trees_are_the_same.Goals as goal

pub returns-clause-values : goal.returns-clause-values
returns-clause-values c = λ typed t u like. c.trees_that_show_the_same.ensures.values typed t u (c.shares_show_the_same.ensures.like t u like)

pub returns-clause-chunk : goal.returns-clause-chunk
returns-clause-chunk c = λ typed t u like. c.trees_that_show_the_same.ensures.chunk typed t u (c.shares_show_the_same.ensures.like t u like)

pub returns-clause-rows : goal.returns-clause-rows
returns-clause-rows c = λ typed t u like. c.trees_that_show_the_same.ensures.rows typed t u (c.shares_show_the_same.ensures.like t u like)
