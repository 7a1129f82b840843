use Rattle.std.proofs.Common.{◌≡◌, ◌++◌, length, map}
use Rattle.std.specs.Vec.Iter.{into_iter_items, into_iter_len}
use Rattle.stage_plan.specs.PlanWords.{columns_in}
use Rattle.stage_chain.specs.Plans.{plan_stages, stages_by, stages_in}
use Rattle.stage_chain.proofs.planned.planned.Given as goal

-- the stages so far, and those of the steps that are left, are all of them
abbrev pub invariant-steps : goal.invariant-steps
invariant-steps l = record {
  all : stages_in l.planned.items ++ stages_by (into_iter_items l.steps) (map (λ link. columns_in link.items) (into_iter_items l.links))
      ≡ plan_stages l.fn.plan;
  as_many : length (into_iter_items l.links) ≡ length (into_iter_items l.steps);
}

abbrev pub decreases-steps : goal.decreases-steps
decreases-steps l = into_iter_len l.steps
