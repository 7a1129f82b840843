use Rattle.std.proofs.lemmas.Grind.{common_steps}
use Rattle.std.proofs.Common.{rules, arith, ◌≡◌, ℕ, ◌+◌, ◌-◌, ◌<◌, ◌≤◌, ◌*◌, ap, get_or, length, subst, sym, ◌∙◌}
use Rattle.std.proofs.lemmas.Result.{IfOk-weaker}
use Rattle.fan_out.specs.Pieces.{GivesPiece, lent}
use Rattle.data_types.specs.promise.TypedView.{typed_of}
use Rattle.layout_rules.specs.promise.Values.{rows_of}
use Rattle.std.proofs.Math.Nat.{mul-le-mul_right}
use Rattle.raw_array.specs.promise.Members.{ArrayTree, Cost}
use Rattle.raw_array.specs.Members.{LeastAmount, LoweredBy}
use Rattle.fan_out.proofs.Lists.{always_on_ok}
use Rattle.fan_out.proofs.fan.fan_out.Goals as goal
use Rattle.fan_out.proofs.fan.fan_out.Goals.{then-workers-eq1-via-then-workers-eq1, then-workers-eq1-via-else-workers-eq1+then-least_amount-from}

-- one worker reads the chunk itself
alone : (t : ArrayTree) (workers w : ℕ) → workers ≡ 1 → w < workers → LoweredBy 0 t ≡ t → lent t workers w ≡ t
alone t workers w one h none =
    let first : w ≡ 0 = omega arith in
    ap (λ (n : ℕ). lent t n w) one ∙ ap (λ (k : ℕ). lent t 1 k) first ∙ none

pub returns-then-workers-eq1 : goal.returns-then-workers-eq1
returns-then-workers-eq1 g c =
    record {
      like = c.like_trees_are_ordered.ensures.reflexive c.args.chunk.now;
      lowered = always_on_ok c.in_turn.result _
          (λ enough. elim c.then-workers-eq1.branch [
            | then-workers-eq1-via-then-workers-eq1 w ↦
                let one : c.args.workers.count ≡ 1 = search (rules, w) in
                let none : c.args.workers.count - 1 ≡ 0 = omega (arith, one) in
                sym (ap (λ (n : ℕ). LoweredBy n c.args.chunk.now) none ∙ c.shares_add_up.ensures.none c.args.chunk.now)
            | then-workers-eq1-via-else-workers-eq1+then-least_amount-from w ↦
                let less : LeastAmount c.args.chunk.now + 1 ≤ c.args.workers.count = search (rules, w) in
                absurd (omega (arith, less, enough))
          ]);
      answers = grind (arith, common_steps);
      read =
          let rows = length (rows_of (typed_of c.args.typed.now) c.args.chunk.now) in
          let workers = c.args.workers.count in
          λ enough. elim c.then-workers-eq1.branch [
            | then-workers-eq1-via-then-workers-eq1 w ↦
                let one : c.args.workers.count ≡ 1 = search (rules, w) in
                IfOk-weaker c.in_turn.result _ _ (λ v read k e h. subst (λ t. GivesPiece (g.J.Job.reads c.args.job.now t) rows workers k (get_or v.items k e))
                (sym (alone c.args.chunk.now c.args.workers.count k one h (c.shares_add_up.ensures.none c.args.chunk.now))) (read k e h))
                c.in_turn.ensures.read
            | then-workers-eq1-via-else-workers-eq1+then-least_amount-from w ↦
                let less : LeastAmount c.args.chunk.now + 1 ≤ c.args.workers.count = search (rules, w) in
                absurd (omega (arith, less, enough))
          ];
      read_in_turn = λ _. c.in_turn.ensures.read;
      unchanged = grind (arith, common_steps);
      alone = grind (arith, common_steps);
      lawful = grind (arith, common_steps);
      rows = grind (arith, common_steps);
      cost = grind (arith, common_steps);
      units = grind (arith, common_steps);
      blocks = grind (arith, common_steps);
      nodes = grind (arith, common_steps);
    }

pub in_threads-requires-clause-cost : goal.in_threads-requires-clause-cost
in_threads-requires-clause-cost g c κs within =
    let once : 1 * Cost c.args.chunk.now ≤ c.args.workers.count * Cost c.args.chunk.now = mul-le-mul_right (Cost c.args.chunk.now) c.args.workers.some in
    let units = c.requires.units in
    let most = c.units-supply.ensures.bounded in
    let is = c.cost-cost.ensures in
    omega (arith, once, units, most, is)

pub returns : goal.returns
returns g c =
    record {
      lawful = c.trees_that_show_the_same.ensures.chunk _ _ _ (c.shares_show_the_same.ensures.like _ _ c.in_threads.ensures.like) c.requires.chunk;
      rows = sym (c.trees_that_show_the_same.ensures.rows _ _ _ (c.shares_show_the_same.ensures.like _ _ c.in_threads.ensures.like));
      cost = c.like_trees_are_ordered.ensures.cost _ _ c.in_threads.ensures.like;
      answers = grind (arith, common_steps);
      read = λ _. c.in_threads.ensures.read;
      read_in_turn = grind (arith, common_steps);
      like = grind (arith, common_steps);
      lowered = grind (arith, common_steps);
      unchanged = grind (arith, common_steps);
      alone = grind (arith, common_steps);
      units = grind (arith, common_steps);
      blocks = grind (arith, common_steps);
      nodes = grind (arith, common_steps);
    }
