use Rattle.std.proofs.Common.{arith, ◌≡◌, ◌∙◌, ◌+◌, List, [], ◌∷◌, map, Option, None, sym, ap, subst, true≢false}
use Rattle.data_types.specs.ColumnView.{column_of}
use Rattle.data_types.specs.promise.Table.{Column, Row}
use Rattle.tree_model.specs.promise.TreeParts.{IsLive}
use Rattle.raw_array.specs.promise.Members.{ArrayTree, Cost}
use Rattle.data_types.specs.promise.TypedView.{typed_of}
use Rattle.stages.specs.Steps.{Finishes, IsNext, Pushes, cost_given}
use Rattle.stages.proofs.Turning.{is-live, turns-some}
use Rattle.stages.proofs.pull.turn.Goals as goal

-- ---- the end of the stream below
pub returns-in-Ok-None : goal.returns-in-Ok-None
returns-in-Ok-None g c =
    let s = c.args.step.now in
    let n = c.finish.new.self in
    let call = c.in-Ok-None.ensures in
    let gone = c.is_released.ensures.0 c.if-is_released.true in
    let units = subst (λ (o : Option ArrayTree). c.finish.new.pass.units + cost_given o ≡ c.args.pass.now.units) c.in-Ok-None.field-0-is call.units in
    record {
      columns = call.columns;
      fits = call.fits;
      own_blocks = call.own_blocks;
      own_nodes = call.own_nodes;
      besides = call.besides;
      units = omega (arith, units);
      released = tt;
      goes_on = λ e. absurd (true≢false e);
      done = λ _ live. live;
      rests = tt;
      pushed = λ live. absurd (subst IsLive gone live);
      finished = λ _ before fits lawful takes. record {
        nothing = λ _. subst
            (Finishes (map column_of (g.S.ChunkStep.columns s)) (g.S.ChunkStep.blocks s) (g.S.ChunkStep.nodes s) (g.S.ChunkStep.gives s)
            (g.S.ChunkStep.ahead s None []) (g.S.ChunkStep.ahead n None []) (g.S.ChunkStep.rests n) c.args.pass.now c.finish.new.pass)
            c.in-Ok-None.field-0-is (call.finished before fits lawful takes);
        something = λ live. absurd (subst IsLive gone live);
      };
    }

pub returns-in-Ok-Some : goal.returns-in-Ok-Some
returns-in-Ok-Some g c =
    let s = c.args.step.now in
    let n = c.finish.new.self in
    let call = c.in-Ok-Some.ensures in
    let gone = c.is_released.ensures.0 c.if-is_released.true in
    let units = subst (λ (o : Option ArrayTree). c.finish.new.pass.units + cost_given o ≡ c.args.pass.now.units) c.in-Ok-Some.field-0-is call.units in
    record {
      columns = call.columns;
      fits = call.fits;
      own_blocks = call.own_blocks;
      own_nodes = call.own_nodes;
      besides = call.besides;
      units = omega (arith, units, ap Cost c.put.ensures, ap Cost gone);
      released = tt;
      goes_on = λ e. absurd (true≢false e);
      done = λ _ live. absurd (subst IsLive gone live);
      rests = tt;
      pushed = λ live. absurd (subst IsLive gone live);
      finished = λ _ before fits lawful takes.
          let given = subst
          (Finishes (map column_of (g.S.ChunkStep.columns s)) (g.S.ChunkStep.blocks s) (g.S.ChunkStep.nodes s) (g.S.ChunkStep.gives s)
          (g.S.ChunkStep.ahead s None []) (g.S.ChunkStep.ahead n None []) (g.S.ChunkStep.rests n) c.args.pass.now c.finish.new.pass)
          c.in-Ok-Some.field-0-is (call.finished before fits lawful takes) in
          turns-some _ _ _ _ c.put.ensures given.live given;
    }

pub returns-in-Err : goal.returns-in-Err
returns-in-Err g c =
    let call = c.in-Err.ensures in
    record {
      columns = c.forget.ensures.columns ∙ call.columns;
      fits = λ before h. c.forget.ensures.fits before (call.fits before h);
      own_blocks = λ rows. c.forget.ensures.own_blocks rows ∙ call.own_blocks rows;
      own_nodes = λ rows. c.forget.ensures.own_nodes rows ∙ call.own_nodes rows;
      besides = λ rows t h. call.besides rows t (c.forget.ensures.besides rows t h);
      units = ap (λ n. n + Cost c.args.out.now) call.units;
      released = c.is_released.ensures.0 c.if-is_released.true;
      goes_on = tt;
      done = tt;
      rests = c.forget.ensures.rests;
      pushed = λ _ _ _ _ _ _ _. tt;
      finished = λ _ _ _ _ _. tt;
    }

-- ---- a chunk
pub returns-in-Ok-None-push : goal.returns-in-Ok-None-push
returns-in-Ok-None-push g c =
    let s = c.args.step.now in
    let n = c.push.new.self in
    let call = c.in-Ok-None-push.ensures in
    let live = is-live c.args.out.now _ c.is_released.ensures.1 c.if-is_released.false in
    let units = subst (λ (o : Option ArrayTree). c.push.new.pass.units + cost_given o ≡ c.args.pass.now.units + Cost c.move_out.result)
    c.in-Ok-None-push.field-0-is call.units in
    record {
      columns = call.columns;
      fits = call.fits;
      own_blocks = call.own_blocks;
      own_nodes = call.own_nodes;
      besides = call.besides;
      units = omega (arith, units, ap Cost c.move_out.ensures.moved, ap Cost c.move_out.ensures.left);
      released = tt;
      goes_on = λ _. (live, c.move_out.ensures.left);
      done = λ e. absurd (true≢false (sym e));
      rests = tt;
      pushed = λ _ before rows more fits takes next. record {
        nothing = λ _. subst
            (Pushes (map column_of (g.S.ChunkStep.columns s)) (g.S.ChunkStep.blocks s) (g.S.ChunkStep.nodes s) (g.S.ChunkStep.gives s)
            (λ ending. g.S.ChunkStep.ahead s ending (rows ∷ more)) (λ ending. g.S.ChunkStep.ahead n ending more) (g.S.ChunkStep.takes n before more)
            (g.S.ChunkStep.rests n) c.args.pass.now c.push.new.pass)
            c.in-Ok-None-push.field-0-is
            (call.pushed before rows more fits takes
            (subst (IsNext before rows more (typed_of c.args.typed.now)) (sym c.move_out.ensures.moved) next));
        something = λ live. absurd (subst IsLive c.move_out.ensures.left live);
      };
      finished = λ gone. absurd (subst IsLive gone live);
    }

pub returns-in-Ok-Some-push : goal.returns-in-Ok-Some-push
returns-in-Ok-Some-push g c =
    let s = c.args.step.now in
    let n = c.push.new.self in
    let call = c.in-Ok-Some-push.ensures in
    let live = is-live c.args.out.now _ c.is_released.ensures.1 c.if-is_released.false in
    let units = subst (λ (o : Option ArrayTree). c.push.new.pass.units + cost_given o ≡ c.args.pass.now.units + Cost c.move_out.result)
    c.in-Ok-Some-push.field-0-is call.units in
    let pushed = λ (before : List Column) (rows : List Row) (more : List (List Row)) (fits : ∥ g.S.ChunkStep.fits s before ∥₁)
    (takes : g.S.ChunkStep.takes s before (rows ∷ more)) (next : IsNext before rows more (typed_of c.args.typed.now) c.args.out.now). subst
    (Pushes (map column_of (g.S.ChunkStep.columns s)) (g.S.ChunkStep.blocks s) (g.S.ChunkStep.nodes s) (g.S.ChunkStep.gives s)
    (λ ending. g.S.ChunkStep.ahead s ending (rows ∷ more)) (λ ending. g.S.ChunkStep.ahead n ending more) (g.S.ChunkStep.takes n before more)
    (g.S.ChunkStep.rests n) c.args.pass.now c.push.new.pass)
    c.in-Ok-Some-push.field-0-is
    (call.pushed before rows more fits takes
    (subst (IsNext before rows more (typed_of c.args.typed.now)) (sym c.move_out.ensures.moved) next)) in
    record {
      columns = call.columns;
      fits = call.fits;
      own_blocks = call.own_blocks;
      own_nodes = call.own_nodes;
      besides = call.besides;
      units = omega (arith, units, ap Cost c.move_out.ensures.moved, ap Cost c.put-in-Ok-Some-push.ensures);
      released = tt;
      goes_on = λ e. absurd (true≢false e);
      done = λ _ here.
          let next = c.requires.next here in
          subst IsLive (sym c.put-in-Ok-Some-push.ensures) (pushed next.0 next.1 next.2 next.3 next.4 next.5).live;
      rests = tt;
      pushed = λ _ before rows more fits takes next.
          let given = pushed before rows more fits takes next in
          turns-some _ _ _ _ c.put-in-Ok-Some-push.ensures given.live given;
      finished = λ gone. absurd (subst IsLive gone live);
    }

pub returns-in-Err-push : goal.returns-in-Err-push
returns-in-Err-push g c =
    let call = c.in-Err-push.ensures in
    let live = is-live c.args.out.now _ c.is_released.ensures.1 c.if-is_released.false in
    record {
      columns = c.forget-in-Err-push.ensures.columns ∙ call.columns;
      fits = λ before h. c.forget-in-Err-push.ensures.fits before (call.fits before h);
      own_blocks = λ rows. c.forget-in-Err-push.ensures.own_blocks rows ∙ call.own_blocks rows;
      own_nodes = λ rows. c.forget-in-Err-push.ensures.own_nodes rows ∙ call.own_nodes rows;
      besides = λ rows t h. call.besides rows t (c.forget-in-Err-push.ensures.besides rows t h);
      units = omega (arith, call.units, ap Cost c.move_out.ensures.moved, ap Cost c.move_out.ensures.left);
      released = c.move_out.ensures.left;
      goes_on = tt;
      done = tt;
      rests = c.forget-in-Err-push.ensures.rests;
      pushed = λ _ _ _ _ _ _ _. tt;
      finished = λ _ _ _ _ _. tt;
    }
