use Rattle.std.proofs.lemmas.Grind.{common_steps}
use Rattle.std.proofs.Common.{arith, ◌≡◌, ℕ, ◌+◌, ◌-◌, ◌<◌, ◌≤◌, ◌*◌, length, vec_len, get_or, ap, sym, ◌∙◌, subst}
use Rattle.std.proofs.lemmas.Result.{IfOk-weaker}
use Rattle.std.proofs.Math.Nat.{mul-le-mul_right}
use Rattle.std.specs.Prelude.{IfOk}
use Rattle.unit_pass.specs.declared.pass.TheConstants.{SUPPLY}
use Rattle.data_types.specs.promise.TypedView.{typed_of}
use Rattle.layout_rules.specs.promise.Values.{rows_of}
use Rattle.raw_array.specs.Members.{Like, LoweredBy}
use Rattle.fan_out.specs.promise.Counts.{most_workers}
use Rattle.fan_out.specs.Pieces.{GivesPiece, GivesPieces, ReadsPieces, lent}
use Rattle.fan_out.specs.declared.piece.Piece.{Piece}
use Rattle.fan_out.proofs.Lists.{always_on_ok}
use Rattle.fan_out.proofs.Ready.{an_item, can_run, unspent}
use Rattle.fan_out.proofs.fan.in_threads.Goals as goal
use Rattle.fan_out.proofs.fan.in_threads.Goals.{After-put}

pub run_pieces-tree-requires-clause-pieces : goal.run_pieces-tree-requires-clause-pieces
run_pieces-tree-requires-clause-pieces g c κs within =
    let typed = typed_of c.args.typed.now in
    let once : 1 * c.args.cost ≤ c.args.workers.count * c.args.cost = mul-le-mul_right c.args.cost c.args.workers.some in
    let units = c.requires.units in
    let most = c.units-supply.ensures.bounded in
    let small : c.args.cost ≤ SUPPLY = omega (arith, once, units, most) in
    can_run typed (rows_of typed c.args.chunk.now) c.args.cost (g.J.Job.fits c.args.job.now typed) _ c.requires.fits small c.in-Ok.ensures.ready

pub run_pieces-tree-requires-clause-unspent : goal.run_pieces-tree-requires-clause-unspent
run_pieces-tree-requires-clause-unspent g c κs within =
    let typed = typed_of c.args.typed.now in
    unspent typed (rows_of typed c.args.chunk.now) c.args.cost _ c.in-Ok.ensures.ready

pub run_pieces-tree-requires-clause-workers : goal.run_pieces-tree-requires-clause-workers
run_pieces-tree-requires-clause-workers g c κs within =
    subst (λ (n : ℕ). (1 ≤ n) × (n ≤ most_workers)) (sym c.in-Ok.ensures.len) (c.args.workers.some, c.args.workers.few)

pub run_pieces-tree-requires-clause-room : goal.run_pieces-tree-requires-clause-room
run_pieces-tree-requires-clause-room g c κs within =
    subst (λ (n : ℕ). c.make_pieces.new.pass.units + (n - 1) * c.args.cost ≤ SUPPLY) (sym c.in-Ok.ensures.len)
    (subst (λ (n : ℕ). n ≤ SUPPLY) (sym c.in-Ok.ensures.drawn) c.units-supply.ensures.bounded)

-- the chunk is back, and its amounts are one lower for each share
back : (g : _) (c : After-put g) → c.put.new.self ≡ LoweredBy (c.args.workers.count - 1) c.args.chunk.now
back g c =
    let some = subst (λ (n : ℕ). 0 < n) (sym c.in-Ok.ensures.len ∙ c.in-Ok.pieces.ok.0) c.args.workers.some in
    let d = an_item c.in-Ok.pieces.items some in
    c.put.ensures ∙ c.run_pieces-tree.ensures.tree d
    ∙ ap (λ (n : ℕ). (get_or c.in-Ok.pieces.items (n - 1) d).tree) c.in-Ok.ensures.len ∙ c.in-Ok.ensures.last d

pub returns : goal.returns
returns g c =
    let typed = typed_of c.args.typed.now in
    let rows = rows_of typed c.args.chunk.now in
    let reads = g.J.Job.reads c.args.job.now in
    let d = an_item c.in-Ok.pieces.items (subst (λ (n : ℕ). 0 < n) (sym c.in-Ok.ensures.len ∙ c.in-Ok.pieces.ok.0) c.args.workers.some) in
    record {
      answers = subst (λ (n : ℕ). IfOk c.run_pieces-tree.result.1 (λ v. GivesPieces (g.J.Job.gives c.args.job.now typed rows) (length rows) n v.items))
          c.in-Ok.ensures.len (c.run_pieces-tree.ensures.answers rows c.in-Ok.ensures.ready);
      read = subst (λ (n : ℕ). IfOk c.run_pieces-tree.result.1
          (λ v. ReadsPieces reads (lent c.args.chunk.now c.args.workers.count) (length rows) n v.items)) c.in-Ok.ensures.len
          (IfOk-weaker c.run_pieces-tree.result.1 _ _
          (λ v read w e h. subst (λ t. GivesPiece (reads t) (length rows) (vec_len c.in-Ok.pieces) w (get_or v.items w e))
          (c.in-Ok.ensures.trees w d (subst (λ (n : ℕ). w < n) c.in-Ok.ensures.len h)) (read w e h))
          (c.run_pieces-tree.ensures.read rows c.in-Ok.ensures.ready d));
      like = subst (Like c.args.chunk.now) (sym (back g c)) (c.like_trees_are_ordered.ensures.lowered_by (c.args.workers.count - 1) c.args.chunk.now);
      lowered = always_on_ok c.run_pieces-tree.result.1 _ (back g c);
      units = c.run_pieces-tree.ensures.units ∙ ap (λ (n : ℕ). c.make_pieces.new.pass.units + (n - 1) * c.args.cost) c.in-Ok.ensures.len
          ∙ c.in-Ok.ensures.drawn;
      blocks = c.run_pieces-tree.ensures.blocks ∙ c.make_pieces.ensures.blocks;
      nodes = c.run_pieces-tree.ensures.nodes ∙ c.make_pieces.ensures.nodes;
    }

pub make_pieces-requires : goal.make_pieces-requires
make_pieces-requires g c =
    record {
      chunk = grind (arith, common_steps);
      amounts = grind (arith, common_steps);
      cost = grind (arith, common_steps);
      units = grind (arith, common_steps);
    }

pub returns-in-Err : goal.returns-in-Err
returns-in-Err g c =
    record {
      answers = grind (arith, common_steps);
      read = grind (arith, common_steps);
      like = grind (arith, common_steps);
      lowered = grind (arith, common_steps);
      units = grind (arith, common_steps);
      blocks = grind (arith, common_steps);
      nodes = grind (arith, common_steps);
    }
