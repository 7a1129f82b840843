use Rattle.std.proofs.Common.{◌≡◌, List, ◌-◌, ◌≤◌, ℕ, length, get_or, ap, ◌∙◌, subst, sym, All}
use Rattle.std.specs.List.{AllWithin}
use Rattle.std.specs.Prelude.{IfOk}
use Rattle.data_types.specs.promise.TypedView.{typed_of}
use Rattle.fan_out.specs.promise.Counts.{most_workers}
use Rattle.fan_out.specs.Pieces.{GivesPieces, ReadsPieces}
use Rattle.fan_out.specs.Workers.{CanRun, IsReady, IsReleased, IsUnspent}
use Rattle.fan_out.specs.declared.piece.Piece.{Piece}
use Rattle.fan_out.proofs.Lists.{in_whole}
use Rattle.fan_out.proofs.run.run_pieces.Goals as goal

pub run_and_collect-answers-requires-clause-workers : goal.run_and_collect-answers-requires-clause-workers
run_and_collect-answers-requires-clause-workers g c κs within =
    subst (λ (n : ℕ). (1 ≤ n) × (n ≤ most_workers)) (sym c.as_mut_slice.ensures.len) c.requires.workers

pub run_and_collect-answers-requires-clause-types : goal.run_and_collect-answers-requires-clause-types
run_and_collect-answers-requires-clause-types g c κs within = c.requires.types

pub run_and_collect-answers-requires-clause-pieces : goal.run_and_collect-answers-requires-clause-pieces
run_and_collect-answers-requires-clause-pieces g c κs within =
    let typed = typed_of c.args.typed.now in
    subst (λ (ps : List (Piece _)). All (λ p. CanRun (g.J.Job.fits c.args.job.now typed) typed p) ps) (sym c.as_mut_slice.ensures.value) c.requires.pieces

pub run_and_collect-answers-requires-clause-unspent : goal.run_and_collect-answers-requires-clause-unspent
run_and_collect-answers-requires-clause-unspent g c κs within =
    subst (λ (ps : List (Piece _)). All (λ p. IsUnspent c.args.cost p) ps) (sym c.as_mut_slice.ensures.value) c.requires.unspent

pub end_pieces-tree-requires-clause-some : goal.end_pieces-tree-requires-clause-some
end_pieces-tree-requires-clause-some g c = c.requires.workers.0

pub end_pieces-tree-requires-clause-last : goal.end_pieces-tree-requires-clause-last
end_pieces-tree-requires-clause-last g c d =
    in_whole (λ (ps : List (Piece _)) (n : ℕ). ((get_or ps (n - 1) d).pass.units ≡ 0) × ((get_or ps (n - 1) d).pass.blocks ≡ 0)
    × ((get_or ps (n - 1) d).pass.nodes ≡ 0))
    c.args.pieces.len (length c.as_mut_slice.result.now) c.run_and_collect-answers.new.pieces c.args.pieces.items
    c.run_and_collect-answers.ensures.len c.as_mut_slice.ensures.len (c.run_and_collect-answers.ensures.empty d)

pub end_pieces-tree-requires-clause-released : goal.end_pieces-tree-requires-clause-released
end_pieces-tree-requires-clause-released g c =
    in_whole (λ (ps : List (Piece _)) (n : ℕ). AllWithin (IsReleased c.args.cost) ps 0 (n - 1))
    c.args.pieces.len (length c.as_mut_slice.result.now) c.run_and_collect-answers.new.pieces c.args.pieces.items
    c.run_and_collect-answers.ensures.len c.as_mut_slice.ensures.len c.run_and_collect-answers.ensures.released

pub end_pieces-tree-requires-clause-room : goal.end_pieces-tree-requires-clause-room
end_pieces-tree-requires-clause-room g c = c.requires.room

pub returns-clause-tree : goal.returns-clause-tree
returns-clause-tree g c d =
    let n = length c.as_mut_slice.result.now in
    c.end_pieces-tree.ensures.tree d
    ∙ in_whole (λ (ps : List (Piece _)) (n : ℕ). (get_or ps (n - 1) d).tree ≡ (get_or c.args.pieces.items (n - 1) d).tree)
    c.args.pieces.len n c.run_and_collect-answers.new.pieces c.args.pieces.items
    c.run_and_collect-answers.ensures.len c.as_mut_slice.ensures.len
    (c.run_and_collect-answers.ensures.last d ∙ ap (λ ps. (get_or ps (n - 1) d).tree) c.as_mut_slice.ensures.value)

pub returns-clause-units : goal.returns-clause-units
returns-clause-units g c = c.end_pieces-tree.ensures.units

pub returns-clause-blocks : goal.returns-clause-blocks
returns-clause-blocks g c = c.end_pieces-tree.ensures.blocks

pub returns-clause-nodes : goal.returns-clause-nodes
returns-clause-nodes g c = c.end_pieces-tree.ensures.nodes

pub returns-clause-answers : goal.returns-clause-answers
returns-clause-answers g c rows ready =
    let typed = typed_of c.args.typed.now in
    let gives = g.J.Job.gives c.args.job.now typed rows in
    let Given : ℕ → Type 0 = λ n. IfOk c.run_and_collect-answers.result (λ v. GivesPieces gives (length rows) n v.items) in
    let given = subst (λ (ps : List (Piece _)). All (λ p. IsReady typed rows c.args.cost p) ps → Given (length ps))
    c.as_mut_slice.ensures.value (c.run_and_collect-answers.ensures.answers rows) ready in
    subst Given (sym c.args.pieces.ok.0) given

pub returns-clause-read : goal.returns-clause-read
returns-clause-read g c rows ready d =
    let typed = typed_of c.args.typed.now in
    let reads = g.J.Job.reads c.args.job.now in
    let Read : List (Piece _) → ℕ → Type 0
    = λ ps n. IfOk c.run_and_collect-answers.result (λ v. ReadsPieces reads (λ w. (get_or ps w d).tree) (length rows) n v.items) in
    let read = subst (λ (ps : List (Piece _)). All (λ p. IsReady typed rows c.args.cost p) ps → Read ps (length ps))
    c.as_mut_slice.ensures.value (λ all. c.run_and_collect-answers.ensures.read rows all d) ready in
    subst (Read c.args.pieces.items) (sym c.args.pieces.ok.0) read
