use Rattle.std.proofs.Common.{◌≡◌, ℕ, ◌+◌, ◌*◌, ◌<◌, ◌≤◌, All, get_or, vec_len, vec_capacity}
use Rattle.raw_array.specs.Members.{Like, LoweredBy, ShareOf}
use Rattle.data_types.specs.promise.TypedView.{typed_of}
use Rattle.layout_rules.specs.promise.Values.{rows_of}
use Rattle.fan_out.specs.Pieces.{IsChunk}
use Rattle.fan_out.specs.Workers.{IsReady}
use Rattle.fan_out.specs.declared.piece.Piece.{Piece}
use Rattle.fan_out.proofs.pieces.make_pieces.Given as goal

abbrev pub invariant-loop-worker : goal.invariant-loop-worker
invariant-loop-worker g l =
    let typed = typed_of l.initial.typed in
    let rows = rows_of typed l.initial.chunk in
    (vec_len l.pieces + 1 ≡ l._worker)
    × (l.count ≤ vec_capacity l.pieces)
    × (l.chunk ≡ LoweredBy (vec_len l.pieces) l.initial.chunk)
    × IsChunk typed rows l.initial.cost l.chunk
    × Like l.initial.chunk l.chunk
    × (l.pass.units + vec_len l.pieces * l.initial.cost ≡ l.initial.pass.units)
    × (l.pass.blocks ≡ l.initial.pass.blocks)
    × (l.pass.nodes ≡ l.initial.pass.nodes)
    × All (λ p. IsReady typed rows l.initial.cost p) l.pieces.items
    × (vec_len l.pieces < l.count)
    × ((w : ℕ) (d : Piece _) → w < vec_len l.pieces → (get_or l.pieces.items w d).tree ≡ ShareOf (LoweredBy w l.initial.chunk))
