-- A window on a share of a chunk.
use Rattle.std.proofs.Common.{◌≡◌, ◌∙◌, ℕ, ◌+◌, ◌≤◌, pos, take, drop, ap, sym, arith}
use Rattle.tree_model.specs.promise.TreeParts.{IsLive}
use Rattle.raw_array.specs.promise.Members.{ArrayTree}
use Rattle.raw_array.specs.Members.{LoweredBy, ShareOf}
use Rattle.data_types.specs.promise.KindTrees.{KindTree}
use Rattle.layout_rules.specs.promise.Values.{rows_of, tree_items}
use Rattle.layout_rules.specs.promise.Walk.{ChunkOk, LayoutOk}
use Rattle.raw_array.specs.Windows.{FitsWindow, Window}
use Rattle.array_laws.specs.Shown.{SameShown}
use Rattle.array_laws.proofs.ShownItems.{items-shown, rows-shown}
use Rattle.array_laws.proofs.ShownParts.{shown-lowered_by, shown-share}
use Rattle.array_laws.proofs.ShownWalk.{same-chunk, same-lawful}
use Rattle.array_laws.proofs.WindowTree.{window-chunk, window-fits, window-has_rows}

pub same-items : (t u : ArrayTree) → SameShown t u → tree_items t ≡ tree_items u
same-items t u e = sym (items-shown t) ∙ ap tree_items e ∙ items-shown u

share-shown : (k : ℕ) (t : ArrayTree) → SameShown (ShareOf (LoweredBy k t)) t
share-shown k t = shown-share (LoweredBy k t) ∙ shown-lowered_by k t

pub piece-fits : (typed : KindTree) (k : ℕ) (t : ArrayTree) (off len : ℕ) → IsLive typed → off + len ≤ tree_items t → LayoutOk typed t
    → FitsWindow (ShareOf (LoweredBy k t)) (pos off) (pos len)
piece-fits typed k t off len live le ok =
    let s = ShareOf (LoweredBy k t) in
    let e = same-items s t (share-shown k t) in
    window-fits typed s off len live (omega (arith, e, le)) (same-lawful typed t s (sym (share-shown k t)) ok)

pub piece-chunk : (typed : KindTree) (k : ℕ) (t : ArrayTree) (off len : ℕ) → off + len ≤ tree_items t → ChunkOk typed t
    → ChunkOk typed (Window (ShareOf (LoweredBy k t)) (pos off) (pos len))
piece-chunk typed k t off len le ok =
    let e = same-items (ShareOf (LoweredBy k t)) t (share-shown k t) in
    window-chunk typed (ShareOf (LoweredBy k t)) off len (omega (arith, e, le))
    (same-chunk typed t (ShareOf (LoweredBy k t)) (sym (share-shown k t)) ok)

pub piece-rows : (typed : KindTree) (k : ℕ) (t : ArrayTree) (off len : ℕ) → off + len ≤ tree_items t → LayoutOk typed t
    → rows_of typed (Window (ShareOf (LoweredBy k t)) (pos off) (pos len)) ≡ take len (drop off (rows_of typed t))
piece-rows typed k t off len le ok =
    let s = ShareOf (LoweredBy k t) in
    let e = same-items s t (share-shown k t) in
    window-has_rows typed s off len (omega (arith, e, le)) (same-lawful typed t s (sym (share-shown k t)) ok)
    ∙ ap (λ rows. take len (drop off rows)) (sym (rows-shown typed s) ∙ ap (rows_of typed) (share-shown k t) ∙ rows-shown typed t)
