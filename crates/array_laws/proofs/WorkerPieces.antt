-- The pieces of a chunk that workers read, joined.
use Rattle.std.proofs.Common.{◌≡◌, ◌∙◌, ℕ, zero, suc, ◌+◌, ◌-◌, ◌<◌, ◌≤◌, ◌++◌, take, drop, refl, ap, sym, arith}
use Rattle.raw_array.specs.promise.Members.{ArrayTree}
use Rattle.data_types.specs.promise.KindTrees.{KindTree}
use Rattle.layout_rules.specs.promise.Values.{row_items, rows_of, tree_items}
use Rattle.layout_rules.specs.promise.Walk.{ChunkOk, LayoutOk}
use Rattle.array_laws.specs.Pieces.{border, joined_pieces, piece, rows_of_pieces}
use Rattle.array_laws.proofs.JoinedPieces.{piece-fits, pieces-whole}
use Rattle.array_laws.proofs.SharedPieces.{piece-chunk, piece-rows}
use Rattle.array_laws.proofs.WindowItems.{length-each}

pub worker-chunk : (typed : KindTree) (t : ArrayTree) (workers w : ℕ) → w < workers → ChunkOk typed t → ChunkOk typed (piece t workers w)
worker-chunk typed t workers w lt ok =
    let from = border (tree_items t) workers in
    piece-chunk typed w t (from w) (from (w + 1) - from w) (piece-fits (tree_items t) workers w lt) ok

module _ (typed : KindTree) (t : ArrayTree) (workers : ℕ) (ok : LayoutOk typed t) where
  abbrev from : ℕ → ℕ
  from = border (tree_items t) workers

  one-piece : (w : ℕ) → w < workers → rows_of typed (piece t workers w) ≡ take (from (suc w) - from w) (drop (from w) (rows_of typed t))
  one-piece w lt =
      let next : w + 1 ≡ suc w = omega arith in
      piece-rows typed w t (from w) (from (w + 1) - from w) (piece-fits (tree_items t) workers w lt) ok
      ∙ ap (λ n. take (from n - from w) (drop (from w) (rows_of typed t))) next

  first-pieces : (w : ℕ) → w ≤ workers → rows_of_pieces typed t workers w ≡ joined_pieces from (rows_of typed t) w
  first-pieces zero le = refl
  first-pieces (suc w) le = λ i. first-pieces w (omega (arith, le)) i ++ one-piece w (omega (arith, le)) i

  pub worker-rows : 0 < workers → rows_of_pieces typed t workers workers ≡ rows_of typed t
  worker-rows above =
      first-pieces workers (omega arith)
      ∙ ap (λ n. joined_pieces (border n workers) (rows_of typed t) workers) (sym (length-each (row_items typed t) 0 (tree_items t)))
      ∙ pieces-whole (rows_of typed t) workers above
