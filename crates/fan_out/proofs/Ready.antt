-- Pieces that no worker has begun yet.
use Rattle.std.proofs.Common.{◌≡◌, ◌≢◌, ℕ, List, [], ◌∷◌, ◌++◌, All, ◌+◌, ◌<◌, ◌≤◌, ap, arith, get_or, length, subst, sym, ◌∙◌}
use Rattle.std.proofs.lemmas.List.{get_or_append_left}
use Rattle.std.proofs.Math.Seq.{get_or-append_seam}
use mathlib.Core.Logic.{dite}
use native.Mathlib.Decide.{ℕ_discrete}
use Rattle.std.proofs.lemmas.List.Elements.{All-push}
use Rattle.unit_pass.specs.declared.pass.TheConstants.{SUPPLY}
use Rattle.data_types.specs.promise.Table.{Row}
use Rattle.raw_array.specs.promise.Members.{ArrayTree, Cost}
use Rattle.data_types.specs.promise.KindTrees.{KindTree}
use Rattle.layout_rules.specs.promise.Values.{rows_of}
use Rattle.fan_out.specs.declared.piece.Piece.{Piece}
use Rattle.fan_out.specs.Pieces.{IsChunk}
use Rattle.fan_out.specs.Workers.{CanRun, IsReady, IsUnspent}

-- what is left of a chunk by a share is a chunk of the same rows, and so is the share
pub chunk_again : (typed : KindTree) (rows : List Row) (cost : ℕ) (t u : ArrayTree)
    → IsChunk typed rows cost t → IsChunk typed (rows_of typed t) (Cost t) u → IsChunk typed rows cost u
chunk_again typed rows cost t u was is = record { lawful = is.lawful; rows = is.rows ∙ was.rows; cost = is.cost ∙ was.cost }

module _ {O : Type 0} where
  pub none_ready : (typed : KindTree) (rows : List Row) (cost : ℕ) (ps : List (Piece O)) → ps ≡ [] → All (λ p. IsReady typed rows cost p) ps
  none_ready typed rows cost ps is = subst (All (λ (p : Piece O). IsReady typed rows cost p)) (sym is) (λ k d h. absurd (omega arith))

  -- one piece more is ready
  pub ready_push : (typed : KindTree) (rows : List Row) (cost : ℕ) (t : ArrayTree) (ps qs : List (Piece O)) (p : Piece O)
      → qs ≡ ps ++ p ∷ [] → p.tree ≡ t → IsChunk typed rows cost t → (p.pass.units ≡ 0) × (p.pass.blocks ≡ 0) × (p.pass.nodes ≡ 0)
      → All (λ p. IsReady typed rows cost p) ps → All (λ p. IsReady typed rows cost p) qs
  ready_push typed rows cost t ps qs p is tree chunk pass others =
      subst (All (λ (p : Piece O). IsReady typed rows cost p)) (sym is)
      (All-push (λ (p : Piece O). IsReady typed rows cost p) ps p others
      (record { chunk = subst (IsChunk typed rows cost) (sym tree) chunk; units = pass.0; blocks = pass.1; nodes = pass.2 }))

  -- and has the tree that a piece of its number is to have, as the others have
  pub tree_push : (tree : ℕ → ArrayTree) (ps qs : List (Piece O)) (p : Piece O) (n : ℕ) → qs ≡ ps ++ p ∷ [] → n ≡ length ps
      → ((w : ℕ) (d : Piece O) → w < n → (get_or ps w d).tree ≡ tree w) → p.tree ≡ tree n
      → (w : ℕ) (d : Piece O) → w < n + 1 → (get_or qs w d).tree ≡ tree w
  tree_push tree ps qs p n is len others own w d h =
      ap (λ (l : List (Piece O)). (get_or l w d).tree) is
      ∙ dite (ℕ_discrete w n)
      (λ (same : w ≡ n). ap (λ (k : ℕ). (get_or (ps ++ p ∷ []) k d).tree) (same ∙ len) ∙ ap (λ (q : Piece O). q.tree) (get_or-append_seam ps p [] d)
      ∙ own ∙ ap tree (sym same))
      (λ (ne : w ≢ n). let less : w < n = omega arith in
      ap (λ (q : Piece O). q.tree) (get_or_append_left ps (p ∷ []) d w (omega (arith, less, len))) ∙ others w d less)

  -- pieces that are ready can be worked on
  pub can_run : (typed : KindTree) (rows : List Row) (cost : ℕ) (fits : List Row → Type 0) (ps : List (Piece O))
      → fits rows → cost ≤ SUPPLY → All (λ p. IsReady typed rows cost p) ps → All (λ p. CanRun fits typed p) ps
  can_run typed rows cost fits ps fit small ready k d h =
      let r = ready k d h in
      record {
        lawful = r.chunk.lawful;
        fit = subst fits (sym r.chunk.rows) fit;
        small = subst (λ (n : ℕ). n ≤ SUPPLY) (sym r.chunk.cost) small;
        units = r.units;
      }

  -- and can be released
  pub unspent : (typed : KindTree) (rows : List Row) (cost : ℕ) (ps : List (Piece O))
      → All (λ p. IsReady typed rows cost p) ps → All (λ p. IsUnspent cost p) ps
  unspent typed rows cost ps ready k d h = let r = ready k d h in (r.chunk.cost, (r.units, (r.blocks, r.nodes)))

  pub an_item : (ps : List (Piece O)) → 0 < length ps → Piece O
  an_item [] h = absurd (omega arith)
  an_item (p ∷ ps) h = p
