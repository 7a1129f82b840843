-- The answers that workers left, collected.
use Rattle.std.proofs.Common.{◌≡◌, ◌≢◌, ◌∙◌, ap, arith, subst, sym, ℕ, ℤ, ◌+◌, ◌-◌, ◌<◌, ◌≤◌, ◌==◌, Bool, true, false, Ok, Option, Some}
use Rattle.std.proofs.Common.{All, List, [], ◌∷◌, ◌++◌, length, get_or, set, length-set, length-append, get_or-set_same}
use Rattle.std.proofs.lemmas.List.{get_or-set_other, get_or_append_left, get_or_default}
use Rattle.std.proofs.Math.Seq.{get_or-append_seam}
use Rattle.std.proofs.lemmas.Bool.{eq-eqb, ne_eqb}
use Rattle.std.specs.List.{AllWithin}
use Rattle.std.specs.Prelude.{if◌then◌else◌, IfSome, IfOk, Result}
use mathlib.Core.Logic.{dite}
use native.Mathlib.Decide.{ℕ_discrete}
use Rattle.unit_pass.specs.declared.NoMemory.{NoMemory}
use Rattle.data_types.specs.promise.Table.{Row}
use Rattle.tree_model.specs.promise.TreeData.{Released}
use Rattle.raw_array.specs.promise.Members.{ArrayTree, Cost}
use Rattle.data_types.specs.promise.KindTrees.{KindTree}
use Rattle.layout_rules.specs.promise.Values.{rows_of}
use Rattle.fan_out.specs.declared.piece.Piece.{Piece}
use Rattle.fan_out.specs.Pieces.{GivesPiece, GivesPieces, ReadsPieces}
use Rattle.fan_out.specs.Workers.{IsReady, IsUnspent, IsDone, IsReleased, SameTrees, Collected}
use Rattle.fan_out.proofs.Ready.{an_item}

pub not_last : (w n : ℕ) → w < n - 1 → (w + 1 == n) ≡ false
not_last w n h = ne_eqb (w + 1) n (λ e. omega arith)

is_last : (n : ℕ) → 1 ≤ n → (n - 1 + 1 == n) ≡ true
is_last n some = eq-eqb (n - 1 + 1) n (omega arith)

module _ {O : Type 0} where
  -- an answer is taken out of piece i
  pub same_set : (ps qs : List (Piece O)) (i : ℕ) (x y : Piece O)
      → SameTrees ps qs → i < length qs → y.tree ≡ (get_or qs i x).tree → y.pass ≡ (get_or qs i x).pass → SameTrees ps (set qs i y)
  same_set ps qs i x y s inside tree pass = (length-set qs i y ∙ s.0, each)
    where
      here : (d : Piece O) → get_or qs i x ≡ get_or qs i d
      here d = get_or_default qs i x d inside

      each : (w : ℕ) (d : Piece O) → w < length ps
          → ((get_or (set qs i y) w d).tree ≡ (get_or ps w d).tree) × ((get_or (set qs i y) w d).pass ≡ (get_or ps w d).pass)
      each w d h = dite (ℕ_discrete w i)
          (λ (e : w ≡ i). let new : get_or (set qs i y) w d ≡ y = ap (λ (k : ℕ). get_or (set qs i y) k d) e ∙ get_or-set_same qs i y d inside in
          let old : get_or qs i x ≡ get_or qs w d = here d ∙ ap (λ (k : ℕ). get_or qs k d) (sym e) in (
            ap (λ (p : Piece O). p.tree) new ∙ tree ∙ ap (λ (p : Piece O). p.tree) old ∙ (s.1 w d h).0,
            ap (λ (p : Piece O). p.pass) new ∙ pass ∙ ap (λ (p : Piece O). p.pass) old ∙ (s.1 w d h).1,
          ))
          (λ (ne : w ≢ i). let new : get_or (set qs i y) w d ≡ get_or qs w d = get_or-set_other qs i w y d ne in
          (ap (λ (p : Piece O). p.tree) new ∙ (s.1 w d h).0, ap (λ (p : Piece O). p.pass) new ∙ (s.1 w d h).1))

  -- the answer of piece n is added
  pub collected_more : (n : ℕ) (ps : List (Piece O)) (outs more : List O) (out : O)
      → Collected n ps outs → more ≡ outs ++ out ∷ [] → ((d : Piece O) → (get_or ps n d).answer ≡ Some (Ok out)) → Collected (n + 1) ps more
  collected_more n ps outs more out c is new = subst (Collected (n + 1) ps) (sym is) (length-append outs (out ∷ []) ∙ ap (λ (k : ℕ). k + 1) c.0, each)
    where
      each : (w : ℕ) (d : Piece O) (e : O) → w < n + 1 → (get_or ps w d).answer ≡ Some (Ok (get_or (outs ++ out ∷ []) w e))
      each w d e h = dite (ℕ_discrete w n)
          (λ (same : w ≡ n). let at = ap (λ (k : ℕ). get_or (outs ++ out ∷ []) k e) (same ∙ sym c.0) in
          let here = at ∙ get_or-append_seam outs out [] e in
          ap (λ (k : ℕ). (get_or ps k d).answer) same ∙ new d ∙ ap (λ (o : O). Some (Ok o)) (sym here))
          (λ (ne : w ≢ n). let less : w < n = omega arith in let inside : w < length outs = let l = c.0 in omega arith in
          c.1 w d e less ∙ ap (λ (o : O). Some (Ok o)) (sym (get_or_append_left outs (out ∷ []) e w inside)))

  -- the answer on piece n is added
  pub given_more : (P : ℕ → O → Type 0) (n : ℕ) (outs more : List O) (out : O)
      → (length outs ≡ n) × ((w : ℕ) (e : O) → w < n → P w (get_or outs w e)) → more ≡ outs ++ out ∷ [] → P n out
      → (length more ≡ n + 1) × ((w : ℕ) (e : O) → w < n + 1 → P w (get_or more w e))
  given_more P n outs more out before is new =
      subst (λ (os : List O). (length os ≡ n + 1) × ((w : ℕ) (e : O) → w < n + 1 → P w (get_or os w e))) (sym is)
      (length-append outs (out ∷ []) ∙ ap (λ (k : ℕ). k + 1) before.0, each)
    where
      each : (w : ℕ) (e : O) → w < n + 1 → P w (get_or (outs ++ out ∷ []) w e)
      each w e h = dite (ℕ_discrete w n)
          (λ (same : w ≡ n). let at = ap (λ (k : ℕ). get_or (outs ++ out ∷ []) k e) (same ∙ sym before.0) ∙ get_or-append_seam outs out [] e in
          subst (λ (k : ℕ). P k (get_or (outs ++ out ∷ []) w e)) (sym same) (subst (λ (o : O). P n o) (sym at) new))
          (λ (ne : w ≢ n). let less : w < n = omega arith in let inside : w < length outs = let l = before.0 in omega arith in
          subst (λ (o : O). P w o) (sym (get_or_append_left outs (out ∷ []) e w inside)) (before.1 w e less))

  answered : (P : O → Type 0) (a : Option (Result O NoMemory)) (out : O) → IfSome a (λ r. IfOk r P) → a ≡ Some (Ok out) → P out
  answered P a out p e = subst (λ (x : Option (Result O NoMemory)). IfSome x (λ (r : Result O NoMemory). IfOk r P)) e p

  module _ (gives : List Row → ℤ → ℤ → O → Type 0) (reads : ArrayTree → ℤ → ℤ → O → Type 0) (typed : KindTree) (ps qs : List (Piece O))
      (done : (w : ℕ) (d : Piece O) → w < length ps → IsDone gives reads typed (length ps) w (get_or ps w d) (get_or qs w d)) where
    -- where all have answered, the answers are those on the pieces of the rows
    pub gathered : (rows : List Row) (cost : ℕ) → All (λ p. IsReady typed rows cost p) ps
        → (n : ℕ) → n ≡ length ps → (outs : List O) → Collected n qs outs → GivesPieces (gives rows) (length rows) (length ps) outs
    gathered rows cost ready n is outs c = (c.0 ∙ is, each)
      where
        each : (w : ℕ) (e : O) → w < length ps → GivesPiece (gives rows) (length rows) (length ps) w (get_or outs w e)
        each w e h =
            let d : Piece O = an_item ps (omega arith) in
            let r = done w d h in
            let rs : List Row = rows_of typed (get_or ps w d).tree in
            let P : O → Type 0 = GivesPiece (gives rs) (length rs) (length ps) w in
            let told = answered P (get_or qs w d).answer (get_or outs w e) r.answer (c.1 w d e (omega (arith, is))) in
            subst (λ (rs : List Row). GivesPiece (gives rs) (length rs) (length ps) w (get_or outs w e)) (ready w d h).chunk.rows told

    -- and each was read from its piece's tree
    pub read_all : (rows : List Row) (cost : ℕ) → All (λ p. IsReady typed rows cost p) ps
        → (n : ℕ) → n ≡ length ps → (outs : List O) → Collected n qs outs → (d : Piece O)
        → ReadsPieces reads (λ w. (get_or ps w d).tree) (length rows) (length ps) outs
    read_all rows cost ready n is outs c d w e h =
        let tree : ArrayTree = (get_or ps w d).tree in
        let P : O → Type 0 = GivesPiece (reads tree) (length (rows_of typed tree)) (length ps) w in
        let told = answered P (get_or qs w d).answer (get_or outs w e) (done w d h).read (c.1 w d e (omega (arith, is))) in
        subst (λ (rs : List Row). GivesPiece (reads tree) (length rs) (length ps) w (get_or outs w e)) (ready w d h).chunk.rows told

    module _ (rs : List (Piece O)) (cost : ℕ) (len : length qs ≡ length ps) (kept : SameTrees qs rs) (unspent : All (λ p. IsUnspent cost p) ps) where
      -- all but the last have released their shares
      pub others_done : AllWithin (IsReleased cost) rs 0 (length ps - 1)
      others_done w d _ h =
          let inside : w < length ps = omega arith in
          let before = unspent w d inside in
          let r = done w d inside in
          let same = kept.1 w d (omega (arith, len, inside)) in
          let other = not_last w (length ps) h in
          record {
            tree = same.0 ∙ r.tree ∙ ap (λ (b : Bool). if b then (get_or ps w d).tree else Released) other;
            units = ap (λ p. p.units) same.1 ∙ r.units ∙ ap (λ (b : Bool). if b then 0 else Cost (get_or ps w d).tree) other ∙ before.0;
            blocks = ap (λ p. p.blocks) same.1 ∙ r.blocks ∙ before.1.1.0;
            nodes = ap (λ p. p.nodes) same.1 ∙ r.nodes ∙ before.1.1.1;
          }

      -- and the last has the chunk
      pub last_done : 1 ≤ length ps → (d : Piece O)
          → ((get_or rs (length ps - 1) d).tree ≡ (get_or ps (length ps - 1) d).tree)
          × (((get_or rs (length ps - 1) d).pass.units ≡ 0) × ((get_or rs (length ps - 1) d).pass.blocks ≡ 0) × ((get_or rs (length ps - 1) d).pass.nodes ≡ 0))
      last_done some d =
          let w : ℕ = length ps - 1 in
          let inside : w < length ps = omega arith in
          let before = unspent w d inside in
          let r = done w d inside in
          let same = kept.1 w d (omega (arith, len, inside)) in
          let last = is_last (length ps) some in (
            same.0 ∙ r.tree ∙ ap (λ (b : Bool). if b then (get_or ps w d).tree else Released) last,
            (
              ap (λ p. p.units) same.1 ∙ r.units ∙ ap (λ (b : Bool). if b then 0 else Cost (get_or ps w d).tree) last,
              ap (λ p. p.blocks) same.1 ∙ r.blocks ∙ before.1.1.0,
              ap (λ p. p.nodes) same.1 ∙ r.nodes ∙ before.1.1.1,
            ),
          )
