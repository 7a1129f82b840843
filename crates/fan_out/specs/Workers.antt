-- The pieces of a chunk, before and after their workers ran.
use Rattle.std.specs.Prelude.{◌<◌, ◌≤◌, ◌≡◌, ℕ, ℤ, ◌+◌, ◌==◌, if◌then◌else◌, List, length, slice_index_or}
use Rattle.std.specs.Prelude.{Some, Ok, IfOk, IfSome, IsSome}
use Rattle.unit_pass.specs.declared.pass.TheConstants.{SUPPLY}
use Rattle.data_types.specs.promise.Table.{Row}
use Rattle.tree_model.specs.promise.TreeData.{Released}
use Rattle.raw_array.specs.promise.Members.{ArrayTree, Cost}
use Rattle.data_types.specs.promise.KindTrees.{KindTree}
use Rattle.layout_rules.specs.promise.Values.{rows_of}
use Rattle.layout_rules.specs.promise.Walk.{ChunkOk}
use Rattle.fan_out.specs.Pieces.{GivesPiece, IsChunk}
use Rattle.fan_out.specs.declared.piece.Piece.{Piece}

module _ {O : Type 0} where
  -- a piece whose worker did not run yet: a chunk of these rows, and a pass without units that counted nothing
  pub record IsReady (typed : KindTree) (rows : List Row) (cost : ℕ) (p : Piece O) : Type 0 where
    pub chunk : IsChunk typed rows cost p.tree
    pub units : p.pass.units ≡ 0
    pub blocks : p.pass.blocks ≡ 0
    pub nodes : p.pass.nodes ≡ 0

  -- what a worker asks of its piece: a chunk that the job can read, and that can be released
  pub record CanRun (fits : List Row → Type 0) (typed : KindTree) (p : Piece O) : Type 0 where
    pub lawful : ChunkOk typed p.tree
    pub fit : fits (rows_of typed p.tree)
    pub small : Cost p.tree ≤ SUPPLY
    pub units : p.pass.units ≡ 0

  -- a share, or the chunk, whose release gives back this many units, and a pass without units that counted nothing
  abbrev pub IsUnspent : ℕ → Piece O → Type 0
  IsUnspent cost p = (Cost p.tree ≡ cost) × ((p.pass.units ≡ 0) × ((p.pass.blocks ≡ 0) × (p.pass.nodes ≡ 0)))

  -- what worker w made of its piece: the last one's tree is the chunk itself, and any other was a share
  pub record IsDone (gives : List Row → ℤ → ℤ → O → Type 0) (reads : ArrayTree → ℤ → ℤ → O → Type 0) (typed : KindTree) (workers w : ℕ) (p q : Piece O)
      : Type 0 where
    pub tree : q.tree ≡ (if w + 1 == workers then p.tree else Released)
    pub units : q.pass.units ≡ (if w + 1 == workers then 0 else Cost p.tree)
    pub blocks : q.pass.blocks ≡ p.pass.blocks
    pub nodes : q.pass.nodes ≡ p.pass.nodes
    pub some : IsSome q.answer
    pub answer : IfSome q.answer (λ r. IfOk r (GivesPiece (gives (rows_of typed p.tree)) (length (rows_of typed p.tree)) workers w))
    pub read : IfSome q.answer (λ r. IfOk r (GivesPiece (reads p.tree) (length (rows_of typed p.tree)) workers w))

  -- the tree and the pass of each piece are what they were
  abbrev pub SameTrees : List (Piece O) → List (Piece O) → Type 0
  SameTrees ps qs =
      (length qs ≡ length ps)
      × ((w : ℕ) (d : Piece O) → w < length ps
      → ((slice_index_or qs w d).tree ≡ (slice_index_or ps w d).tree) × ((slice_index_or qs w d).pass ≡ (slice_index_or ps w d).pass))

  -- the answers of the first n pieces
  abbrev pub Collected : ℕ → List (Piece O) → List O → Type 0
  Collected n ps outs =
      (length outs ≡ n) × ((w : ℕ) (d : Piece O) (e : O) → w < n → (slice_index_or ps w d).answer ≡ Some (Ok (slice_index_or outs w e)))

  -- a piece whose worker released its share, so that its pass has the share's units
  pub record IsReleased (cost : ℕ) (p : Piece O) : Type 0 where
    pub tree : p.tree ≡ Released
    pub units : p.pass.units ≡ cost
    pub blocks : p.pass.blocks ≡ 0
    pub nodes : p.pass.nodes ≡ 0
