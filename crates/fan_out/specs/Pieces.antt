-- The answers of a job on the pieces of a chunk.
use Rattle.std.specs.Prelude.{◌<◌, slice_index_or, ◌≡◌, ℕ, ℤ, pos, ◌+◌, ◌/◌, ◌==◌, if◌then◌else◌, min, max, List, length}
use Rattle.data_types.specs.promise.Table.{Row}
use Rattle.raw_array.specs.promise.Members.{ArrayTree, Cost}
use Rattle.raw_array.specs.Members.{LoweredBy, ShareOf}
use Rattle.data_types.specs.promise.KindTrees.{KindTree}
use Rattle.layout_rules.specs.promise.Values.{rows_of}
use Rattle.layout_rules.specs.promise.Walk.{ChunkOk}
use Rattle.array_laws.specs.Pieces.{border}

-- an answer that a job may give (from, to, answer) on piece w of this many rows, cut for this many workers
abbrev pub GivesPiece : {O : Type 0} → (ℤ → ℤ → O → Type 0) → ℕ → ℕ → ℕ → O → Type 0
GivesPiece gives rows workers w out = gives (pos (border rows workers w)) (pos (border rows workers (w + 1))) out

-- the answers of a job on the first n of the pieces, in order
abbrev pub GivesFirst : {O : Type 0} → (ℤ → ℤ → O → Type 0) → ℕ → ℕ → ℕ → List O → Type 0
GivesFirst {O} gives rows workers n outs = (length outs ≡ n) × ((w : ℕ) (e : O) → w < n → GivesPiece gives rows workers w (slice_index_or outs w e))

-- the answers of a job on the pieces, one for each worker, in order
abbrev pub GivesPieces : {O : Type 0} → (ℤ → ℤ → O → Type 0) → ℕ → ℕ → List O → Type 0
GivesPieces gives rows workers outs = GivesFirst gives rows workers workers outs

-- the tree that worker w of this many reads of a chunk: the last one the chunk itself, which the shares left, and each other a
-- share of its own, made behind those of the workers before it
abbrev pub lent : ArrayTree → ℕ → ℕ → ArrayTree
lent chunk workers w = if w + 1 == workers then LoweredBy w chunk else ShareOf (LoweredBy w chunk)

-- answers, each of which was read from the tree of its worker, on its piece of this many rows
abbrev pub ReadsPieces : {O : Type 0} → (ArrayTree → ℤ → ℤ → O → Type 0) → (ℕ → ArrayTree) → ℕ → ℕ → List O → Type 0
ReadsPieces {O} reads tree rows workers outs = (w : ℕ) (e : O) → w < workers → GivesPiece (reads (tree w)) rows workers w (slice_index_or outs w e)

-- a chunk of these rows, whose release gives back this many units
pub record IsChunk (typed : KindTree) (table : List Row) (units : ℕ) (t : ArrayTree) : Type 0 where
  pub lawful : ChunkOk typed t
  pub rows : rows_of typed t ≡ table
  pub cost : Cost t ≡ units

-- the least number of rows of a piece, where there are several
abbrev pub least_rows : ℕ
least_rows = 16384

-- in how many pieces this many rows are cut: as many as there are workers, but one alone rather than one of fewer rows than the
-- least
abbrev pub piece_count : ℕ → ℕ → ℕ
piece_count rows workers = min workers (max 1 (rows / least_rows))
