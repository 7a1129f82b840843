-- What a read of a source and a write to a sink do to the bytes that they state and to their counts of faults.
use Rattle.std.specs.Prelude.{◌≡◌, ◌≤◌, ◌+◌, ◌-◌, ◌^◌, ℕ, List, Option, ⊤, min, take, length}
use Rattle.std.specs.Io.KnownBytes.{Appends, Consumes, IsAtEnd, Keeps}
use Rattle.edge_io.specs.declared.edge.Got.{Got}
use Rattle.edge_io.specs.declared.edge.Got.TheVariants as got
use Rattle.edge_io.specs.declared.edge.Took.{Took}
use Rattle.edge_io.specs.declared.edge.Took.TheVariants as took

-- a count of faults went up, or is at its type's end
abbrev pub Rose : ℕ → ℕ → Type 0
Rose before now = min (before + 1) (2 ^ 64 - 1) ≤ now

-- a read gives from one byte up to as many as there is room for
abbrev pub GivesWithin : Got → ℕ → Type 0
GivesWithin (got.Bytes n) room = (1 ≤ n) × (n ≤ room)
GivesWithin got.End room = ⊤
GivesWithin got.Failed room = ⊤

-- the bytes that a read gave are the first ones left, it ends where none is left, and a failure leaves them
abbrev pub GivesFirst : Option (List ℕ) → Option (List ℕ) → Got → List ℕ → Type 0
GivesFirst old new (got.Bytes n) room = Consumes old new (take n room)
GivesFirst old new got.End room = IsAtEnd new × Keeps old new
GivesFirst old new got.Failed room = Keeps old new

-- a read fails exactly where the source's faults rose
abbrev pub ReadFailsFor : ℕ → ℕ → Got → Type 0
ReadFailsFor before now (got.Bytes n) = now ≡ before
ReadFailsFor before now got.End = now ≡ before
ReadFailsFor before now got.Failed = Rose before now

-- a write takes from one byte up to all of them
abbrev pub TakesWithin : Took → ℕ → Type 0
TakesWithin (took.Bytes n) len = (1 ≤ n) × (n ≤ len)
TakesWithin took.Failed len = ⊤

-- the first bytes are appended, and a failure appends none
abbrev pub TakesFirst : Option (List ℕ) → Option (List ℕ) → Took → List ℕ → Type 0
TakesFirst old new (took.Bytes n) piece = Appends old new (take n piece)
TakesFirst old new took.Failed piece = Keeps old new

-- a write fails exactly where the sink's faults rose
abbrev pub WriteFailsFor : ℕ → ℕ → Took → Type 0
WriteFailsFor before now (took.Bytes n) = now ≡ before
WriteFailsFor before now took.Failed = Rose before now

-- some bytes were read, the first of those that were left, and no more than that many
abbrev pub LosesWithin : Option (List ℕ) → Option (List ℕ) → ℕ → Type 0
LosesWithin old new most = (bytes : List ℕ) × Consumes old new bytes × (length bytes ≤ most)

-- that many bytes were read
abbrev pub LosesCount : Option (List ℕ) → Option (List ℕ) → ℕ → Type 0
LosesCount old new count = (bytes : List ℕ) × Consumes old new bytes × (length bytes ≡ count)
