-- A source over a reader of the system, and a sink over a writer of it.
use Rattle.std.specs.Prelude.{ℕ, List, Option, ⊤, take}
use Rattle.std.specs.Io.KnownBytes.{Appends}
use Rattle.edge_io.specs.declared.edge.Took.{Took}
use Rattle.edge_io.specs.declared.edge.Took.TheVariants as took
use Rattle.edge_io.specs.declared.standard.StdSink.{StdSink}
use Rattle.edge_io.specs.declared.standard.StdSource.{StdSource}

-- the reader
abbrev pub reader_of : {R : Type 0} → StdSource R → R
reader_of s = s.inner

-- how often the source has failed
abbrev pub source_faults : {R : Type 0} → StdSource R → ℕ
source_faults s = s.faults

-- the writer
abbrev pub writer_of : {W : Type 0} → StdSink W → W
writer_of s = s.inner

-- how often the sink has failed
abbrev pub sink_faults : {W : Type 0} → StdSink W → ℕ
sink_faults s = s.faults

-- the writer was handed the bytes that the sink took; one that fails may have some of them
abbrev pub WritesFirst : Option (List ℕ) → Option (List ℕ) → Took → List ℕ → Type 0
WritesFirst old new (took.Bytes n) piece = Appends old new (take n piece)
WritesFirst old new took.Failed piece = ⊤
