-- Sources and sinks in memory: which of their calls fail, and what the others give and take.
use Rattle.std.specs.Prelude.{◌≡◌, ◌+◌, ◌-◌, ◌^◌, ◌==◌, ℕ, zero, suc, Bool, true, false, List, drop, length, min, replicate}
use Rattle.std.specs.List.{list_any}
use Rattle.edge_io.specs.declared.edge.Got.{Got}
use Rattle.edge_io.specs.declared.edge.Got.TheVariants as got
use Rattle.edge_io.specs.declared.edge.Took.{Took}
use Rattle.edge_io.specs.declared.edge.Took.TheVariants as took
use Rattle.edge_io.specs.declared.memory.MemSource.{MemSource}
use Rattle.edge_io.specs.declared.memory.MemSink.{MemSink}
use Rattle.edge_io.specs.declared.counted.CountSource.{CountSource}

-- ---- calls that fail, and answers
-- the number of the call after this many
abbrev pub next_call : ℕ → ℕ
next_call calls = min (calls + 1) (2 ^ 64 - 1)

-- the call of this number is one that fails
abbrev pub is_failing : List ℕ → ℕ → Bool
is_failing fails call = list_any (λ n. n == call) fails

-- the answer of a read that may give this many bytes
abbrev pub read_answer : Bool → ℕ → Got
read_answer true count = got.Failed
read_answer false zero = got.End
read_answer false (suc count) = got.Bytes (suc count)

-- the answer of a write that may take this many bytes
abbrev pub write_answer : Bool → ℕ → Took
write_answer true count = took.Failed
write_answer false zero = took.Failed
write_answer false (suc count) = took.Bytes (suc count)

-- ---- a source in memory
-- a source: the bytes not yet given, the most that a call gives, the calls that fail, and how many calls there were
abbrev pub bytes_left : MemSource → List ℕ
bytes_left s = drop s.at s.bytes.items

abbrev pub most_given : MemSource → ℕ
most_given s = s.step

abbrev pub failing_reads : MemSource → List ℕ
failing_reads s = s.fails.items

abbrev pub reads_made : MemSource → ℕ
reads_made s = s.calls

abbrev pub reads_failed : MemSource → ℕ
reads_failed s = s.faults

-- a call keeps the plan and counts itself
pub record ReadOnce (old new : MemSource) : Type 0 where
  pub step : most_given new ≡ most_given old
  pub fails : failing_reads new ≡ failing_reads old
  pub calls : reads_made new ≡ next_call (reads_made old)

-- ---- a sink in memory
-- a sink: the bytes taken, how many more it takes, the most that a call takes, the calls that fail, and how many there were
abbrev pub bytes_taken : MemSink → List ℕ
bytes_taken s = s.taken.items

abbrev pub room_left : MemSink → ℕ
room_left s = s.room - length s.taken.items

abbrev pub most_taken : MemSink → ℕ
most_taken s = s.step

abbrev pub failing_writes : MemSink → List ℕ
failing_writes s = s.fails.items

abbrev pub writes_made : MemSink → ℕ
writes_made s = s.calls

abbrev pub writes_failed : MemSink → ℕ
writes_failed s = s.faults

pub record WroteOnce (old new : MemSink) : Type 0 where
  pub step : most_taken new ≡ most_taken old
  pub fails : failing_writes new ≡ failing_writes old
  pub calls : writes_made new ≡ next_call (writes_made old)

-- ---- a source that counts
-- how many bytes a counting source has not yet given
abbrev pub count_left : CountSource → ℕ
count_left s = s.left

-- the byte `a`, so often
abbrev pub letters : ℕ → List ℕ
letters count = replicate count 97
