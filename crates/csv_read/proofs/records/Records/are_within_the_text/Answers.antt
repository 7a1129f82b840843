use Rattle.std.proofs.Common.{◌≤◌, length, subst}
use Rattle.csv_read.specs.RecordReader.{RecordsLeft, field_bytes}
use Rattle.csv_read.proofs.RecordReading.{InTurn}
use Rattle.csv_read.proofs.RecordSizes.{ahead-short}
use Rattle.csv_read.proofs.records.Records.are_within_the_text.Goals as goal

pub returns-clause-count : goal.returns-clause-count
returns-clause-count g c =
    let law = c.records_are_read_in_turn.ensures in
    let turn : InTurn =
    record { next = law.next; end = law.end; between = law.between; shorter = law.shorter; bytes = law.bytes; count = law.count } in
    let inside = c.self.inside in
    subst (λ (s : RecordsLeft). length s.records ≤ s.size) c.self.view_is (ahead-short turn _ inside.ended inside.reader.value c.self.invariant).count

pub returns-clause-bytes : goal.returns-clause-bytes
returns-clause-bytes g c =
    let law = c.records_are_read_in_turn.ensures in
    let turn : InTurn =
    record { next = law.next; end = law.end; between = law.between; shorter = law.shorter; bytes = law.bytes; count = law.count } in
    let inside = c.self.inside in
    subst (λ (s : RecordsLeft). field_bytes s.records ≤ s.size) c.self.view_is (ahead-short turn _ inside.ended inside.reader.value c.self.invariant).bytes
