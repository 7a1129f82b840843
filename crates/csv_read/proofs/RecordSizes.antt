-- The records of a text are no more than its bytes, nor are the bytes of their fields.
use Rattle.std.proofs.Common.{◌≡◌, ◌≤◌, ◌<◌, ◌+◌, ◌⊎◌, ℕ, zero, suc, Bool, true, false, List, [], length, Option, None, Some, refl, sym, subst, arith}
use Rattle.std.proofs.Common.{inl, inr}
use Rattle.csv.specs.Machine.{Read, ends_at_end, next_record}
use Rattle.csv.specs.Reading.{default_config, reader_state, records_from}
use Rattle.csv.specs.declared.parser.State.{State}
use Rattle.csv.specs.declared.reader.Reader.{Reader}
use Rattle.csv_model.specs.promise.Reading.{Record}
use Rattle.csv_read.specs.RecordReader.{IsReading, field_bytes, records_ahead, size_ahead, text_left}
use Rattle.csv_read.proofs.RecordReading.{InTurn}

cases-read : (o : Option Read) → (o ≡ None) ⊎ ((q : Read) × (o ≡ Some q))
cases-read None = inl refl
cases-read (Some q) = inr (q, refl)

pub record AreShort (records : List Record) (size : ℕ) : Type 0 where
  pub count : length records ≤ size
  pub bytes : field_bytes records ≤ size

none-short : (size : ℕ) → AreShort [] size
none-short size = record { count = omega arith; bytes = omega arith }

text-short : InTurn → (n : ℕ) (s : State) (xs : List ℕ) → ends_at_end s ≡ false → length xs < n
    → AreShort (records_from default_config (length xs + 1) s xs) (length xs)
text-short law zero s xs between below = absurd (omega (arith, below))
text-short law (suc n) s xs between below = elim (cases-read (next_record default_config s [] [] xs)) [
  | inl none ↦ subst (λ (rs : List Record). AreShort rs (length xs)) (sym (law.end s xs none)) (none-short (length xs))
  | inr (q, some) ↦
      let shorter = law.shorter s xs q between some in
      let bytes = law.bytes s xs q some in
      let rest = text-short law n q.1 q.2 (law.between s xs q some) (omega (arith, shorter, below)) in
      subst (λ (rs : List Record). AreShort rs (length xs)) (sym (law.next s xs q between some))
      (record { count = omega (arith, rest.count, shorter); bytes = omega (arith, rest.bytes, bytes) })
]

pub ahead-short : InTurn → {R : Type 0} (rem : R → Option (List ℕ)) (ended : Bool) (reader : Reader R) → (ended ≡ false → IsReading rem reader)
    → AreShort (records_ahead rem ended reader) (size_ahead rem ended reader)
ahead-short law rem true reader reading = none-short 0
ahead-short law rem false reader reading =
    text-short law (length (text_left rem reader) + 1) (reader_state reader) (text_left rem reader) (reading refl).between (omega arith)
