use Rattle.std.proofs.Common.{◌≡◌, ◌∙◌, true, sym, ap, subst, List, ◌∷◌}
use Rattle.std.specs.Prelude.{All}
use Rattle.std.proofs.lemmas.Bool.{true≢false}
use Rattle.csv.specs.Records.{fields_of}
use Rattle.csv_model.specs.promise.Reading.{Record}
use Rattle.csv_read.specs.RecordReader.{records_left}
use Rattle.csv_read.specs.Texts.{AreTexts}
use Rattle.csv_read.proofs.TextRecords.{both-parts}
use Rattle.csv_read.proofs.records.Records.next.Goals as goal
use Rattle.csv_read.proofs.records.Records.next.Goals.{in-Ok-true, in_default, in_default-2}

pub invariant_of-self-inside : goal.invariant_of-self-inside
invariant_of-self-inside g c = (
  λ text goes.
      elim c.match-matches.branch [
        | in-Ok-true w ↦
            let old = (c.self.inside.all_texts text c.if-self.false).1 in
            let read = rw w.in-Ok-true.field-0-test at w.in-Ok-true.is in
            let more = ap (λ r. records_left g.R.Read.remaining r) (sym c.deref_mut.ensures.value) ∙ c.next_record-found.ensures.more read in
            both-parts _ _ (subst (λ (rs : List Record). All AreTexts rs) more old)
        | in_default w ↦ absurd (true≢false (rw w.matches-is at goes))
        | in_default-2 w ↦ absurd (true≢false (rw w.matches-is at goes))
      ],
  tt,
)
