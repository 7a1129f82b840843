use Rattle.std.proofs.Common.{arith, ◌≡◌, ◌≢◌, ◌+◌, ◌∷◌, ◌∙◌, Bool, Result, Ok, true, false, ap, refl, subst, sym}
use Rattle.std.proofs.lemmas.Result.{err_from_is_err_and}
use Rattle.csv.specs.Records.{fields_of}
use Rattle.csv_model.specs.promise.Reading.{Record}
use Rattle.unit_pass.specs.declared.no_memory.NoMemory.{NoMemory}
use Rattle.csv_read.specs.BodyRows.{RefusesBatch}
use Rattle.csv_read.specs.RecordReader.{Takes}
use Rattle.csv_read.proofs.BodyRead.{first-refused, no-more, none-read, one-read, room-for}
use Rattle.csv_read.proofs.body.read_rows.Goals as goal

ok : (a b : Bool) → a ≡ b → ◌≡◌ {A = Result Bool NoMemory} (Ok a) (Ok b)
ok a b e = ap (λ (x : Bool). Ok x) e

ended : (a : Bool) → a ≡ false → ◌≢◌ {A = Result Bool NoMemory} (Ok a) (Ok true)
ended true e = λ _. absurd (cc)
ended false e = λ h. absurd (cc)

pub loop-made-init : goal.loop-made-init
loop-made-init g c = record {
  forms = refl;
  mark = refl;
  so_far = λ columns has. none-read (c.args.read + 1) c.args.batch columns c.args.made.now c.args.records.now has;
}

pub returns-then-not-branch-clause-rows : goal.returns-then-not-branch-clause-rows
returns-then-not-branch-clause-rows g c = λ columns has.
    no-more c.args.made.now.mark (c.args.read + 1) c.args.batch columns c.args.records.now c.loop-made.records c.next.new.self c.loop-made.made
    (c.loop-made.invariant.so_far columns has) (c.in_ok-next.ensures.end (ok c.in_ok-next.field-0 false c.if-not-branch.true))
    (c.in_ok-next.ensures.end_stays (ended c.in_ok-next.field-0 c.if-not-branch.true)) c.in_ok-next.ensures.size

pub push-requires-clause-fits : goal.push-requires-clause-fits
push-requires-clause-fits g c =
    let some = c.requires.none in
    let found = ok c.in_ok-next.field-0 true c.if-not-branch.false in
    room-for c.args.made.now.mark (c.args.read + 1) c.args.batch some.0 c.args.records.now c.loop-made.records c.loop-made.made
    (fields_of c.row.result.now) c.next.new.self.size
    c.requires.short (c.loop-made.invariant.so_far some.0 some.1)
    (subst (λ (f : Record). Takes c.loop-made.records.size f c.next.new.self.size) (sym c.row.ensures) (c.in_ok-next.ensures.takes found))

pub loop-made-preserved : goal.loop-made-preserved
loop-made-preserved g c =
    let found = ok c.in_ok-next.field-0 true c.if-not-branch.false in
    let next = c.in_ok-next.ensures in
    let below = c.loop-made-test.true in
    record {
      forms = c.push.ensures.forms ∙ c.loop-made.invariant.forms;
      mark = c.push.ensures.mark ∙ c.loop-made.invariant.mark;
      so_far = λ columns has.
          one-read c.args.made.now.mark (c.args.read + 1) c.args.batch columns c.args.records.now c.loop-made.records c.next.new.self
          c.loop-made.made c.push.new.self
          (fields_of c.row.result.now) (c.args.read + c.loop-made.made.rows + 1) (c.loop-made.invariant.so_far columns has) below (omega arith)
          (subst (λ (f : Record). Takes c.loop-made.records.size f c.next.new.self.size) (sym c.row.ensures) (next.takes found))
          (next.more found ∙ ap (λ (f : Record). f ∷ c.next.new.self.records) (sym c.row.ensures)) c.in_ok-push.ensures.added;
    }

pub returns-in_err-push-clause-fault : goal.returns-in_err-push-clause-fault
returns-in_err-push-clause-fault g c =
    let found = ok c.in_ok-next.field-0 true c.if-not-branch.false in
    let below = c.loop-made-test.true in
    let told : RefusesBatch c.in_err-push.field-0.0 (c.args.read + 1) c.args.batch c.args.records.now.records c.args.made.now = λ columns has.
    first-refused c.args.made.now.mark (c.args.read + 1) c.args.batch columns c.args.records.now c.loop-made.records c.loop-made.made
    (fields_of c.row.result.now)
    c.next.new.self.records (c.args.read + c.loop-made.made.rows + 1) c.in_err-push.field-0.0 (c.loop-made.invariant.so_far columns has) below (omega arith)
    (c.in_ok-next.ensures.more found ∙ ap (λ (f : Record). f ∷ c.next.new.self.records) (sym c.row.ensures))
    c.in_err-push.ensures.fault in
    let p = err_from_is_err_and c.from_residual-in_err-push.result c.from_residual-in_err-push.ensures.1 in
    rw (p.1, p.2) told
