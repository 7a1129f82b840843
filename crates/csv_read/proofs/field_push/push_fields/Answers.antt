use Rattle.std.proofs.Common.{◌≡◌, List, ℕ, true, arith, subst, sym}
use Rattle.std.specs.Str.{is_utf8}
use Rattle.csv.specs.Records.{fields_of}
use Rattle.field_codec.specs.declared.form.FieldForm.TheVariants.{Truths}
use Rattle.csv_read.proofs.BodyRows.{form-proper}
use Rattle.csv_read.proofs.FieldsSoFar.{all-so-far, none-so-far, one-so-far, refused-so-far, room-so-far}
use Rattle.csv_read.proofs.field_push.push_fields.Goals as goal

pub push_field-requires-clause-known : goal.push_field-requires-clause-known
push_field-requires-clause-known c known = subst (λ (text : List ℕ). is_utf8 text ≡ true) (sym c.field.ensures)
    (c.requires.texts known c.loop-j.j (omega (arith, c.requires.count, c.loop-j-test.true)))

pub push_field-requires-clause-proper : goal.push_field-requires-clause-proper
push_field-requires-clause-proper c = form-proper c.args.forms.now c.args.builders.now (fields_of c.args.row.now) c.requires.fits c.loop-j.j Truths
    c.index-builders-j.result c.loop-j-test.true

pub push_field-requires-clause-fits : goal.push_field-requires-clause-fits
push_field-requires-clause-fits c =
    room-so-far c.args.mark.now c.args.forms.now (fields_of c.args.row.now) c.args.number c.args.builders.now c.loop-j.j c.loop-j.builders Truths
    c.index-builders-j.result c.field.result.now c.requires.fits c.loop-j.invariant c.loop-j-test.true c.field.ensures

pub returns-in-Refused-clause-fault : goal.returns-in-Refused-clause-fault
returns-in-Refused-clause-fault c columns rows held =
    let told =
    refused-so-far c.args.mark.now c.args.forms.now (fields_of c.args.row.now) c.args.number c.args.builders.now c.loop-j.j c.loop-j.builders Truths
    c.field.result.now c.index-builders-j.result c.loop-j.invariant c.loop-j-test.true c.requires.count c.field.ensures
    (c.push_field.ensures.none c.in-Refused.is) columns rows held in
    rw c.refused.ensures told

pub loop-j-init : goal.loop-j-init
loop-j-init c = none-so-far c.args.mark.now c.args.forms.now (fields_of c.args.row.now) c.args.number c.args.builders.now

pub loop-j-preserved : goal.loop-j-preserved
loop-j-preserved c =
    one-so-far c.args.mark.now c.args.forms.now (fields_of c.args.row.now) c.args.number c.args.builders.now c.loop-j.j c.loop-j.builders Truths
    c.index-builders-j.result c.push_field.new.builder c.field.result.now c.loop-j.invariant c.loop-j-test.true c.requires.count c.field.ensures
    (c.push_field.ensures.added c.in-Added.is)

pub returns-clause-added : goal.returns-clause-added
returns-clause-added c =
    all-so-far c.args.mark.now c.args.forms.now (fields_of c.args.row.now) c.args.number c.args.builders.now c.loop-j.j c.loop-j.builders
    c.loop-j.invariant (omega arith)
