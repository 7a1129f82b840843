use Rattle.std.proofs.Common.{◌≡◌, List, ℕ, length, get_or, true, arith, subst, sym}
use Rattle.std.specs.Str.{is_utf8}
use Rattle.csv.specs.Records.{fields_of}
use Rattle.csv_read.specs.BodyRows.{AddsField, HasRoom}
use Rattle.field_codec.specs.declared.form.FieldForm.{FieldForm}
use Rattle.field_codec.specs.declared.form.FieldForm.TheVariants.{Truths}
use Rattle.csv_read.proofs.FieldsSoFar.{all-so-far, none-so-far, one-so-far, room-so-far, text-form}
use Rattle.csv_read.proofs.field_push.push_texts.Goals as goal

pub push_known-requires-clause-text : goal.push_known-requires-clause-text
push_known-requires-clause-text c = subst (λ (text : List ℕ). is_utf8 text ≡ true) (sym c.field.ensures)
    (c.requires.texts c.loop-j.j (omega (arith, c.requires.count, c.loop-j-test.true)))

pub push_known-requires-clause-fits : goal.push_known-requires-clause-fits
push_known-requires-clause-fits c =
    let form = text-form c.args.forms.now c.loop-j.j Truths c.requires.only c.loop-j-test.true in
    subst (λ (f : FieldForm). HasRoom f (get_or c.loop-j.builders c.loop-j.j c.index-builders-j.result) (length c.field.result.now)) form
    (room-so-far c.args.mark.now c.args.forms.now (fields_of c.args.row.now) 0 c.args.builders.now c.loop-j.j c.loop-j.builders Truths
    c.index-builders-j.result c.field.result.now c.requires.fits (c.loop-j.invariant 0) c.loop-j-test.true c.field.ensures)

pub loop-j-init : goal.loop-j-init
loop-j-init c = λ number. none-so-far c.args.mark.now c.args.forms.now (fields_of c.args.row.now) number c.args.builders.now

pub loop-j-preserved : goal.loop-j-preserved
loop-j-preserved c = λ number.
    let form = text-form c.args.forms.now c.loop-j.j Truths c.requires.only c.loop-j-test.true in
    let adds =
    subst (λ (f : FieldForm). AddsField c.args.mark.now f c.field.result.now (get_or c.loop-j.builders c.loop-j.j c.index-builders-j.result)
    c.push_known.new.builder) (sym form) c.in_ok-push_known.ensures in
    one-so-far c.args.mark.now c.args.forms.now (fields_of c.args.row.now) number c.args.builders.now c.loop-j.j c.loop-j.builders Truths
    c.index-builders-j.result c.push_known.new.builder c.field.result.now (c.loop-j.invariant number) c.loop-j-test.true c.requires.count
    c.field.ensures adds

pub returns-clause-added : goal.returns-clause-added
returns-clause-added c = λ number.
    all-so-far c.args.mark.now c.args.forms.now (fields_of c.args.row.now) number c.args.builders.now c.loop-j.j c.loop-j.builders
    (c.loop-j.invariant number) (omega arith)
