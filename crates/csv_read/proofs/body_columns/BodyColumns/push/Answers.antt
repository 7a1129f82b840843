use Rattle.std.proofs.Common.{◌≡◌, ◌+◌, arith, ◌∙◌, ℕ, List, length, ap, refl, rules, subst, sym}
use Rattle.std.proofs.lemmas.Bool.Decides.{nat_tests}
use Rattle.std.specs.Vec.{with_items}
use Rattle.std.proofs.lemmas.List.{with_items_is}
use Rattle.csv.specs.Records.{fields_of}
use Rattle.col_build.specs.declared.builder.Builder.{Builder}
use Rattle.csv_read.specs.BodyRows.{AddsFields, RefusesFields}
use Rattle.field_codec.specs.declared.form.FieldForm.{FieldForm}
use Rattle.csv_read.proofs.BodyRows.{fields-refused, row-added}
use Rattle.csv_read.proofs.body_columns.BodyColumns.push.Goals as goal

pub returns-in_err-push_row-clause-fault : goal.returns-in_err-push_row-clause-fault
returns-in_err-push_row-clause-fault c =
    let made = c.args.self.now in
    let fields = fields_of c.args.row.now in
    let fault = c.in_err-push_row.field-0.0 in
    let width : length fields ≡ length made.forms.items = grind (arith, nat_tests, c.len.ensures, c.len-2.ensures, c.if-len.false) in
    let lent =
    subst (λ (forms : List FieldForm). RefusesFields fault c.as_slice-2.result.now forms fields c.args.number made.builders.items) c.as_slice.ensures.value
    (subst (λ (builders : List Builder). RefusesFields fault c.as_slice-2.result.now c.as_slice.result.now fields c.args.number builders)
    c.as_mut_slice.ensures.value c.in_err-push_row.ensures.fault) in
    let refused : RefusesFields fault made.mark made.forms.items fields c.args.number made.builders.items =
    subst (λ (mark : List ℕ). RefusesFields fault mark made.forms.items fields c.args.number made.builders.items) c.as_slice-2.ensures lent in
    let told = fields-refused made fields c.args.number fault width refused in
    search (rules, told)

pub returns-clause-added : goal.returns-clause-added
returns-clause-added c =
    let made = c.args.self.now in
    let fields = fields_of c.args.row.now in
    let width : length fields ≡ length made.forms.items = grind (arith, nat_tests, c.len.ensures, c.len-2.ensures, c.if-len.false) in
    let count : length c.push_row.new.builders ≡ length made.builders.items =
    c.in_ok-push_row.ensures.count ∙ ap (λ (bs : List Builder). length bs) c.as_mut_slice.ensures.value in
    let added : AddsFields made.mark made.forms.items fields c.args.number (length made.forms.items) made.builders.items c.push_row.new.builders =
    subst (λ (mark : List ℕ). AddsFields mark made.forms.items fields c.args.number (length made.forms.items) made.builders.items c.push_row.new.builders)
    c.as_slice-2.ensures
    (subst (λ (forms : List FieldForm). AddsFields c.as_slice-2.result.now forms fields c.args.number (length forms) made.builders.items c.push_row.new.builders)
    c.as_slice.ensures.value
    (subst (λ (builders : List Builder). AddsFields c.as_slice-2.result.now c.as_slice.result.now fields c.args.number (length c.as_slice.result.now) builders c.push_row.new.builders)
    c.as_mut_slice.ensures.value c.in_ok-push_row.ensures.added)) in
    let builders = with_items made.builders c.push_row.new.builders in
    let whole : builders.items ≡ c.push_row.new.builders = with_items_is made.builders c.push_row.new.builders (count ∙ sym made.builders.ok.0) in
    row-added made
    (record {
      forms = made.forms;
      builders = with_items made.builders c.push_row.new.builders;
      room = c.push_row.new.room;
      used = made.used;
      rows = made.rows + 1;
      only_text = made.only_text;
      mark = made.mark;
      each_used = _;
      all_text = _;
    })
    fields c.args.number width refl (ap length whole ∙ count) refl refl
    (subst (AddsFields made.mark made.forms.items fields c.args.number (length made.forms.items) made.builders.items) (sym whole) added)
