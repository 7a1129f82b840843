use Rattle.std.proofs.Common.{◌∙◌, sym}
use Rattle.std.proofs.lemmas.Result.{on_ok_weaker}
use Rattle.data_types.specs.promise.Value.{Bytes}
use Rattle.field_codec.specs.declared.form.FieldForm.TheVariants as field_form
use Rattle.csv_read.proofs.FieldPush.{mark-added, spelled-added, spelled-taken, text-reads}
use Rattle.csv_read.proofs.field_push.push_known.Goals as goal

pub add_null-requires : goal.add_null-requires
add_null-requires c =
    let room = c.requires.fits in
    record { holds = (room.kind, room.values, room.holds, room.few) }

pub add_bytes-requires : goal.add_bytes-requires
add_bytes-requires c = record {
  takes = spelled-taken c.args.mark.now field_form.Text c.args.text.now c.args.builder.now (sym c.is_mark.ensures ∙ c.if-is_mark.false) tt c.requires.fits
      (Bytes c.args.text.now) (text-reads c.args.text.now c.requires.text);
}

pub returns-then-is_mark : goal.returns-then-is_mark
returns-then-is_mark c = on_ok_weaker c.add_null.result
    (mark-added c.args.mark.now field_form.Text c.args.text.now c.args.builder.now c.add_null.new.self (sym c.is_mark.ensures ∙ c.if-is_mark.true))
    c.add_null.ensures.added

pub returns : goal.returns
returns c = on_ok_weaker c.add_bytes.result
    (λ adds. spelled-added c.args.mark.now field_form.Text c.args.text.now c.args.builder.now c.add_bytes.new.self (sym c.is_mark.ensures ∙ c.if-is_mark.false)
    tt c.requires.fits (Bytes c.args.text.now, text-reads c.args.text.now c.requires.text, adds))
    c.add_bytes.ensures.added
