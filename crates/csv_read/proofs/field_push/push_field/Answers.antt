use Rattle.std.proofs.Common.{◌∙◌, length, sym}
use Rattle.csv.proofs.ReadFacts.{on-ok}
use Rattle.csv_read.proofs.FieldPush.{mark-added, spelled-added, spelled-none, spelled-taken}
use Rattle.csv_read.proofs.StoredForms.{room-form}
use Rattle.csv_read.proofs.field_push.push_field.Goals as goal

pub add_null-requires : goal.add_null-requires
add_null-requires c =
    let room = c.requires.fits in
    record { holds = (room.kind, room.values, room.holds, room.few) }

pub push_spelled-requires-clause-reads : goal.push_spelled-requires-clause-reads
push_spelled-requires-clause-reads c = room-form c.args.form.now c.args.builder.now (length c.args.text.now) c.requires.fits

pub push_spelled-requires-clause-takes : goal.push_spelled-requires-clause-takes
push_spelled-requires-clause-takes c =
    spelled-taken c.args.mark.now c.args.form.now c.args.text.now c.args.builder.now (sym c.is_mark.ensures ∙ c.if-is_mark.false) c.requires.proper c.requires.fits

pub returns-then-is_mark-clause-added : goal.returns-then-is_mark-clause-added
returns-then-is_mark-clause-added c found =
    mark-added c.args.mark.now c.args.form.now c.args.text.now c.args.builder.now c.add_null.new.self (sym c.is_mark.ensures ∙ c.if-is_mark.true)
    (on-ok c.add_null.result (c.outcome.ensures.added found) c.add_null.ensures.added)

pub returns-clause-added : goal.returns-clause-added
returns-clause-added c found =
    spelled-added c.args.mark.now c.args.form.now c.args.text.now c.args.builder.now c.push_spelled.new.builder (sym c.is_mark.ensures ∙ c.if-is_mark.false)
    c.requires.proper c.requires.fits
    (c.push_spelled.ensures.added found)

pub returns-clause-none : goal.returns-clause-none
returns-clause-none c found =
    spelled-none c.args.mark.now c.args.form.now c.args.text.now (sym c.is_mark.ensures ∙ c.if-is_mark.false) (c.push_spelled.ensures.none found)
