use Rattle.std.proofs.Common.{◌∙◌, length, ap, sym, subst}
use Rattle.std.specs.Prelude.{IfSome}
use Rattle.std.proofs.lemmas.Result.{on_ok_weaker}
use Rattle.tree_model.specs.promise.TreeParts.{children_of}
use Rattle.arr_import.specs.Cols.{window_of}
use Rattle.csv_write.specs.CsvTexts.{IsFormOf}
use Rattle.csv_write.specs.Readings.{ReadsChildren}
use Rattle.csv_write.proofs.ChunkTexts.{kids-long, zip-long}
use Rattle.csv_write.proofs.csv_text.CsvText.add.Goals as goal

pub plain_readings-requires-clause-count : goal.plain_readings-requires-clause-count
plain_readings-requires-clause-count c =
    let (mark, columns, written, h, is) = c.requires in
    ap length c.deref.ensures.value
    ∙ zip-long (λ form column. IsFormOf form column.kind) c.args.self.now.forms.items columns h.forms
    ∙ sym (kids-long columns)
    ∙ ap (λ t. length (children_of t)) (sym is)

pub add_read-requires : goal.add_read-requires
add_read-requires c =
    let (mark, columns, written, h, is) = c.requires in
    let w = window_of c.args.chunk in
    let read = subst (λ found. IfSome found (λ v. ReadsChildren v.items c.deref.result.now w)) c.in-Some.is c.in_ok-readings.ensures in
    let own = subst (λ fs. ReadsChildren c.in-Some.readings.items fs w) c.deref.ensures.value read in
    (mark, columns, written, h, subst (λ rs. ReadsChildren rs c.args.self.now.forms.items w) (sym c.deref-in-Some.ensures.value) own)

pub returns-in-Some : goal.returns-in-Some
returns-in-Some c = on_ok_weaker c.add_read.result (λ added mark columns written h is. added mark columns written h) c.add_read.ensures

pub returns-in-None : goal.returns-in-None
returns-in-None c = on_ok_weaker c.add_any.result (λ added mark columns written h is. added mark columns written h) c.add_any.ensures
