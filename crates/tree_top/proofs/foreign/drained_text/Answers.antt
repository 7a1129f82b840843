use Rattle.std.proofs.Common.{◌∙◌, ◌↔◌, IsTrue, is_none, ap, inr, map, subst, sym, Err, Some}
use Rattle.foreign_array.specs.Drained.{Drained}
use Rattle.foreign_array.specs.Kept.{tree_in}
use Rattle.data_types.specs.promise.TypedView.{typed_of}
use Rattle.layout_rules.specs.promise.Values.{rows_of}
use Rattle.layout_rules.specs.promise.Walk.{LayoutOk, first_fault}
use Rattle.data_types.specs.promise.ValueTexts.{lines_text}
use Rattle.tree_top.specs.AnswerParts.{chunk_unless}
use Rattle.tree_top.specs.Gathered.{tables_in}
use Rattle.tree_top.specs.Refusals.{fault_of_check}
use Rattle.tree_top.specs.promise.TextOrFault.{Fault, Text}
use Rattle.tree_top.proofs.ForeignRows.{chunk-ok, chunk-values, drained-passed, drained-refused, drained-seen, live-kinds, one-gathered}
use Rattle.tree_top.proofs.foreign.drained_text.Goals as goal

pub only_text-requires : goal.only_text-requires
only_text-requires c =
    let typed = typed_of c.args.typed.now in
    let chunk = tree_in c.args.foreign in
    let one = ap (map tree_in) c.in-Ok.ensures.listed in
    let gathered = c.drain.new.visit.chunks.items in
    let none = ap tables_in c.new-gathered.ensures in
    one-gathered gathered (rows_of typed chunk)
    (drained-seen typed chunk (map tree_in c.in-Ok.chunks.items) one c.in-Ok-drain.field-0 gathered (tables_in c.new-gathered.result.chunks.items) none
    c.in-Ok-drain.ensures.drained)

pub returns-in-Ok-drain-clause-text : goal.returns-in-Ok-drain-clause-text
returns-in-Ok-drain-clause-text c =
    let typed = typed_of c.args.typed.now in
    let chunk = tree_in c.args.foreign in
    let chunks = map tree_in c.in-Ok.chunks.items in
    let one = ap (map tree_in) c.in-Ok.ensures.listed in
    let before = tables_in c.new-gathered.result.chunks.items in
    let gathered = c.drain.new.visit.chunks.items in
    let drained = c.in-Ok-drain.ensures.drained in
    let passed = drained-passed typed chunk chunks one c.in-Ok-drain.field-0 (Some before) (Some (tables_in gathered)) drained in
    let seen = drained-seen typed chunk chunks one c.in-Ok-drain.field-0 gathered before (ap tables_in c.new-gathered.ensures) drained in
    let live = live-kinds typed c.requires.kinds in
    let law = subst (λ a. IsTrue (is_none (first_fault typed a)) ↔ LayoutOk typed a) c.array.ensures.tree c.lawful_has_no_fault.ensures in
    let rows = chunk-values typed chunk live (c.chunks_are_tables.ensures.chunk typed chunk live (chunk-ok typed chunk law passed)) in
    ap Text (c.only_text.ensures (rows_of typed chunk) seen ∙ ap lines_text (sym rows)) ∙ ap (chunk_unless typed chunk) (sym passed)

pub returns-in-Err-Layout-clause-fault : goal.returns-in-Err-Layout-clause-fault
returns-in-Err-Layout-clause-fault c =
    let typed = typed_of c.args.typed.now in
    let chunk = tree_in c.args.foreign in
    let chunks = map tree_in c.in-Ok.chunks.items in
    let one = ap (map tree_in) c.in-Ok.ensures.listed in
    let before = Some (tables_in c.new-gathered.result.chunks.items) in
    let after = Some (tables_in c.drain.new.visit.chunks.items) in
    let drained = subst (λ f. Drained typed chunks (Err f) before after) c.in-Err-Layout.field-0-is c.in-Err-Layout.ensures.drained in
    let first = drained-refused typed chunk chunks one c.in-Err-Layout.field-0-0 c.in-Err-Layout.fault before after drained in
    inr (ap Fault (c.from-in-Err-Layout.ensures ∙ ap fault_of_check c.from.ensures) ∙ ap (chunk_unless typed chunk) (sym first))
