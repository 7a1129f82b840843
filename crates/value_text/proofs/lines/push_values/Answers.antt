use Rattle.std.proofs.Common.{◌∙◌, ◌+◌, [], ◌∷◌, ◌++◌, ap, append_assoc, sym}
use Rattle.std.specs.List.{flat_map}
use Rattle.layout_rules.specs.promise.Values.{each, value_at}
use Rattle.arr_import.specs.Cols.{window_of}
use Rattle.data_types.specs.promise.ValueTexts.{value_line, value_text}
use Rattle.value_text.proofs.Parts.{appended, lines-more}
use Rattle.value_text.proofs.lines.push_values.Goals as goal

pub loop-i-preserved : goal.loop-i-preserved
loop-i-preserved c =
    let w = window_of c.args.col.now in
    let i = c.loop-i.i in
    let f = value_at w.typed w.array in
    let text = value_text (f (w.start + i)) in
    let line = c.in_ok-push.ensures ∙ ap (λ t. t ++ 10 ∷ []) c.in_ok-push_value.ensures ∙ append_assoc c.loop-i.text text (10 ∷ []) in
    appended c.args.text.now (flat_map value_line (each f w.start i)) c.loop-i.text c.push.new.self (value_line (f (w.start + i))) _ line
    c.loop-i.invariant (sym (lines-more f w.start i))
