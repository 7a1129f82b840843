use Rattle.std.proofs.Common.{◌∙◌, ◌+◌, ◌<◌, ◌++◌, ap, arith, sym}
use Rattle.layout_rules.specs.promise.Values.{each, value_at}
use Rattle.arr_import.specs.Cols.{window_of}
use Rattle.value_text.specs.Behind.{item_text}
use Rattle.value_text.proofs.Parts.{appended, list-more, parts}
use Rattle.value_text.proofs.value.push_plain_list.Goals as goal

pub loop-i-preserved : goal.loop-i-preserved
loop-i-preserved c =
    let w = window_of c.args.col.now in
    let i = c.loop-i.i in
    let f = value_at w.typed w.array in
    let inside : i < w.count = omega (arith, c.count_items-i-end.ensures.count) in
    appended c.push.new.self (parts (each f w.start i)) c.loop-i.text c.push_plain_part.new.text (item_text i (f (w.start + i))) _
    (c.in_ok-push_plain_part.ensures ∙ ap (λ v. c.loop-i.text ++ item_text i v) (sym (c.requires.items.items i inside)))
    c.loop-i.invariant (sym (list-more f w.start i))
