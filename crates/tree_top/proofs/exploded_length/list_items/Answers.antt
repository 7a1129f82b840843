use Rattle.std.proofs.Common.{◌≡◌, ◌∙◌, length, pos, to_z, w64, ap, sym, arith}
use Rattle.std.proofs.lemmas.Int.{ints}
use Rattle.arr_import.specs.Cols.{window_of}
use Rattle.arr_import.specs.Window.{item_at}
use Rattle.arr_export.proofs.Each.{length-each}
use Rattle.layout_rules.specs.promise.Layout.{natural}
use Rattle.list_cols.specs.promise.Nested.{items_in}
use Rattle.list_cols.proofs.ListItems.{window-items}
use Rattle.tree_top.proofs.exploded_length.list_items.Goals as goal

pub returns-in-Items : goal.returns-in-Items
returns-in-Items c =
    let w = window_of c.args.lists.now in
    let whole : to_z w64 c.args.i ≡ pos c.args.i = omega (arith, ints, c.requires.small) in
    c.count_items.ensures.count
    ∙ sym (ap length (ap (λ n. items_in (item_at w (natural n))) (sym whole) ∙ window-items (window_of c.in-Items.items) _ c.in-Items.ensures)
    ∙ length-each _ _ _)
