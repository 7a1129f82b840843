use Rattle.std.proofs.Common.{◌≡◌, ◌≢◌, ◌*◌, ◌∙◌, OnOk, ℤ, pos, to_z, of_z, w64, rules, sym, ap, subst, arith}
use Rattle.std.specs.Int.{w128}
use Rattle.std.proofs.lemmas.Int.{ints}
use Rattle.arr_import.specs.Cols.{window_of}
use Rattle.arr_import.specs.Window.{item_at}
use Rattle.col_build.specs.Holding.{Adds}
use Rattle.data_types.specs.promise.Value.{Value, Whole}
use Rattle.layout_rules.specs.promise.Layout.{natural}
use Rattle.column_fill.proofs.ItemsMoved.{no-whole}
use Rattle.column_fill.proofs.item.push_whole.Goals as goal

pub returns-in-Some : goal.returns-in-Some
returns-in-Some c =
    let w = window_of c.args.items.now in
    let at : to_z w64 c.args.i ≡ pos c.args.i = omega (arith, ints, c.requires.near) in
    let told : to_z w128 (of_z w128 c.in-Some.number) ≡ c.in-Some.number = search rules in
    subst (λ (v : Value). OnOk c.add_whole.result (Adds v c.args.builder.now c.add_whole.new.self))
    (ap Whole told ∙ sym c.in-Some.ensures.some ∙ ap (λ n. item_at w (natural n)) at) c.add_whole.ensures.added

pub returns-in-None : goal.returns-in-None
returns-in-None c =
    let w = window_of c.args.items.now in
    let at : to_z w64 c.args.i ≡ pos c.args.i = omega (arith, ints, c.requires.near) in
    let none = subst (λ n. (number : ℤ) → item_at w n ≢ Whole number) (ap natural at) c.in-None.ensures.none in
    subst (λ (v : Value). OnOk c.add_null.result (Adds v c.args.builder.now c.add_null.new.self))
    (sym (no-whole c.args.builder.now (8 * c.args.width) c.requires.takes.0 (item_at w c.args.i) c.requires.takes.1 none)) c.add_null.ensures.added
