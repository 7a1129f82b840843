use Rattle.std.proofs.Common.{◌≡◌, ◌≢◌, OnOk, Bool, pos, to_z, w64, sym, ap, subst, arith}
use Rattle.std.proofs.lemmas.Int.{ints}
use Rattle.arr_import.specs.Cols.{window_of}
use Rattle.arr_import.specs.Window.{item_at}
use Rattle.col_build.specs.Holding.{Adds}
use Rattle.data_types.specs.promise.Value.{Value, Truth}
use Rattle.layout_rules.specs.promise.Layout.{natural}
use Rattle.column_fill.proofs.ItemsMoved.{no-truth}
use Rattle.column_fill.proofs.item.push_truth.Goals as goal

pub returns-in-None : goal.returns-in-None
returns-in-None c =
    let w = window_of c.args.items.now in
    let at : to_z w64 c.args.i ≡ pos c.args.i = omega (arith, ints, c.requires.near) in
    let none = subst (λ n. (truth : Bool) → item_at w n ≢ Truth truth) (ap natural at) c.in-None.ensures.none in
    subst (λ (v : Value). OnOk c.add_null.result (Adds v c.args.builder.now c.add_null.new.self))
    (sym (no-truth c.args.builder.now (item_at w c.args.i) c.requires.takes none)) c.add_null.ensures.added
