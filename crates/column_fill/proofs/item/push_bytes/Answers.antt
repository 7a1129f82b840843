use Rattle.std.proofs.Common.{◌≡◌, ◌≢◌, ◌∙◌, OnOk, ℕ, List, pos, to_z, w64, sym, ap, subst, arith}
use Rattle.std.proofs.lemmas.Int.{ints}
use Rattle.arr_import.specs.Cols.{window_of}
use Rattle.arr_import.specs.Window.{item_at}
use Rattle.col_build.specs.Holding.{Adds}
use Rattle.data_types.specs.promise.Value.{Value, Bytes}
use Rattle.data_types.specs.declared.storage.Storage.TheVariants.{Between}
use Rattle.layout_rules.specs.promise.Layout.{natural}
use Rattle.column_fill.specs.Takes.{Takes}
use Rattle.column_fill.proofs.ItemsMoved.{no-bytes, taken}
use Rattle.column_fill.proofs.item.push_bytes.Goals as goal

pub add_bytes-requires : goal.add_bytes-requires
add_bytes-requires c =
    let held = c.requires.takes in
    let storage = Between held.0 held.1 in
    let w = window_of c.args.items.now in
    let at : to_z w64 c.args.i ≡ pos c.args.i = omega (arith, ints, c.requires.near) in
    let is : item_at w c.args.i ≡ Bytes c.in-Some.bytes.now = ap (λ n. item_at w (natural n)) (sym at) ∙ c.in-Some.ensures.some in
    record { takes = taken c.args.builder.now storage (Bytes c.in-Some.bytes.now) (subst (Takes c.args.builder.now storage) is held.2) }

pub add_null-requires : goal.add_null-requires
add_null-requires c =
    let held = c.requires.takes.2 in
    record { holds = (held.kind, held.values, held.holds, held.few) }

pub returns-in-Some : goal.returns-in-Some
returns-in-Some c =
    let w = window_of c.args.items.now in
    let at : to_z w64 c.args.i ≡ pos c.args.i = omega (arith, ints, c.requires.near) in
    let is : item_at w c.args.i ≡ Bytes c.in-Some.bytes.now = ap (λ n. item_at w (natural n)) (sym at) ∙ c.in-Some.ensures.some in
    subst (λ (v : Value). OnOk c.add_bytes.result (Adds v c.args.builder.now c.add_bytes.new.self)) (sym is) c.add_bytes.ensures.added

pub returns-in-None : goal.returns-in-None
returns-in-None c =
    let held = c.requires.takes in
    let w = window_of c.args.items.now in
    let at : to_z w64 c.args.i ≡ pos c.args.i = omega (arith, ints, c.requires.near) in
    let none = subst (λ n. (bytes : List ℕ) → item_at w n ≢ Bytes bytes) (ap natural at) c.in-None.ensures.none in
    subst (λ (v : Value). OnOk c.add_null.result (Adds v c.args.builder.now c.add_null.new.self))
    (sym (no-bytes c.args.builder.now held.0 held.1 (item_at w c.args.i) held.2 none)) c.add_null.ensures.added
