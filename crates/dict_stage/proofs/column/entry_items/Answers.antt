use Rattle.std.proofs.Common.{◌∙◌, ◌++◌, ◌∷◌, [], take, refl, sym, ap, subst, arith}
use Rattle.col_build.specs.Holding.{Holds, Takes}
use Rattle.data_types.specs.promise.Storage.{storage_of}
use Rattle.data_types.specs.promise.Value.{Value}
use Rattle.data_types.specs.declared.kind.DataType.{DataType}
use Rattle.arr_import.specs.Indexing.{shown_by}
use Rattle.arr_import.specs.Window.{item_at, items_of}
use Rattle.dict_stage.specs.Texts.{IsText}
use Rattle.column_fill.proofs.ItemsMoved.{taken}
use Rattle.dict_stage.proofs.Codes.{all-taken, item-text, one-more, takes-item}
use Rattle.dict_stage.proofs.column.entry_items.Goals as goal

pub loop-i-init : goal.loop-i-init
loop-i-init c = subst (λ (k : DataType). Holds c.in_ok-builder.builder k []) c.in_ok-clone_kind.ensures.same c.in_ok-builder.ensures

pub entry_of-requires-clause-text : goal.entry_of-requires-clause-text
entry_of-requires-clause-text c = item-text c.args.kind.now (shown_by c.args.items.now) c.loop-i.i c.requires.items (omega (arith, c.requires.all, c.loop-i-test.true))

pub add_item-requires-clause-text : goal.add_item-requires-clause-text
add_item-requires-clause-text c = subst IsText (sym c.entry_of.ensures) (item-text c.args.kind.now (shown_by c.args.items.now) c.loop-i.i c.requires.items (omega (arith, c.requires.all, c.loop-i-test.true)))

pub add_item-requires-clause-takes : goal.add_item-requires-clause-takes
add_item-requires-clause-takes c =
    subst (Takes c.loop-i.builder) (sym c.entry_of.ensures)
    (taken c.loop-i.builder (storage_of c.args.kind.now) (item_at (shown_by c.args.items.now) c.loop-i.i)
    (takes-item c.args.kind.now (shown_by c.args.items.now) c.loop-i.i c.loop-i.builder (storage_of c.args.kind.now) c.requires.items (omega (arith, c.requires.all, c.loop-i-test.true)) c.loop-i.invariant refl))

pub loop-i-preserved : goal.loop-i-preserved
loop-i-preserved c =
    let w = shown_by c.args.items.now in
    subst (Holds c.add_item.new.builder c.args.kind.now)
    (ap (λ (v : Value). take c.loop-i.i (items_of w) ++ v ∷ []) c.entry_of.ensures ∙ sym (one-more w c.loop-i.i (omega (arith, c.requires.all, c.loop-i-test.true))))
    (c.in_ok-add_item.ensures c.args.kind.now _ c.loop-i.invariant)

pub returns : goal.returns
returns c =
    let w = shown_by c.args.items.now in
    subst (Holds c.loop-i.builder c.args.kind.now)
    (all-taken w c.loop-i.i (omega (arith, c.requires.all, c.loop-i-test.false, c.loop-i.auto.i-end))) c.loop-i.invariant
