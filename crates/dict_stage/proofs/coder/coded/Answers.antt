use Rattle.std.proofs.Common.{◌∙◌, true, [], List, map, take, refl, sym, ap, subst, arith}
use Rattle.col_build.specs.Holding.{Holds, Takes}
use Rattle.col_build.specs.Items.{value_of}
use Rattle.data_types.specs.promise.Value.{Value, Bytes}
use Rattle.arr_import.specs.Cols.{window_of}
use Rattle.arr_import.specs.Window.{items_of}
use Rattle.dict_stage.specs.Indices.{index_type}
use Rattle.dict_stage.specs.Texts.{Codes, IsText, index_by, texts_after}
use Rattle.column_fill.proofs.ItemsMoved.{holds-wholes}
use Rattle.dict_stage.proofs.Codes.{all-taken, few-texts, indices-more, item-text, takes-entry, takes-index, texts-next}
use Rattle.dict_stage.proofs.Texts.{dictionary-is, indices-are}
use Rattle.dict_stage.proofs.coder.coded.Goals as goal

pub item_of-requires-clause-text : goal.item_of-requires-clause-text
item_of-requires-clause-text c = item-text c.args.kind.now (window_of c.args.items.now) c.loop-i.i c.requires (omega arith)

pub add_index-requires-clause-text : goal.add_index-requires-clause-text
add_index-requires-clause-text c =
    subst IsText (sym c.item_of.ensures) (item-text c.args.kind.now (window_of c.args.items.now) c.loop-i.i c.requires (omega arith))

pub add_index-requires-clause-takes : goal.add_index-requires-clause-takes
add_index-requires-clause-takes c =
    subst (Takes c.loop-i.coder.entries) (sym c.item_of.ensures)
    (takes-entry c.args.kind.now (window_of c.args.items.now) c.loop-i.i c.loop-i.coder.entries c.requires (omega arith) c.loop-i.invariant.codes.holds)

pub add_index-requires-clause-codes : goal.add_index-requires-clause-codes
add_index-requires-clause-codes c =
    let w = window_of c.args.items.now in
    let texts = texts_after [] (take c.loop-i.i (items_of w)) in (
      c.args.kind.now,
      texts,
      c.loop-i.invariant.codes,
      takes-index c.args.kind.now w c.loop-i.i c.loop-i.indices (value_of c.item_of.result) c.requires (omega arith) c.loop-i.invariant.indices
          c.item_of.ensures,
      few-texts c.args.kind.now w c.loop-i.i c.requires (omega arith),
    )

pub add_index-requires-clause-width : goal.add_index-requires-clause-width
add_index-requires-clause-width c = holds-wholes c.loop-i.indices index_type _ 4 true c.loop-i.invariant.indices refl

pub loop-i-preserved : goal.loop-i-preserved
loop-i-preserved c =
    let w = window_of c.args.items.now in
    let v = value_of c.item_of.result in
    let texts = texts_after [] (take c.loop-i.i (items_of w)) in
    record {
      codes = subst (Codes c.add_index.new.coder c.args.kind.now) (texts-next w c.loop-i.i v (omega arith) c.item_of.ensures)
          (c.in_ok-add_index.ensures.coded c.args.kind.now texts c.loop-i.invariant.codes);
      indices = subst (Holds c.add_index.new.indices index_type) (indices-more w c.loop-i.i v (index_by texts v) (omega arith) c.item_of.ensures refl)
          (c.in_ok-add_index.ensures.added c.args.kind.now texts c.loop-i.invariant.codes index_type _ c.loop-i.invariant.indices);
    }

pub returns-clause-entries : goal.returns-clause-entries
returns-clause-entries c =
    let w = window_of c.args.items.now in
    let all = all-taken w c.loop-i.i (omega (arith, c.count-i-end.ensures, c.loop-i-test.false, c.loop-i.auto.i-end)) in
    subst (Holds c.loop-i.coder.entries c.args.kind.now) (ap (λ (vs : List Value). map Bytes (texts_after [] vs)) all ∙ dictionary-is (items_of w))
    c.loop-i.invariant.codes.holds

pub returns-clause-indices : goal.returns-clause-indices
returns-clause-indices c =
    let w = window_of c.args.items.now in
    let all = all-taken w c.loop-i.i (omega (arith, c.count-i-end.ensures, c.loop-i-test.false, c.loop-i.auto.i-end)) in
    subst (Holds c.loop-i.indices index_type) (ap (λ (vs : List Value). map (index_by (texts_after [] vs)) vs) all ∙ indices-are (items_of w))
    c.loop-i.invariant.indices
