use Rattle.std.proofs.Common.{◌∙◌, ap, map, sym}
use Rattle.data_types.specs.promise.TypedView.{typed_of}
use Rattle.layout_rules.specs.promise.Values.{rows_of}
use Rattle.data_types.specs.promise.ValueTexts.{lines_text}
use Rattle.tree_top.specs.promise.ForeignAnswer.{row_value}
use Rattle.tree_top.proofs.ForeignRows.{chunk-values, live-kinds}
use Rattle.tree_top.proofs.gathered.lines_of.Goals as goal

pub invariant_of-result : goal.invariant_of-result
invariant_of-result c =
    let typed = typed_of c.args.typed.now in
    let array = c.args.array.now in
    let live = live-kinds typed c.requires.kinds in
    record {
      told = c.in_ok-text.ensures.text
          ∙ ap lines_text (chunk-values typed array live (c.chunks_are_tables.ensures.chunk typed array live c.requires.chunk))
          ∙ ap (λ t. lines_text (map row_value (rows_of (typed_of t) array))) (sym c.of.ensures)
          ∙ ap (λ a. lines_text (map row_value (rows_of (typed_of c.of.result.value) a))) (sym c.of-2.ensures);
    }
