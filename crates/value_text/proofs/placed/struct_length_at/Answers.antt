use Rattle.std.proofs.Common.{◌∙◌, ◌+◌, ◌<◌, ℕ, length, get_or, ap, sym, arith}
use Rattle.tree_model.specs.promise.TreeData.{Released}
use Rattle.tree_model.specs.promise.TreeParts.{child_at}
use Rattle.data_types.specs.promise.TypedView.{typed_of}
use Rattle.data_types.specs.TypedView.{kids_of}
use Rattle.layout_rules.specs.promise.Values.{row_items, tree_items, value_at}
use Rattle.value_text.specs.Lengths.{text_length}
use Rattle.value_text.specs.declared.lengths.Lengths.{Lengths}
use Rattle.value_text.proofs.LengthSums.{are-reached, length-there}
use Rattle.value_text.proofs.placed.struct_length_at.Goals as goal

pub row_length-requires-clause-reached : goal.row_length-requires-clause-reached
row_length-requires-clause-reached c = λ (k : ℕ) (d : Lengths) (within : k < length c.args.kids.now).
    let t = c.args.typed.now in
    let array = c.args.array.now in
    let there : k < length (kids_of t) = omega (arith, within, c.requires.kids.many) in
    are-reached (get_or c.args.kids.now k d) (value_at (get_or (kids_of t) k Released) (child_at array k)) (tree_items (child_at array k))
    (c.place_of.result + 1) (c.requires.kids.each k d there)
    (omega (arith, c.place_of.ensures.place, c.fields_are_there.ensures.within c.args.i k c.requires.inside there))

pub returns : goal.returns
returns c =
    let t = c.args.typed.now in
    let array = c.args.array.now in
    let kids = c.args.kids.now in
    let i = c.args.i in
    c.row_length.ensures (row_items (typed_of t) array i) (record {
      many = c.fields_are_there.ensures.many i ∙ sym c.requires.kids.many;
      each = λ (k : ℕ) (d : Lengths) (within : k < length kids).
          let there : k < length (kids_of t) = omega (arith, within, c.requires.kids.many) in
          let child = value_at (get_or (kids_of t) k Released) (child_at array k) in
          length-there (get_or kids k d) child (tree_items (child_at array k)) c.place_of.result (c.requires.kids.each k d there)
          (omega (arith, c.place_of.ensures.place, c.fields_are_there.ensures.within i k c.requires.inside there))
          ∙ ap (λ p. text_length (child p)) c.place_of.ensures.place
          ∙ ap text_length (sym (c.fields_are_there.ensures.fields i k there));
    })
