use Rattle.std.proofs.Common.{◌∙◌, ◌+◌, get_or, ap, subst, sym, arith}
use Rattle.tree_model.specs.promise.TreeData.{Released}
use Rattle.tree_model.specs.promise.TreeParts.{child_at}
use Rattle.data_types.specs.TypedView.{kids_of}
use Rattle.layout_rules.specs.promise.Values.{tree_items, value_at}
use Rattle.value_text.specs.Lengths.{IsReached, length_at, text_length}
use Rattle.value_text.specs.declared.lengths.Lengths.{Lengths}
use Rattle.value_text.proofs.LengthSums.{are-reached, length-there}
use Rattle.value_text.proofs.placed.field_length_at.Goals as goal

pub at-requires : goal.at-requires
at-requires c =
    let t = c.args.typed.now in
    let array = c.args.array.now in
    let k = c.args.k in
    let kid = c.index-kids-k.result in
    subst (λ (l : Lengths). IsReached l (c.place_of.result + 1)) (sym c.index-kids-k.is)
    (are-reached (get_or c.args.kids.now k kid) (value_at (get_or (kids_of t) k Released) (child_at array k)) (tree_items (child_at array k))
    (c.place_of.result + 1) (c.requires.kids.each k kid c.requires.field)
    (omega (arith, c.place_of.ensures.place, c.fields_are_there.ensures.within c.args.i k c.requires.inside c.requires.field)))

pub returns : goal.returns
returns c =
    let t = c.args.typed.now in
    let array = c.args.array.now in
    let k = c.args.k in
    let i = c.args.i in
    let kid = c.index-kids-k.result in
    let child = value_at (get_or (kids_of t) k Released) (child_at array k) in
    record {
      field = omega (arith, c.fields_are_there.ensures.many i, c.requires.field);
      length = c.at.ensures ∙ ap (λ l. length_at l c.place_of.result) c.index-kids-k.is
          ∙ length-there (get_or c.args.kids.now k kid) child (tree_items (child_at array k)) c.place_of.result (c.requires.kids.each k kid c.requires.field)
          (omega (arith, c.place_of.ensures.place, c.fields_are_there.ensures.within i k c.requires.inside c.requires.field))
          ∙ ap (λ p. text_length (child p)) c.place_of.ensures.place
          ∙ ap text_length (sym (c.fields_are_there.ensures.fields i k c.requires.field));
    }
