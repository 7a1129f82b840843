use Rattle.std.proofs.Common.{◌≡◌, ℕ, ◌+◌, ◌<◌, ◌≤◌, length, get_or, ap, ◌∙◌, sym, subst, arith}
use Rattle.tree_model.specs.promise.TreeData.{Released}
use Rattle.tree_model.specs.promise.TreeParts.{child_at, children_of}
use Rattle.raw_array.specs.promise.Members.{members_of}
use Rattle.data_types.specs.promise.TypedView.{typed_of}
use Rattle.data_types.specs.TypedView.{kids_of}
use Rattle.layout_rules.specs.promise.Layout.{first, end}
use Rattle.layout_rules.specs.promise.Rules.{items_need}
use Rattle.layout_rules.specs.promise.Values.{value_at, tree_items}
use Rattle.arr_import.proofs.Reading.{struct-typed, kids-typed, row-field}
use Rattle.arr_import.proofs.col.Col.fields_are_there.Goals as goal

pub returns : goal.returns
returns c =
    let col = c.args.self.now in
    let t = col.typed.now in
    let k = c.args.k in
    let own = members_of col.array.now in
    let e = c.kinds_of_typed.ensures in
    let kids = kids-typed t e in
    let inside : k < length (kids_of t) = subst (λ l. k < length l) kids c.requires.inside in
    let typed : child_at (typed_of t) k ≡ get_or (kids_of t) k Released = ap (λ l. get_or l k Released) kids in
    let needed : end own ≤ tree_items (child_at col.array.now k) =
    subst (λ l. items_need l own ≤ tree_items (child_at col.array.now k)) (struct-typed t e c.requires.kind)
    (c.lawful_items_lie_within.ensures.needed k inside) in
    let live : k < length (children_of col.array.now) = omega (arith, inside, c.lawful_root.ensures.children) in
    record {
      kid = inside;
      typed = typed;
      within = omega (arith, needed, col.within, c.lawful_root.ensures.items);
      fields = λ (i : ℕ).
          row-field t e col.array.now (col.start + i) k c.lawful_root.ensures.live inside live
          ∙ ap (λ u. value_at u (child_at col.array.now k) (first own + (col.start + i))) (sym typed)
          ∙ ap (value_at (child_at (typed_of t) k) (child_at col.array.now k)) (omega arith);
    }
