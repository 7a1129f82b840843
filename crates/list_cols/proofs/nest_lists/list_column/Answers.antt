use Rattle.std.proofs.Common.{◌≡◌, ◌∙◌, ◌<◌, ◌∷◌, [], length, map, to_z, w64, ap, sym, subst, arith}
use Rattle.std.proofs.lemmas.Int.{ints}
use Rattle.std.proofs.lemmas.List.{length-map}
use Rattle.std.specs.List.{All, flat_map}
use Rattle.data_types.specs.promise.Packed.{le_bytes}
use Rattle.data_types.specs.promise.Table.{Flat}
use Rattle.data_types.specs.promise.Value.{Value}
use Rattle.tree_model.specs.promise.TreeData.{Live, absent, trees}
use Rattle.data_types.specs.promise.ColumnKinds.{type_of_kind}
use Rattle.data_types.specs.promise.TypedView.{typed_of}
use Rattle.data_types.specs.TypedView.{kind_of}
use Rattle.layout_rules.specs.promise.Layout.{natural}
use Rattle.array_laws.specs.Items.{AreApart}
use Rattle.data_types.specs.promise.Groups.{distinct}
use Rattle.data_types.specs.Groups.{places_of}
use Rattle.list_cols.specs.promise.ListTrees.{list_members}
use Rattle.list_cols.proofs.ListEnds.{length-ends}
use Rattle.list_cols.proofs.NestedGather.{can-pick, group-tree}
use Rattle.list_cols.proofs.NestedRows.{few-distinct}
use Rattle.list_cols.proofs.nest_lists.list_column.Goals as goal

pub offset_bytes-requires : goal.offset_bytes-requires
offset_bytes-requires c =
    let vs = c.requires.groups.0 in
    let are = c.requires.groups.1 in
    let counts = map (λ (key : Value). length (places_of key vs)) (distinct vs) in
    record {
      few = omega (
        arith,
        ap length c.deref.ensures.value,
        ap length are.offsets,
        length-ends 0 counts,
        length-map (distinct vs) (λ (key : Value). length (places_of key vs)),
        few-distinct vs,
        c.requires.groups.3,
      );
    }

pub picked_column-requires-clause-items : goal.picked_column-requires-clause-items
picked_column-requires-clause-items c =
    let vs = c.requires.groups.0 in
    let are = c.requires.groups.1 in
    let has = c.requires.groups.2 in
    let kind = kind_of c.args.kid.now in
    let same = sym c.deref-2.ensures.value in
    can-pick (typed_of c.args.kid.now) c.args.items.now c.lawful_values_fit.ensures.once kind c.args.start (length vs) c.deref-2.result.now
    c.requires.typed c.requires.flat has.ok (subst (All (λ i. i < length vs)) same are.inside) has.long (subst AreApart same are.apart)

pub returns-in-Ok-clause-made : goal.returns-in-Ok-clause-made
returns-in-Ok-clause-made c vs are =
    let kind = kind_of c.args.kid.now in
    let typed = type_of_kind (Flat kind) in
    let items = c.args.items.now in
    let firsts = c.args.groups.now.firsts in
    let count = natural (to_z w64 c.len.result) in
    let whole : count ≡ length firsts.items = omega (arith, ints, c.len.ensures, firsts.ok) in
    let bytes = c.in_ok-offsets.ensures ∙ ap (flat_map (le_bytes 4)) (c.deref.ensures.value ∙ are.offsets) in
    c.in-Ok.ensures.made
    ∙ ap (λ t. Live (list_members count c.in_ok-offsets.offsets.items) (trees (t ∷ [])) absent) c.in_ok-values.ensures.made
    ∙ group-tree kind typed items c.args.start vs count c.in_ok-offsets.offsets.items c.deref-2.result.now
    (whole ∙ are.firsts) bytes (c.deref-2.ensures.value ∙ are.order)
