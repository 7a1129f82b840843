use Rattle.std.proofs.Common.{◌≡◌, ◌∙◌, ◌+◌, ◌*◌, sym, ap, subst, arith}
use Rattle.layout_rules.specs.promise.Layout.{first, layout_of}
use Rattle.layout_rules.specs.Within.{StoredWithin}
use Rattle.layout_rules.specs.declared.layout.Layout.{Layout}
use Rattle.layout_rules.specs.declared.layout.Layout.TheVariants.{FixedWidth}
use Rattle.raw_array.specs.promise.Members.{members_of}
use Rattle.data_types.specs.promise.KindTrees.{kind_in}
use Rattle.data_types.specs.TypedView.{kind_of}
use Rattle.row_groups.specs.ItemKeys.{array_of}
use Rattle.row_groups.proofs.column.Column.place.Goals as goal

pub returns-clause-within : goal.returns-clause-within
returns-clause-within c =
    let column = c.args.self.now in
    let own = members_of (array_of column) in
    let layout : layout_of (kind_of column.typed.now) ≡ FixedWidth c.args.width =
    ap layout_of (sym (ap kind_in c.kinds_of_typed.ensures)) ∙ c.requires.width in
    let there = subst (λ (l : Layout). StoredWithin l own (first own + c.args.i)) layout (c.lawful_items_lie_within.ensures.stored c.args.i c.requires.inside) in
    let e : (c.first.result + c.args.i) * c.from.result ≡ (first own + c.args.i) * c.args.width =
    λ t. (c.first.ensures.first t + c.args.i) * c.from.ensures t in
    omega (arith, e, there)
