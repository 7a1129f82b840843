use Rattle.std.proofs.Common.{rules, ◌≡◌, None}
use Rattle.raw_array.specs.promise.Members.{members_of}
use Rattle.layout_rules.specs.promise.Layout.{items}
use Rattle.union_cols.specs.promise.Unions.{id_at, child_of}
use Rattle.union_cols.proofs.Holding.{not_unnamed}
use Rattle.union_cols.proofs.node.UnionNode.child_number.Goals as goal

pub unreachable-requires : goal.unreachable-requires
unreachable-requires c =
    let ids = c.args.table.now.ids.now in
    let own = members_of c.args.self.now.array.now in
    let none : child_of ids (id_at own c.args.i) ≡ None = search rules in
    not_unnamed ids own (items own) c.args.i c.requires.inside c.requires.named none
