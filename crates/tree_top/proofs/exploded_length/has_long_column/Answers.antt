use Rattle.std.proofs.Common.{rules, ◌<◌, length, ap, arith}
use Rattle.arr_import.specs.Cols.{window_of}
use Rattle.data_types.specs.promise.KindTrees.{KindTree}
use Rattle.data_types.specs.declared.typed.Typed.{out-Typed}
use Rattle.tree_model.specs.promise.TreeParts.{children_of}
use Rattle.list_cols.proofs.Kids.{kids-are, many-kids}
use Rattle.tree_top.proofs.exploded_length.has_long_column.Goals as goal

pub index-requires : goal.index-requires
index-requires c =
    let t = c.args.typed.now in
    let own : c.loop-k.k < length (children_of (window_of c.args.table.now).typed) = search rules in
    let same = ap (λ (u : KindTree). length (children_of u)) c.requires.kinds in
    omega (arith, own, same, many-kids t, (out-Typed t).kids.ok, ap length (kids-are t c.kinds_of_typed.ensures))
