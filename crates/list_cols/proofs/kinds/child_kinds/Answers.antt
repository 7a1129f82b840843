use Rattle.std.proofs.Common.{◌∙◌, ◌<◌, List, length, get_or, ap, sym, arith}
use Rattle.tree_model.specs.promise.TreeData.{Released}
use Rattle.data_types.specs.promise.KindTrees.{KindTree}
use Rattle.data_types.specs.TypedView.{kids_of}
use Rattle.data_types.specs.declared.typed.Typed.{out-Typed}
use Rattle.list_cols.proofs.Kids.{kid-is, kid-ok, kids-are, many-kids}
use Rattle.list_cols.proofs.kinds.child_kinds.Goals as goal

pub index-requires : goal.index-requires
index-requires c =
    let t = c.args.typed.now in
    omega (arith, c.requires.inside, many-kids t, (out-Typed t).kids.ok, ap length (kids-are t c.kinds_of_typed.ensures))

pub returns-clause-is : goal.returns-clause-is
returns-clause-is c =
    let t = c.args.typed.now in
    let k = c.args.k in
    let lt : k < length (kids_of t) = omega (arith, c.requires.inside, ap length (kids-are t c.kinds_of_typed.ensures)) in
    sym (ap (λ (kids : List KindTree). get_or kids k Released) (kids-are t c.kinds_of_typed.ensures) ∙ kid-is t c.index.result.now k lt c.index.ensures)

pub returns-clause-types : goal.returns-clause-types
returns-clause-types c =
    let t = c.args.typed.now in
    let k = c.args.k in
    let lt : k < length (kids_of t) = omega (arith, c.requires.inside, ap length (kids-are t c.kinds_of_typed.ensures)) in
    kid-ok t c.index.result.now k c.kinds_of_typed.ensures c.requires.types lt c.index.ensures
