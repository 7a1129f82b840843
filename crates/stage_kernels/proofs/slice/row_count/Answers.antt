use Rattle.std.proofs.Common.{rules}
use Rattle.data_types.specs.promise.ColumnKinds.{type_of_columns}
use Rattle.stage_kernels.proofs.slice.row_count.Goals as goal

pub length-requires : goal.length-requires
length-requires c = (c.lawful_trees.ensures.root (type_of_columns c.requires.0) c.args.chunk.now tt c.requires.1.0).live

pub overflow_cast-result : goal.overflow_cast-result
overflow_cast-result c =
    let root = c.lawful_trees.ensures.root (type_of_columns c.requires.0) c.args.chunk.now tt c.requires.1.0 in
    let sized = root.sized in
    let near = root.near in
    search (rules, sized, near)

pub returns-clause-exact : goal.returns-clause-exact
returns-clause-exact c =
    let root = c.lawful_trees.ensures.root (type_of_columns c.requires.0) c.args.chunk.now tt c.requires.1.0 in
    let sized = root.sized in
    let near = root.near in
    let many = root.many in
    search (rules, sized, near, many)

pub returns-clause-few : goal.returns-clause-few
returns-clause-few c =
    let root = c.lawful_trees.ensures.root (type_of_columns c.requires.0) c.args.chunk.now tt c.requires.1.0 in
    let sized = root.sized in
    let near = root.near in
    search (rules, sized, near)
