use Rattle.data_types.specs.promise.TypedView.{typed_of}
use Rattle.list_cols.proofs.Chunks.{chunk-is}
use Rattle.list_cols.proofs.Kids.{level-live}
use Rattle.list_cols.proofs.ListFields.{exploded-chunk, exploded-rows, exploded-typed, has-list}
use Rattle.list_cols.proofs.trees.exploded_trees_are_lawful.Goals as goal

pub returns-clause-field : goal.returns-clause-field
returns-clause-field c = λ schema t.
    let typed = typed_of c.args.typed.now in
    let can = c.requires.rows in
    let top = c.chunks_are_tables.ensures.chunk typed c.args.array.now (level-live c.args.typed.now c.kinds_of_typed.ensures) can.chunk in
    has-list c.args.column typed c.requires.types can.inside can.fitting schema top.dict t

pub returns-clause-types : goal.returns-clause-types
returns-clause-types c = λ schema t.
    let typed = typed_of c.args.typed.now in
    let can = c.requires.rows in
    let top = c.chunks_are_tables.ensures.chunk typed c.args.array.now (level-live c.args.typed.now c.kinds_of_typed.ensures) can.chunk in
    exploded-typed c.args.column typed c.requires.types can.inside can.fitting c.flat_types_have_no_children.ensures schema top.kind top.dict t

pub returns-clause-chunk : goal.returns-clause-chunk
returns-clause-chunk c = λ fits few.
    exploded-chunk c.args.column (typed_of c.args.typed.now) c.args.array.now fits c.flat_tables_have_their_rows.ensures.chunk few

pub returns-clause-rows : goal.returns-clause-rows
returns-clause-rows c = λ fits.
    let typed = typed_of c.args.typed.now in
    let array = c.args.array.now in
    let can = c.requires.rows in
    let law = c.lawful_trees.ensures in
    let live = level-live c.args.typed.now c.kinds_of_typed.ensures in
    let is = chunk-is law.root law.parts law.items c.chunks_are_tables.ensures.chunk typed array live can.chunk in
    exploded-rows c.args.column typed array fits c.flat_tables_have_their_rows.ensures.rows is can.inside
