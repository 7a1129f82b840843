use Rattle.data_types.specs.promise.ColumnKinds.{type_of_columns}
use Rattle.stage_kernels.proofs.select.select.Goals as goal

pub take_columns-requires-clause-live : goal.take_columns-requires-clause-live
take_columns-requires-clause-live c = (c.lawful_trees.ensures.root (type_of_columns c.requires.chunk.0) c.args.chunk tt c.requires.chunk.1.0).live

pub take_columns-requires-clause-offset : goal.take_columns-requires-clause-offset
take_columns-requires-clause-offset c = (c.lawful_trees.ensures.root (type_of_columns c.requires.chunk.0) c.args.chunk tt c.requires.chunk.1.0).placed

pub take_columns-requires-clause-length : goal.take_columns-requires-clause-length
take_columns-requires-clause-length c = (c.lawful_trees.ensures.root (type_of_columns c.requires.chunk.0) c.args.chunk tt c.requires.chunk.1.0).sized

pub take_columns-requires-clause-in_range : goal.take_columns-requires-clause-in_range
take_columns-requires-clause-in_range c =
    c.columns_of_a_table.ensures.select_range c.requires.chunk.0 c.args.chunk c.args.picks.now c.requires.chunk.1 c.requires.chunk.2

pub take_columns-requires-clause-fit : goal.take_columns-requires-clause-fit
take_columns-requires-clause-fit c =
    c.columns_of_a_table.ensures.select_fits c.requires.chunk.0 c.args.chunk c.args.picks.now c.requires.chunk.1 c.requires.chunk.2
