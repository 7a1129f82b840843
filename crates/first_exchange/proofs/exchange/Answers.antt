use Rattle.std.proofs.Common.{ap, arith}
use Rattle.raw_array.specs.promise.Members.{Cost}
use Rattle.raw_array.specs.Members.{LeastAmount}
use Rattle.tree_model.specs.promise.TreeCost.{Nodes}
use Rattle.first_exchange.proofs.People.{people-cost, people-whole, schema-cost}
use Rattle.first_exchange.proofs.exchange.Goals as goal

pub consume-requires-clause-share : goal.consume-requires-clause-share
consume-requires-clause-share g c = omega (arith, ap LeastAmount c.in_ok-table.ensures.array, people-whole)

pub consume-requires-clause-units : goal.consume-requires-clause-units
consume-requires-clause-units g c =
    omega (
      arith,
      ap Cost c.in_ok-table.ensures.array,
      people-cost,
      ap Nodes c.in_ok-table.ensures.schema,
      schema-cost,
      c.in_ok-table.ensures.units,
      c.requires.units,
    )
