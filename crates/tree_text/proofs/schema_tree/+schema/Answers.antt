use Rattle.std.proofs.Common.{rules, ◌+◌, ◌≤◌, List, [], ◌∷◌, length, refl, sym, ap, ◌∙◌, arith, subst, Some}
use Rattle.tree_model.specs.promise.TreeData.{trees}
use Rattle.raw_schema.specs.promise.Members.{SchemaTree}
use Rattle.tree_model.specs.promise.TreeCost.{Nodes, no_holds}
use Rattle.raw_schema.specs.Members.{nodes_of_all}
use Rattle.tree_model.proofs.Measures.{cost_of_all-append}
use Rattle.tree_text.specs.promise.Standing.{ReleasedLine, LiveLine}
use Rattle.tree_text.specs.declared.node_line.SchemaLine.{SchemaLine}
use Rattle.tree_text.specs.Cursors.{left, SchemaRead, SchemasRead}
use Rattle.tree_text.specs.LineView.{schema_own, schema_told}
use Rattle.tree_text.proofs.LineBack.{SchemaLineIs, schema_read}
use Rattle.tree_text.proofs.SchemaSteps.{none_made, one_added, stops_inside, nodes-listed, depth_parts, live_result, live_fault, released_is, left_all, steps}
use Rattle.tree_text.proofs.schema_tree.+schema.Goals as goal

pub live-built-requires-clause-supply : goal.live-built-requires-clause-supply
live-built-requires-clause-supply t c =
    let split = c.with_dictionary-children in
    let cost = nodes-listed c.in_ok-parts.parts.items split.result.0.items split.result.1 split.ensures.all in
    omega (arith, cost, c.in_ok-parts.ensures.units, c.args.pass.now.supply)

pub live-built-requires-clause-low_children : goal.live-built-requires-clause-low_children
live-built-requires-clause-low_children t c =
    let split = c.with_dictionary-children in
    (depth_parts c.args.bytes.now c.args.cursor c.in_ok-parts.next (c.args.level + 1) (c.args.own.children + c.args.own.dictionaries)
    c.in_ok-parts.parts.items split.result.0.items split.result.1
    (omega (arith, c.requires.level)) split.ensures.all c.in_ok-parts.ensures.read).0

pub live-built-requires-clause-low_dictionary : goal.live-built-requires-clause-low_dictionary
live-built-requires-clause-low_dictionary t c =
    let split = c.with_dictionary-children in
    (depth_parts c.args.bytes.now c.args.cursor c.in_ok-parts.next (c.args.level + 1) (c.args.own.children + c.args.own.dictionaries)
    c.in_ok-parts.parts.items split.result.0.items split.result.1
    (omega (arith, c.requires.level)) split.ensures.all c.in_ok-parts.ensures.read).1

pub live-returns-in-Ok-clause-units : goal.live-returns-in-Ok-clause-units
live-returns-in-Ok-clause-units t c =
    let split = c.with_dictionary-children in
    let cost = nodes-listed c.in_ok-parts.parts.items split.result.0.items split.result.1 split.ensures.all in
    omega (arith, ap Nodes c.in-Ok.ensures.tree, cost, c.in_ok-parts.ensures.units, c.in-Ok.ensures.units)

pub live-returns-in-Ok-clause-nodes : goal.live-returns-in-Ok-clause-nodes
live-returns-in-Ok-clause-nodes t c =
    let split = c.with_dictionary-children in
    let cost = nodes-listed c.in_ok-parts.parts.items split.result.0.items split.result.1 split.ensures.all in
    omega (arith, ap Nodes c.in-Ok.ensures.tree, cost, c.in_ok-parts.ensures.nodes, c.in-Ok.ensures.nodes)

pub live-returns-in-Err-clause-units : goal.live-returns-in-Err-clause-units
live-returns-in-Err-clause-units t c =
    let split = c.with_dictionary-children in
    let cost = nodes-listed c.in_ok-parts.parts.items split.result.0.items split.result.1 split.ensures.all in
    omega (arith, cost, c.in_ok-parts.ensures.units, c.in-Err.ensures.units)

pub schemas-loop-init : goal.schemas-loop-init
schemas-loop-init t c =
    let none = c.new-made.ensures.items in
    let cost = ap (λ (xs : List SchemaTree). nodes_of_all (trees xs)) none in
    record {
      read = subst (SchemasRead c.args.bytes.now c.args.cursor c.args.cursor c.args.level 0) (sym none)
          (none_made c.args.bytes.now c.args.cursor c.args.level c.requires.cursor);
      units = omega (arith, cost);
      nodes = omega (arith, cost, c.args.pass.now.most_nodes);
      blocks = refl;
    }

pub schemas-returns-in-Err-clause-fault : goal.schemas-returns-in-Err-clause-fault
schemas-returns-in-Err-clause-fault t c =
    stops_inside c.args.bytes.now c.args.cursor c.loop.here c.args.level c.args.count c.loop.counter c.loop.made.items c.in-Err.fault c.requires.cursor
    c.loop.invariant.read c.loop-test.true c.in-Err.ensures.fault

pub schemas-loop-preserved : goal.schemas-loop-preserved
schemas-loop-preserved t c =
    let more = c.in_ok-made-in-Ok.ensures.more in
    let made = c.loop.made.items in
    let tree = c.in-Ok.tree in
    let cost = ap (λ (xs : List SchemaTree). nodes_of_all (trees xs)) more in
    let sum = cost_of_all-append no_holds made (tree ∷ []) in
    record {
      read = subst (SchemasRead c.args.bytes.now c.args.cursor c.in-Ok.next c.args.level (c.loop.counter + 1)) (sym more)
          (one_added c.args.bytes.now c.args.cursor c.loop.here c.in-Ok.next c.args.level c.loop.counter made tree c.loop.invariant.read c.in-Ok.ensures.read);
      units = omega (arith, cost, sum, c.loop.invariant.units, c.in-Ok.ensures.units, c.in_ok-made-in-Ok.ensures.units);
      nodes = omega (arith, cost, sum, c.loop.invariant.nodes, c.in-Ok.ensures.nodes, c.in_ok-made-in-Ok.ensures.nodes);
      blocks = search rules;
    }

pub schema-live-requires : goal.schema-live-requires
schema-live-requires t c =
    let read = c.in_ok-told.ensures.read in
    let own = c.in-Live.own in
    let line : SchemaLineIs read.line (schema_own own) own.children own.dictionaries =
    schema_read read.line (LiveLine (schema_own own) own.children own.dictionaries) (read.is ∙ ap (λ (x : SchemaLine). Some (schema_told x)) c.in-Live.is) in
    let cursor = read.cursor in
    let low : c.args.level ≤ 100 = read.low in
    let few : own.children ≤ 1048576 = line.fits.few_children in
    let one : own.dictionaries ≤ 1 = line.one in
    let lines = ap length read.here in
    let room : length (left c.args.bytes.now c.in_ok-told.next) + 1 ≤ c.args.pass.now.units = omega (arith, lines, c.requires.room) in
    search rules

pub schema-returns-in-Live-clause-read : goal.schema-returns-in-Live-clause-read
schema-returns-in-Live-clause-read t c =
    let read = c.in_ok-told.ensures.read in
    let own = c.in-Live.own in
    let line : SchemaLineIs read.line (schema_own own) own.children own.dictionaries =
    schema_read read.line (LiveLine (schema_own own) own.children own.dictionaries) (read.is ∙ ap (λ (x : SchemaLine). Some (schema_told x)) c.in-Live.is) in
    live_result c.args.bytes.now c.args.cursor c.in_ok-told.next c.args.level own.children own.dictionaries read.line (schema_own own) c.live.result read.low
    read.here read.cursor line c.live.ensures.read

pub schema-returns-in-Released-clause-read : goal.schema-returns-in-Released-clause-read
schema-returns-in-Released-clause-read t c =
    let read = c.in_ok-told.ensures.read in
    let line = schema_read read.line ReleasedLine (read.is ∙ ap (λ (x : SchemaLine). Some (schema_told x)) c.in-Released.is) in
    subst (SchemaRead c.args.bytes.now c.args.cursor c.in_ok-told.next c.args.level) (sym c.released.ensures)
    (released_is c.args.bytes.now c.args.cursor c.in_ok-told.next c.args.level read.line read.low read.here read.cursor line)

pub schema-returns-in-Live-clause-fault : goal.schema-returns-in-Live-clause-fault
schema-returns-in-Live-clause-fault t c =
    let read = c.in_ok-told.ensures.read in
    let own = c.in-Live.own in
    let line : SchemaLineIs read.line (schema_own own) own.children own.dictionaries =
    schema_read read.line (LiveLine (schema_own own) own.children own.dictionaries) (read.is ∙ ap (λ (x : SchemaLine). Some (schema_told x)) c.in-Live.is) in
    live_fault c.args.bytes.now c.args.cursor c.in_ok-told.next c.args.level own.children own.dictionaries read.line (schema_own own) c.live.result
    c.requires.cursor read.low read.here read.cursor line c.live.ensures.fault

pub live-with_dictionary-children-requires-clause-one : goal.live-with_dictionary-children-requires-clause-one
live-with_dictionary-children-requires-clause-one t c = c.requires.one

pub live-with_dictionary-children-requires-clause-enough : goal.live-with_dictionary-children-requires-clause-enough
live-with_dictionary-children-requires-clause-enough t c = omega (arith, c.in_ok-parts.ensures.read.counted)

pub live-built-requires-clause-units : goal.live-built-requires-clause-units
live-built-requires-clause-units t c =
    let parts =
    left_all c.args.bytes.now c.args.cursor c.in_ok-parts.next (c.args.level + 1) (c.args.own.children + c.args.own.dictionaries) c.in_ok-parts.parts.items
    c.in_ok-parts.ensures.read in
    omega (arith, parts, c.requires.room, c.in_ok-parts.ensures.units)

pub schemas-schema-requires : goal.schemas-schema-requires
schemas-schema-requires t c = grind (arith, steps, steps)

pub live-overflow_add-count : goal.live-overflow_add-count
live-overflow_add-count t c = grind (arith, steps, steps)

pub live-overflow_add-level : goal.live-overflow_add-level
live-overflow_add-level t c = grind (arith, steps, steps)

pub live-schemas-requires : goal.live-schemas-requires
live-schemas-requires t c = grind (arith, steps, steps)

pub live-returns-in_err-parts-clause-read : goal.live-returns-in_err-parts-clause-read
live-returns-in_err-parts-clause-read t c = grind (arith, steps, steps)

pub live-returns-in_err-parts-clause-fault : goal.live-returns-in_err-parts-clause-fault
live-returns-in_err-parts-clause-fault t c = grind (arith, steps, steps)

pub live-returns-in_err-parts-clause-units : goal.live-returns-in_err-parts-clause-units
live-returns-in_err-parts-clause-units t c = grind (arith, steps, steps)

pub live-returns-in_err-parts-clause-nodes : goal.live-returns-in_err-parts-clause-nodes
live-returns-in_err-parts-clause-nodes t c = grind (arith, steps, steps)

pub live-returns-in_err-parts-clause-blocks : goal.live-returns-in_err-parts-clause-blocks
live-returns-in_err-parts-clause-blocks t c = grind (arith, steps, steps)

pub live-returns-in-Ok-clause-read : goal.live-returns-in-Ok-clause-read
live-returns-in-Ok-clause-read t c = grind (arith, steps, steps)

pub live-returns-in-Ok-clause-fault : goal.live-returns-in-Ok-clause-fault
live-returns-in-Ok-clause-fault t c = grind (arith, steps, steps)

pub live-returns-in-Ok-clause-blocks : goal.live-returns-in-Ok-clause-blocks
live-returns-in-Ok-clause-blocks t c = grind (arith, steps, steps)

pub live-returns-in-Err-clause-read : goal.live-returns-in-Err-clause-read
live-returns-in-Err-clause-read t c = grind (arith, steps, steps)

pub live-returns-in-Err-clause-fault : goal.live-returns-in-Err-clause-fault
live-returns-in-Err-clause-fault t c = grind (arith, steps, steps)

pub live-returns-in-Err-clause-nodes : goal.live-returns-in-Err-clause-nodes
live-returns-in-Err-clause-nodes t c = grind (arith, steps, steps)

pub live-returns-in-Err-clause-blocks : goal.live-returns-in-Err-clause-blocks
live-returns-in-Err-clause-blocks t c = grind (arith, steps, steps)

pub schema-node_line-requires : goal.schema-node_line-requires
schema-node_line-requires t c = grind (arith, steps, steps)

pub schema-returns-in_err-told-clause-read : goal.schema-returns-in_err-told-clause-read
schema-returns-in_err-told-clause-read t c = grind (arith, steps, steps)

pub schema-returns-in_err-told-clause-fault : goal.schema-returns-in_err-told-clause-fault
schema-returns-in_err-told-clause-fault t c = grind (arith, steps, steps)

pub schema-returns-in_err-told-clause-units : goal.schema-returns-in_err-told-clause-units
schema-returns-in_err-told-clause-units t c = grind (arith, steps, steps)

pub schema-returns-in_err-told-clause-nodes : goal.schema-returns-in_err-told-clause-nodes
schema-returns-in_err-told-clause-nodes t c = grind (arith, steps, steps)

pub schema-returns-in_err-told-clause-blocks : goal.schema-returns-in_err-told-clause-blocks
schema-returns-in_err-told-clause-blocks t c = grind (arith, steps, steps)

pub schema-released-requires : goal.schema-released-requires
schema-released-requires t c = grind (arith, steps, steps)

pub schema-returns-in-Live-clause-units : goal.schema-returns-in-Live-clause-units
schema-returns-in-Live-clause-units t c = grind (arith, steps, steps)

pub schema-returns-in-Live-clause-nodes : goal.schema-returns-in-Live-clause-nodes
schema-returns-in-Live-clause-nodes t c = grind (arith, steps, steps)

pub schema-returns-in-Live-clause-blocks : goal.schema-returns-in-Live-clause-blocks
schema-returns-in-Live-clause-blocks t c = grind (arith, steps, steps)

pub schema-returns-in-Released-clause-fault : goal.schema-returns-in-Released-clause-fault
schema-returns-in-Released-clause-fault t c = grind (arith, steps, steps)

pub schema-returns-in-Released-clause-units : goal.schema-returns-in-Released-clause-units
schema-returns-in-Released-clause-units t c = grind (arith, steps, steps)

pub schema-returns-in-Released-clause-nodes : goal.schema-returns-in-Released-clause-nodes
schema-returns-in-Released-clause-nodes t c = grind (arith, steps, steps)

pub schema-returns-in-Released-clause-blocks : goal.schema-returns-in-Released-clause-blocks
schema-returns-in-Released-clause-blocks t c = grind (arith, steps, steps)

pub schemas-added-requires : goal.schemas-added-requires
schemas-added-requires t c = grind (arith, steps, steps)

pub schemas-release_all-requires : goal.schemas-release_all-requires
schemas-release_all-requires t c = grind (arith, steps, steps)

pub schemas-returns-in-Err-clause-read : goal.schemas-returns-in-Err-clause-read
schemas-returns-in-Err-clause-read t c = grind (arith, steps, steps)

pub schemas-returns-in-Err-clause-units : goal.schemas-returns-in-Err-clause-units
schemas-returns-in-Err-clause-units t c = grind (arith, steps, steps)

pub schemas-returns-in-Err-clause-nodes : goal.schemas-returns-in-Err-clause-nodes
schemas-returns-in-Err-clause-nodes t c = grind (arith, steps, steps)

pub schemas-returns-in-Err-clause-blocks : goal.schemas-returns-in-Err-clause-blocks
schemas-returns-in-Err-clause-blocks t c = grind (arith, steps, steps)

pub schemas-loop-smaller : goal.schemas-loop-smaller
schemas-loop-smaller t c = grind (arith, steps, steps)

pub schemas-returns-clause-read : goal.schemas-returns-clause-read
schemas-returns-clause-read t c = grind (arith, steps, steps)

pub schemas-returns-clause-fault : goal.schemas-returns-clause-fault
schemas-returns-clause-fault t c = grind (arith, steps, steps)

pub schemas-returns-clause-units : goal.schemas-returns-clause-units
schemas-returns-clause-units t c = grind (arith, steps, steps)

pub schemas-returns-clause-nodes : goal.schemas-returns-clause-nodes
schemas-returns-clause-nodes t c = grind (arith, steps, steps)

pub schemas-returns-clause-blocks : goal.schemas-returns-clause-blocks
schemas-returns-clause-blocks t c = grind (arith, steps, steps)
