use Rattle.std.proofs.Common.{rules, ◌+◌, ◌≤◌, List, [], ◌∷◌, length, replicate, sym, ap, ◌∙◌, arith, subst, Some}
use Rattle.tree_model.specs.promise.TreeData.{trees}
use Rattle.tree_model.specs.promise.TreeCost.{Nodes, Holds, holds_of_all}
use Rattle.tree_model.specs.TreeCost.{nodes_of_all}
use Rattle.raw_array.specs.promise.Members.{ArrayTree, Cost, holds}
use Rattle.raw_array.specs.Members.{cost_of_all}
use Rattle.raw_array.specs.View.{buffers_of}
use Rattle.raw_array.proofs.Buffers.{length-buffers_of}
use Rattle.tree_model.proofs.Measures.{cost_of_all-append}
use Rattle.tree_text.specs.promise.Standing.{ReleasedLine, LiveLine, AtArray}
use Rattle.tree_text.specs.declared.node_line.ArrayLine.{ArrayLine}
use Rattle.tree_text.specs.Cursors.{left, ArrayRead, ArraysRead}
use Rattle.tree_text.specs.LineView.{array_own, array_told}
use Rattle.tree_text.proofs.LineBack.{ArrayLineIs, array_read}
use Rattle.tree_text.proofs.ArraySteps.{buffers_stop, left_buffers}
use Rattle.tree_text.proofs.ArrayNodes.{none_made, one_added, stops_inside, parts_measure, depth_parts, live_result, live_fault, released_is, left_all, steps}
use Rattle.tree_text.proofs.ArrayNodes.{nodes-append, holds-append}
use Rattle.tree_text.proofs.array_tree.+array.Goals as goal

pub arrays-loop-init : goal.arrays-loop-init
arrays-loop-init t c =
    let none = c.new-made.ensures.items in
    let cost = ap (λ (xs : List ArrayTree). cost_of_all (trees xs)) none in
    let nodes = ap (λ (xs : List ArrayTree). nodes_of_all (trees xs)) none in
    let held = ap (λ (xs : List ArrayTree). holds_of_all holds (trees xs)) none in
    record {
      read = subst (ArraysRead c.args.bytes.now c.args.cursor c.args.cursor c.args.level 0) (sym none)
          (none_made c.args.bytes.now c.args.cursor c.args.level c.requires.cursor);
      units = omega (arith, cost);
      nodes = omega (arith, nodes, c.args.pass.now.most_nodes);
      blocks = omega (arith, held, c.args.pass.now.most_blocks);
    }

pub arrays-returns-in-Err-clause-fault : goal.arrays-returns-in-Err-clause-fault
arrays-returns-in-Err-clause-fault t c =
    stops_inside c.args.bytes.now c.args.cursor c.loop.here c.args.level c.args.count c.loop.counter c.loop.made.items c.in-Err.fault c.requires.cursor
    c.loop.invariant.read c.loop-test.true c.in-Err.ensures.fault

pub arrays-loop-preserved : goal.arrays-loop-preserved
arrays-loop-preserved t c =
    let more = c.in_ok-made-in-Ok.ensures.more in
    let made = c.loop.made.items in
    let tree = c.in-Ok.tree in
    let cost = ap (λ (xs : List ArrayTree). cost_of_all (trees xs)) more in
    let sum = cost_of_all-append holds made (tree ∷ []) in
    let nodes = ap (λ (xs : List ArrayTree). nodes_of_all (trees xs)) more in
    let nodes_sum = nodes-append made (tree ∷ []) in
    let held = ap (λ (xs : List ArrayTree). holds_of_all holds (trees xs)) more in
    let held_sum = holds-append holds made (tree ∷ []) in
    record {
      read = subst (ArraysRead c.args.bytes.now c.args.cursor c.in-Ok.next c.args.level (c.loop.counter + 1)) (sym more)
          (one_added c.args.bytes.now c.args.cursor c.loop.here c.in-Ok.next c.args.level c.loop.counter made tree c.loop.invariant.read c.in-Ok.ensures.read);
      units = omega (arith, cost, sum, c.loop.invariant.units, c.in-Ok.ensures.units, c.in_ok-made-in-Ok.ensures.units);
      nodes = omega (arith, nodes, nodes_sum, c.loop.invariant.nodes, c.in-Ok.ensures.nodes, c.in_ok-made-in-Ok.ensures.nodes);
      blocks = omega (arith, held, held_sum, c.loop.invariant.blocks, c.in-Ok.ensures.blocks, c.in_ok-made-in-Ok.ensures.blocks);
    }

pub array-live-requires : goal.array-live-requires
array-live-requires t c =
    let read = c.in_ok-told.ensures.read in
    let own = c.in-Live.own in
    let line : ArrayLineIs read.line (array_own own) own.children own.dictionaries =
    array_read read.line (LiveLine (array_own own) own.children own.dictionaries) (read.is ∙ ap (λ (x : ArrayLine). Some (array_told x)) c.in-Live.is) in
    let cursor = read.cursor in
    let low : c.args.level ≤ 100 = read.low in
    let few : own.children ≤ 1048576 = line.fits.few_children in
    let few_buffers : own.buffers ≤ 1048576 = line.fits.buffers in
    let one : own.dictionaries ≤ 1 = line.one in
    let lines = ap length read.here in
    let room : length (left c.args.bytes.now c.in_ok-told.next) + 1 ≤ c.args.pass.now.units = omega (arith, lines, c.requires.room) in
    search rules

pub array-returns-in-Live-clause-read : goal.array-returns-in-Live-clause-read
array-returns-in-Live-clause-read t c =
    let read = c.in_ok-told.ensures.read in
    let own = c.in-Live.own in
    let line : ArrayLineIs read.line (array_own own) own.children own.dictionaries =
    array_read read.line (LiveLine (array_own own) own.children own.dictionaries) (read.is ∙ ap (λ (x : ArrayLine). Some (array_told x)) c.in-Live.is) in
    live_result c.args.bytes.now c.args.cursor c.in_ok-told.next c.args.level own.children own.dictionaries read.line (array_own own) c.live.result read.low
    read.here read.cursor line c.live.ensures.read

pub array-returns-in-Live-clause-fault : goal.array-returns-in-Live-clause-fault
array-returns-in-Live-clause-fault t c =
    let read = c.in_ok-told.ensures.read in
    let own = c.in-Live.own in
    let line : ArrayLineIs read.line (array_own own) own.children own.dictionaries =
    array_read read.line (LiveLine (array_own own) own.children own.dictionaries) (read.is ∙ ap (λ (x : ArrayLine). Some (array_told x)) c.in-Live.is) in
    live_fault c.args.bytes.now c.args.cursor c.in_ok-told.next c.args.level own.children own.dictionaries read.line (array_own own) c.live.result
    c.requires.cursor read.low read.here read.cursor line c.live.ensures.fault

pub array-returns-in-Released-clause-read : goal.array-returns-in-Released-clause-read
array-returns-in-Released-clause-read t c =
    let read = c.in_ok-told.ensures.read in
    let line = array_read read.line ReleasedLine (read.is ∙ ap (λ (x : ArrayLine). Some (array_told x)) c.in-Released.is) in
    subst (ArrayRead c.args.bytes.now c.args.cursor c.in_ok-told.next c.args.level) (sym c.released.ensures)
    (released_is c.args.bytes.now c.args.cursor c.in_ok-told.next c.args.level read.line read.low read.here read.cursor line)

pub live-built-requires-clause-supply : goal.live-built-requires-clause-supply
live-built-requires-clause-supply t c =
    let split = c.with_dictionary-children in
    let m = parts_measure c.in-Ok.parts.items split.result.0.items split.result.1 split.ensures.all in
    omega (arith, m.cost, c.in-Ok.ensures.units, c.in_ok-views.ensures.units, c.args.pass.now.supply)

pub live-built-requires-clause-few_buffers : goal.live-built-requires-clause-few_buffers
live-built-requires-clause-few_buffers t c = omega (
  arith,
  length-buffers_of c.in_ok-views.views.items,
  c.in_ok-views.ensures.read.counted,
  c.requires.few_buffers,
)

pub live-built-requires-clause-low_children : goal.live-built-requires-clause-low_children
live-built-requires-clause-low_children t c =
    let split = c.with_dictionary-children in
    (depth_parts c.args.bytes.now c.in_ok-views.middle c.in-Ok.next (c.args.level + 1) (c.args.own.children + c.args.own.dictionaries) c.in-Ok.parts.items
    split.result.0.items split.result.1
    (omega (arith, c.requires.level)) split.ensures.all c.in-Ok.ensures.read).0

pub live-built-requires-clause-low_dictionary : goal.live-built-requires-clause-low_dictionary
live-built-requires-clause-low_dictionary t c =
    let split = c.with_dictionary-children in
    (depth_parts c.args.bytes.now c.in_ok-views.middle c.in-Ok.next (c.args.level + 1) (c.args.own.children + c.args.own.dictionaries) c.in-Ok.parts.items
    split.result.0.items split.result.1
    (omega (arith, c.requires.level)) split.ensures.all c.in-Ok.ensures.read).1

pub live-returns-in-Ok-built-clause-units : goal.live-returns-in-Ok-built-clause-units
live-returns-in-Ok-built-clause-units t c =
    let split = c.with_dictionary-children in
    let m = parts_measure c.in-Ok.parts.items split.result.0.items split.result.1 split.ensures.all in
    omega (arith, ap Cost c.in-Ok-built.ensures.tree, m.cost, c.in-Ok.ensures.units, c.in_ok-views.ensures.units, c.in-Ok-built.ensures.units)

pub live-returns-in-Ok-built-clause-nodes : goal.live-returns-in-Ok-built-clause-nodes
live-returns-in-Ok-built-clause-nodes t c =
    let split = c.with_dictionary-children in
    let m = parts_measure c.in-Ok.parts.items split.result.0.items split.result.1 split.ensures.all in
    omega (arith, ap Nodes c.in-Ok-built.ensures.tree, m.nodes, c.in-Ok.ensures.nodes, c.in_ok-views.ensures.nodes, c.in-Ok-built.ensures.nodes)

pub live-returns-in-Ok-built-clause-blocks : goal.live-returns-in-Ok-built-clause-blocks
live-returns-in-Ok-built-clause-blocks t c =
    let split = c.with_dictionary-children in
    let m = parts_measure c.in-Ok.parts.items split.result.0.items split.result.1 split.ensures.all in
    omega (arith, ap (Holds holds) c.in-Ok-built.ensures.tree, m.held, c.in-Ok.ensures.blocks, c.in_ok-views.ensures.blocks, c.in-Ok-built.ensures.blocks)

pub live-returns-in-Err-built-clause-units : goal.live-returns-in-Err-built-clause-units
live-returns-in-Err-built-clause-units t c =
    let split = c.with_dictionary-children in
    let m = parts_measure c.in-Ok.parts.items split.result.0.items split.result.1 split.ensures.all in
    omega (arith, m.cost, c.in-Ok.ensures.units, c.in_ok-views.ensures.units, c.in-Err-built.ensures.units)

pub live-returns-in-Err-clause-fault : goal.live-returns-in-Err-clause-fault
live-returns-in-Err-clause-fault t c =
    buffers_stop c.args.bytes.now c.args.cursor c.in_ok-views.middle c.args.own.buffers (buffers_of c.in_ok-views.views.items)
    (replicate (c.args.own.children + c.args.own.dictionaries) (AtArray (c.args.level + 1))) c.in-Err.fault c.requires.cursor c.in_ok-views.ensures.read
    c.in-Err.ensures.fault

pub live-with_dictionary-children-requires-clause-one : goal.live-with_dictionary-children-requires-clause-one
live-with_dictionary-children-requires-clause-one t c = c.requires.one

pub live-with_dictionary-children-requires-clause-enough : goal.live-with_dictionary-children-requires-clause-enough
live-with_dictionary-children-requires-clause-enough t c = omega (arith, c.in-Ok.ensures.read.counted)

pub live-built-requires-clause-units : goal.live-built-requires-clause-units
live-built-requires-clause-units t c =
    let buffers =
    left_buffers c.args.bytes.now c.args.cursor c.in_ok-views.middle c.args.own.buffers (buffers_of c.in_ok-views.views.items) c.in_ok-views.ensures.read in
    let parts =
    left_all c.args.bytes.now c.in_ok-views.middle c.in-Ok.next (c.args.level + 1) (c.args.own.children + c.args.own.dictionaries) c.in-Ok.parts.items
    c.in-Ok.ensures.read in
    omega (arith, buffers, parts, c.requires.room, c.in_ok-views.ensures.units, c.in-Ok.ensures.units)

pub arrays-array-requires : goal.arrays-array-requires
arrays-array-requires t c = grind (arith, steps, steps)

pub live-arrays-requires : goal.live-arrays-requires
live-arrays-requires t c = grind (arith, steps, steps)

pub live-let_go_all-requires : goal.live-let_go_all-requires
live-let_go_all-requires t c = grind (arith, steps, steps)

pub live-returns-in-Err-clause-units : goal.live-returns-in-Err-clause-units
live-returns-in-Err-clause-units t c = grind (arith, steps, steps)
