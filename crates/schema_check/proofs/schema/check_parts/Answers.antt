use Rattle.std.proofs.Common.{rules, ◌≡◌, ◌+◌, ◌≤◌, refl, sym, subst, true, false, arith}
use Rattle.tree_model.specs.promise.TreeData.{trees, maybe_tree}
use Rattle.tree_model.specs.promise.TreeParts.{children_of, dictionary_of}
use Rattle.data_types.specs.promise.Ways.{steps_of}
use Rattle.schema_check.specs.promise.Schemas.{ChildrenFit, IndexFits, MapFits}
use Rattle.schema_check.specs.SchemaAnswers.{FaultHere}
use Rattle.schema_check.proofs.SchemaFails.{refuted, granted, fails-children, fails-index, fails-map, fails}
use Rattle.schema_check.proofs.schema.check_parts.Goals as goal

pub returns-then-not-children_fit-clause-fault : goal.returns-then-not-children_fit-clause-fault
returns-then-not-children_fit-clause-fault c =
    let kind = c.args.kind.now in
    let schema = c.args.schema.now in
    let level = c.args.path.now.depth + 1 in
    let low : level ≤ 64 = omega (arith, c.requires.level) in
    let not_children : c.children_fit.result ≡ false = search rules in
    let unmet = refuted c.children_fit.result (ChildrenFit kind (trees (children_of schema))) not_children c.children_fit.ensures.1 in
    subst (FaultHere level schema (steps_of c.args.path.now)) (sym c.at.ensures)
    (refl, fails-children level schema c.requires.live low kind c.requires.format c.requires.meta unmet)

pub returns-then-not-index_fits-clause-fault : goal.returns-then-not-index_fits-clause-fault
returns-then-not-index_fits-clause-fault c =
    let kind = c.args.kind.now in
    let schema = c.args.schema.now in
    let level = c.args.path.now.depth + 1 in
    let low : level ≤ 64 = omega (arith, c.requires.level) in
    let is_children : c.children_fit.result ≡ true = search rules in
    let children = granted c.children_fit.result (ChildrenFit kind (trees (children_of schema))) is_children c.children_fit.ensures.0 in
    let not_index : c.index_fits.result ≡ false = search rules in
    let unmet = refuted c.index_fits.result (IndexFits kind (maybe_tree (dictionary_of schema))) not_index c.index_fits.ensures.1 in
    subst (FaultHere level schema (steps_of c.args.path.now)) (sym c.at-then-not-index_fits.ensures)
    (refl, fails-index level schema c.requires.live low kind c.requires.format c.requires.meta children unmet)

pub returns-then-not-map_fits-clause-fault : goal.returns-then-not-map_fits-clause-fault
returns-then-not-map_fits-clause-fault c =
    let kind = c.args.kind.now in
    let schema = c.args.schema.now in
    let level = c.args.path.now.depth + 1 in
    let low : level ≤ 64 = omega (arith, c.requires.level) in
    let is_children : c.children_fit.result ≡ true = search rules in
    let children = granted c.children_fit.result (ChildrenFit kind (trees (children_of schema))) is_children c.children_fit.ensures.0 in
    let is_index : c.index_fits.result ≡ true = search rules in
    let index = granted c.index_fits.result (IndexFits kind (maybe_tree (dictionary_of schema))) is_index c.index_fits.ensures.0 in
    let not_map : c.map_fits.result ≡ false = search rules in
    let unmet = refuted c.map_fits.result (MapFits kind (trees (children_of schema))) not_map c.map_fits.ensures.1 in
    subst (FaultHere level schema (steps_of c.args.path.now)) (sym c.at-then-not-map_fits.ensures)
    (refl, fails-map level schema c.requires.live low kind c.requires.format c.requires.meta children index unmet)

pub children_fit-requires : goal.children_fit-requires
children_fit-requires c = grind (arith, fails)

pub at-requires : goal.at-requires
at-requires c = grind (arith, fails)

pub returns-then-not-children_fit-clause-index : goal.returns-then-not-children_fit-clause-index
returns-then-not-children_fit-clause-index c = grind (arith, fails)

pub returns-then-not-children_fit-clause-map : goal.returns-then-not-children_fit-clause-map
returns-then-not-children_fit-clause-map c = grind (arith, fails)

pub index_fits-requires : goal.index_fits-requires
index_fits-requires c = grind (arith, fails)

pub at-requires-then-not-index_fits : goal.at-requires-then-not-index_fits
at-requires-then-not-index_fits c = grind (arith, fails)

pub returns-then-not-index_fits-clause-children : goal.returns-then-not-index_fits-clause-children
returns-then-not-index_fits-clause-children c = grind (arith, fails)

pub returns-then-not-index_fits-clause-index : goal.returns-then-not-index_fits-clause-index
returns-then-not-index_fits-clause-index c = grind (arith, fails)

pub returns-then-not-index_fits-clause-map : goal.returns-then-not-index_fits-clause-map
returns-then-not-index_fits-clause-map c = grind (arith, fails)

pub map_fits-requires-clause-live : goal.map_fits-requires-clause-live
map_fits-requires-clause-live c = grind (arith, fails)

pub map_fits-requires-clause-children : goal.map_fits-requires-clause-children
map_fits-requires-clause-children c = grind (arith, fails)

pub at-requires-then-not-map_fits : goal.at-requires-then-not-map_fits
at-requires-then-not-map_fits c = grind (arith, fails)

pub returns-then-not-map_fits-clause-children : goal.returns-then-not-map_fits-clause-children
returns-then-not-map_fits-clause-children c = grind (arith, fails)

pub returns-then-not-map_fits-clause-index : goal.returns-then-not-map_fits-clause-index
returns-then-not-map_fits-clause-index c = grind (arith, fails)

pub returns-then-not-map_fits-clause-map : goal.returns-then-not-map_fits-clause-map
returns-then-not-map_fits-clause-map c = grind (arith, fails)

pub returns-clause-children : goal.returns-clause-children
returns-clause-children c = grind (arith, fails)

pub returns-clause-index : goal.returns-clause-index
returns-clause-index c = grind (arith, fails)

pub returns-clause-map : goal.returns-clause-map
returns-clause-map c = grind (arith, fails)

pub returns-clause-fault : goal.returns-clause-fault
returns-clause-fault c = grind (arith, fails)
