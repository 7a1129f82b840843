use Rattle.layout_check.proofs.Faults.{walks}
use Rattle.std.proofs.Common.{rules, ◌≡◌, ◌<◌, ◌++◌, ◌∷◌, [], length, get_or, arith}
use Rattle.tree_model.specs.promise.TreeParts.{children_of}
use Rattle.data_types.proofs.Levels.{levels-kid, kid-ok}
use Rattle.layout_check.proofs.Passes.{none-step}
use Rattle.layout_check.proofs.walk.+passes.Goals as goal

pub children_pass-passes-requires : goal.children_pass-passes-requires
children_pass-passes-requires t c =
    let kids = c.args.kids.now in
    let i = c.loop-i.i in
    let kid = c.index-kids-i.result in
    let inside : i < length kids = search rules in
    let is : get_or kids i kid ≡ kid = search rules in
    let levels = levels-kid kids i kid inside in
    let ok = kid-ok kids i kid inside c.requires.types in
    search rules

pub children_pass-returns-then-not-passes : goal.children_pass-returns-then-not-passes
children_pass-returns-then-not-passes t c path =
    let kids = c.args.kids.now in
    let i = c.loop-i.i in
    let kid = c.index-kids-i.result in
    let inside : i < length kids = search rules in
    let is : get_or kids i kid ≡ kid = search rules in
    let step = none-step kids i kid path (children_of c.args.array.now) inside c.requires.children in
    let here = c.passes.ensures (path ++ i ∷ []) in
    let whole = c.loop-i.invariant path in
    search rules

pub children_pass-loop-i-preserved : goal.children_pass-loop-i-preserved
children_pass-loop-i-preserved t c path =
    let kids = c.args.kids.now in
    let i = c.loop-i.i in
    let kid = c.index-kids-i.result in
    let inside : i < length kids = search rules in
    let is : get_or kids i kid ≡ kid = search rules in
    let step = none-step kids i kid path (children_of c.args.array.now) inside c.requires.children in
    let here = c.passes.ensures (path ++ i ∷ []) in
    let whole = c.loop-i.invariant path in
    search rules

pub passes-own_passes-requires : goal.passes-own_passes-requires
passes-own_passes-requires t c = grind (arith, walks, walks)

pub passes-children_pass-requires : goal.passes-children_pass-requires
passes-children_pass-requires t c = grind (arith, walks, walks)

pub passes-dictionary_passes-requires : goal.passes-dictionary_passes-requires
passes-dictionary_passes-requires t c = grind (arith, walks, walks)
