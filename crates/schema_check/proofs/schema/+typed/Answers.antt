use Rattle.std.proofs.Common.{rules, ◌≡◌, ◌+◌, ◌<◌, [], ◌∷◌, ◌++◌, length, get_or, map, arith}
use Rattle.tree_model.specs.promise.TreeData.{Released}
use Rattle.tree_model.specs.promise.TreeParts.{children_of}
use Rattle.data_types.specs.declared.typed.Typed.{Typed}
use Rattle.data_types.specs.declared.typed.Typed.TheOpen.{Typed-F}
use Rattle.data_types.specs.promise.TypedView.{typed_of}
use Rattle.data_types.specs.promise.Ways.{steps_of}
use Rattle.schema_check.proofs.SchemaParts.{typed-node, fault-kid, fault-renamed, kids-step, parts}
use Rattle.schema_check.proofs.schema.+typed.Goals as goal

pub typed_from-returns-clause-found : goal.typed_from-returns-clause-found
typed_from-returns-clause-found t c =
    let node : Typed-F Typed = record { kind = c.in_ok-kind.kind; dict = c.in_ok-dict.dict; kids = c.in_ok-kids.kids } in
    typed-node (c.args.path.now.depth + 1) c.args.schema.now node c.in_ok-kind.ensures.live c.in_ok-kind.ensures.found c.in_ok-kids.ensures.found
    c.in_ok-dict.ensures.found

pub typed_kids-returns-in_err-kid-clause-fault : goal.typed_kids-returns-in_err-kid-clause-fault
typed_kids-returns-in_err-kid-clause-fault t c =
    let children = children_of c.args.schema.now in
    let i = c.loop-i.i in
    let level = c.args.path.now.depth + 1 + 1 in
    let fault = c.in_err-kid.field-0.0 in
    let inside : i < length children = search rules in
    let way : steps_of c.down.result ≡ steps_of c.args.path.now ++ i ∷ [] = search rules in
    let same : c.down.result.depth + 1 ≡ level = omega (arith, c.down.ensures.depth) in
    let kid : c.child.result.now ≡ get_or children i Released = c.child.ensures in
    let below =
    fault-renamed (c.down.result.depth + 1) level c.child.result.now (get_or children i Released) (steps_of c.down.result) (steps_of c.args.path.now ++ i ∷ [])
    fault same kid way c.in_err-kid.ensures.fault in
    let all = fault-kid level children i (map typed_of c.loop-i.kids.items) (steps_of c.args.path.now) fault inside c.loop-i.invariant below in
    search rules

pub typed_kids-loop-i-preserved : goal.typed_kids-loop-i-preserved
typed_kids-loop-i-preserved t c =
    let children = children_of c.args.schema.now in
    let i = c.loop-i.i in
    let level = c.args.path.now.depth + 1 + 1 in
    let inside : i < length children = search rules in
    let same : c.down.result.depth + 1 ≡ level = omega (arith, c.down.ensures.depth) in
    kids-step (c.down.result.depth + 1) level children i c.child.result.now c.loop-i.kids.items c.push.new.self.items c.in_ok-kid.kid inside c.loop-i.invariant
    same c.child.ensures c.in_ok-kid.ensures.found c.in_ok-push.ensures.items

pub typed_from-returns-in_err-kids-clause-fault : goal.typed_from-returns-in_err-kids-clause-fault
typed_from-returns-in_err-kids-clause-fault t c = grind (arith, parts)

pub typed_from-returns-in_err-dict-clause-fault : goal.typed_from-returns-in_err-dict-clause-fault
typed_from-returns-in_err-dict-clause-fault t c = grind (arith, parts)

pub typed_dictionary-dictionary-requires : goal.typed_dictionary-dictionary-requires
typed_dictionary-dictionary-requires t c = grind (arith, parts)

pub typed_dictionary-down-requires : goal.typed_dictionary-down-requires
typed_dictionary-down-requires t c = grind (arith, parts)

pub typed_dictionary-typed_from-requires : goal.typed_dictionary-typed_from-requires
typed_dictionary-typed_from-requires t c = grind (arith, parts)

pub typed_dictionary-returns-clause-found : goal.typed_dictionary-returns-clause-found
typed_dictionary-returns-clause-found t c = grind (arith, parts)

pub typed_dictionary-returns-clause-fault : goal.typed_dictionary-returns-clause-fault
typed_dictionary-returns-clause-fault t c = grind (arith, parts)

pub typed_from-node_kind-requires : goal.typed_from-node_kind-requires
typed_from-node_kind-requires t c = grind (arith, parts)

pub typed_from-returns-in_err-kind-clause-found : goal.typed_from-returns-in_err-kind-clause-found
typed_from-returns-in_err-kind-clause-found t c = grind (arith, parts)

pub typed_from-returns-in_err-kind-clause-fault : goal.typed_from-returns-in_err-kind-clause-fault
typed_from-returns-in_err-kind-clause-fault t c = grind (arith, parts)

pub typed_from-typed_kids-requires : goal.typed_from-typed_kids-requires
typed_from-typed_kids-requires t c = grind (arith, parts)

pub typed_from-returns-in_err-kids-clause-found : goal.typed_from-returns-in_err-kids-clause-found
typed_from-returns-in_err-kids-clause-found t c = grind (arith, parts)

pub typed_from-typed_dictionary-requires : goal.typed_from-typed_dictionary-requires
typed_from-typed_dictionary-requires t c = grind (arith, parts)

pub typed_from-returns-in_err-dict-clause-found : goal.typed_from-returns-in_err-dict-clause-found
typed_from-returns-in_err-dict-clause-found t c = grind (arith, parts)

pub typed_from-returns-clause-fault : goal.typed_from-returns-clause-fault
typed_from-returns-clause-fault t c = grind (arith, parts)

pub typed_kids-n_children-count-requires : goal.typed_kids-n_children-count-requires
typed_kids-n_children-count-requires t c = grind (arith, parts)

pub typed_kids-overflow_cast-count : goal.typed_kids-overflow_cast-count
typed_kids-overflow_cast-count t c = grind (arith, parts)

pub typed_kids-returns-in_err-kids-clause-found : goal.typed_kids-returns-in_err-kids-clause-found
typed_kids-returns-in_err-kids-clause-found t c = grind (arith, parts)

pub typed_kids-returns-in_err-kids-clause-fault : goal.typed_kids-returns-in_err-kids-clause-fault
typed_kids-returns-in_err-kids-clause-fault t c = grind (arith, parts)

pub typed_kids-loop-i-init : goal.typed_kids-loop-i-init
typed_kids-loop-i-init t c = grind (arith, parts)

pub typed_kids-child-requires : goal.typed_kids-child-requires
typed_kids-child-requires t c = grind (arith, parts)

pub typed_kids-overflow_cast-i : goal.typed_kids-overflow_cast-i
typed_kids-overflow_cast-i t c = grind (arith, parts)

pub typed_kids-down-requires : goal.typed_kids-down-requires
typed_kids-down-requires t c = grind (arith, parts)

pub typed_kids-typed_from-requires : goal.typed_kids-typed_from-requires
typed_kids-typed_from-requires t c = grind (arith, parts)

pub typed_kids-returns-in_err-kid-clause-found : goal.typed_kids-returns-in_err-kid-clause-found
typed_kids-returns-in_err-kid-clause-found t c = grind (arith, parts)

pub typed_kids-returns-in_err-push-clause-found : goal.typed_kids-returns-in_err-push-clause-found
typed_kids-returns-in_err-push-clause-found t c = grind (arith, parts)

pub typed_kids-returns-in_err-push-clause-fault : goal.typed_kids-returns-in_err-push-clause-fault
typed_kids-returns-in_err-push-clause-fault t c = grind (arith, parts)

pub typed_kids-loop-i-smaller : goal.typed_kids-loop-i-smaller
typed_kids-loop-i-smaller t c = grind (arith, parts)

pub typed_kids-returns-clause-fault : goal.typed_kids-returns-clause-fault
typed_kids-returns-clause-fault t c = grind (arith, parts)
