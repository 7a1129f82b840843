use Rattle.std.proofs.Common.{rules, ◌≡◌, ◌∙◌, ◌<◌, ◌++◌, [], ◌∷◌, length, take, ap, sym, subst, append_assoc, OnOk}
use Rattle.tree_model.specs.promise.TreeParts.{IsLive, children_of}
use Rattle.tree_model.specs.promise.TreeData.{trees}
use Rattle.tree_model.specs.Tree.{Depth}
use Rattle.raw_schema.specs.promise.Members.{members_of}
use Rattle.stream_face.specs.promise.Shown.{names_of, names_of_all}
use Rattle.pipe_top.proofs.NodeNames.{depth-child, names-alone, names-below, names-more}
use Rattle.pipe_top.proofs.kept_names.+names.Goals as goal

pub add_child_names-add_names-requires : goal.add_child_names-add_names-requires
add_child_names-add_names-requires t c =
    let schema = c.args.schema.now in
    let i = c.loop-i.i in
    let inside : i < length (children_of schema) = search rules in
    let depth = depth-child schema i inside in
    let is = ap Depth c.child.ensures in
    search rules

pub add_child_names-loop-i-preserved : goal.add_child_names-loop-i-preserved
add_child_names-loop-i-preserved t c =
    let schema = c.args.schema.now in
    let children = children_of schema in
    let before = c.args.names.now.items in
    let i = c.loop-i.i in
    let inside : i < length children = search rules in
    let so_far = names_of_all (trees (take i children)) in
    c.in_ok-add_names.ensures
    ∙ ap (λ ns. ns ++ names_of c.child.result.now) c.loop-i.invariant
    ∙ append_assoc before so_far (names_of c.child.result.now)
    ∙ ap (λ ns. before ++ ns) (ap (λ child. so_far ++ names_of child) c.child.ensures ∙ sym (names-more children i inside))

pub add_names-returns-in-None : goal.add_names-returns-in-None
add_names-returns-in-None t c =
    let schema = c.args.schema.now in
    let before = c.args.names.now.items in
    let below = names_of_all (trees (children_of schema)) in
    let name = (members_of schema).name in
    let live : IsLive schema = search rules in
    c.in_ok-add_child_names.ensures
    ∙ ap (λ ns. ns ++ below) (c.in_ok-push.ensures.items ∙ ap (λ n. before ++ n ∷ []) c.in_ok-name_of.ensures)
    ∙ append_assoc before (name ∷ []) below
    ∙ ap (λ ns. before ++ ns) (sym (names-alone schema live c.in-None.ensures))

pub add_names-returns-in-Some : goal.add_names-returns-in-Some
add_names-returns-in-Some t c =
    let schema = c.args.schema.now in
    let dictionary = c.in-Some.dictionary.now in
    let before = c.args.names.now.items in
    let below = names_of_all (trees (children_of schema)) in
    let name = (members_of schema).name in
    let live : IsLive schema = search rules in
    let node : c.add_child_names.new.names.items ≡ before ++ (name ∷ below) =
    c.in_ok-add_child_names.ensures
    ∙ ap (λ ns. ns ++ below) (c.in_ok-push.ensures.items ∙ ap (λ n. before ++ n ∷ []) c.in_ok-name_of.ensures)
    ∙ append_assoc before (name ∷ []) below in
    let all =
    ap (λ ns. ns ++ names_of dictionary) node
    ∙ append_assoc before (name ∷ below) (names_of dictionary)
    ∙ ap (λ ns. before ++ ns) (sym (names-below schema dictionary live c.in-Some.ensures)) in
    subst (λ ns. OnOk c.add_names.result (c.add_names.new.names.items ≡ ns)) all c.add_names.ensures
