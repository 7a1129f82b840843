-- The lines of a report, one part of a tree after another.
use Rattle.std.proofs.Common.{◌≡◌, ℕ, suc, zero, ◌+◌, ◌<◌, ◌≤◌, List, [], ◌∷◌, ◌++◌, length, map, get_or, drop, Option, Some, None, refl, sym, ap, ◌∙◌, arith}
use Rattle.std.proofs.Common.{append_assoc}
use Rattle.std.proofs.lemmas.Grind.{flat_map-append}
use Rattle.std.proofs.lemmas.List.{append-nil}
use Rattle.tree_model.specs.promise.TreeData.{Released, Live, trees}
use Rattle.tree_model.specs.promise.TreeParts.{IsLive, children_of}
use Rattle.raw_array.specs.promise.Members.{ArrayTree, members_of}
use Rattle.data_types.specs.declared.typed.Typed.{Typed, out-Typed}
use Rattle.data_types.specs.promise.TypedView.{typed_of}
use Rattle.data_types.specs.TypedView.{kind_of}
use Rattle.layout_check.specs.NodeView.{live_node}
use Rattle.layout_rules.specs.promise.Layout.{layout_of}
use Rattle.layout_rules.specs.promise.Rules.{null_items}
use Rattle.data_types.specs.promise.KindTrees.{KindTree}
use Rattle.data_types.specs.promise.Ways.{Steps}
use Rattle.layout_rules.specs.promise.Walk.{Visit, visits, walks_of, walk_children}
use Rattle.layout_rules.specs.Walk.{nulls_in}
use Rattle.data_types.proofs.Levels.{typed_out}
use Rattle.tree_text.specs.promise.Report.{visit_text}
use Rattle.tree_text.specs.Report.{node_line, visits_text}
use Rattle.tree_text.specs.Below.{children_visits, dictionary_visits}

pub text-append : (xs ys : List Visit) → visits_text (xs ++ ys) ≡ visits_text xs ++ visits_text ys
text-append xs ys = flat_map-append (λ (visit : Visit). visit_text visit.path visit.node) xs ys

-- one child more of a walk that has come to a place
walk_step : (kids : List Typed) (d : Typed) (children : List ArrayTree) (i k : ℕ) (path : Steps) → i < length kids → length children ≡ length kids
    → walk_children (drop i (walks_of (trees (map typed_of kids)))) k path (drop i children)
    ≡ visits (typed_of (get_or kids i d)) (path ++ k ∷ []) (get_or children i Released)
    ++ walk_children (drop (suc i) (walks_of (trees (map typed_of kids)))) (suc k) path (drop (suc i) children)
walk_step [] d children i k path inside same = absurd (omega (arith, inside))
walk_step (kid ∷ kids) d [] i k path inside same = absurd (omega (arith, same))
walk_step (kid ∷ kids) d (child ∷ children) zero k path inside same = refl
walk_step (kid ∷ kids) d (child ∷ children) (suc i) k path inside same = walk_step kids d children i k path (omega (arith, inside)) (omega (arith, same))

walk_end : (kids : List Typed) (children : List ArrayTree) (i k : ℕ) (path : Steps) → length kids ≤ i
    → walk_children (drop i (walks_of (trees (map typed_of kids)))) k path children ≡ []
walk_end [] children zero k path past = refl
walk_end [] children (suc i) k path past = refl
walk_end (kid ∷ kids) children zero k path past = absurd (omega (arith, past))
walk_end (kid ∷ kids) children (suc i) k path past = walk_end kids children i k path (omega (arith, past))

-- the text and what is still to be written are the whole
pub child_more : (kids : List Typed) (i : ℕ) (d : Typed) (path : Steps) (array : ArrayTree) (before after whole : List ℕ) → i < length kids
    → length (children_of array) ≡ length kids
    → before ++ visits_text (children_visits kids i path array) ≡ whole
    → after ≡ before ++ visits_text (visits (typed_of (get_or kids i d)) (path ++ i ∷ []) (get_or (children_of array) i Released))
    → after ++ visits_text (children_visits kids (i + 1) path array) ≡ whole
child_more kids i d path array before after whole inside same so_far written =
    let child = visits_text (visits (typed_of (get_or kids i d)) (path ++ i ∷ []) (get_or (children_of array) i Released)) in
    let next : i + 1 ≡ suc i = omega arith in
    let rest = children_visits kids (suc i) path array in
    ap (λ (n : ℕ). after ++ visits_text (children_visits kids n path array)) next
    ∙ ap (λ (t : List ℕ). t ++ visits_text rest) written
    ∙ append_assoc before child (visits_text rest)
    ∙ ap (λ (t : List ℕ). before ++ t)
    (sym (text-append (visits (typed_of (get_or kids i d)) (path ++ i ∷ []) (get_or (children_of array) i Released)) rest)
    ∙ ap visits_text (sym (walk_step kids d (children_of array) i i path inside same)))
    ∙ so_far

pub children_end : (kids : List Typed) (i : ℕ) (path : Steps) (array : ArrayTree) (text whole : List ℕ) → length kids ≤ i
    → text ++ visits_text (children_visits kids i path array) ≡ whole → text ≡ whole
children_end kids i path array text whole past so_far =
    let none = walk_end kids (drop i (children_of array)) i i path past in
    sym (append-nil text) ∙ ap (λ (vs : List Visit). text ++ visits_text vs) (sym none) ∙ so_far

-- ---- a node and what is below it

pub nulls_is : (t : Typed) (array : ArrayTree) → IsLive array → nulls_in (typed_of t) array ≡ null_items (layout_of (kind_of t)) (members_of array)
nulls_is t Released live = absurd live
nulls_is t (Live own children dictionary) live = ap (λ (x : KindTree). nulls_in x (Live own children dictionary)) (typed_out t)

pub visits_is : (t : Typed) (path : Steps) (array : ArrayTree) → IsLive array
    → visits_text (visits (typed_of t) path array) ≡ node_line path (live_node t array)
    ++ (visits_text (children_visits (out-Typed t).kids.items 0 path array) ++ visits_text (dictionary_visits (out-Typed t).dict path array))
visits_is t path Released live = absurd live
visits_is t path (Live own children dictionary) live =
    let array = Live own children dictionary in
    ap (λ (x : KindTree). visits_text (visits x path array)) (typed_out t)
    ∙ ap (λ (x : List ℕ). node_line path (live_node t array) ++ x)
    (text-append (children_visits (out-Typed t).kids.items 0 path array) (dictionary_visits (out-Typed t).dict path array))

pub ruleset node_steps = (nulls_is)

pub ruleset tree_steps = (append_assoc, visits_is)
