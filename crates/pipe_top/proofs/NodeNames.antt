-- The names of a live node's parts.
use Rattle.std.proofs.Common.{◌≡◌, ◌∙◌, ◌+◌, ◌<◌, ◌++◌, ℕ, List, [], ◌∷◌, length, get_or, take, None, Some}
use Rattle.std.proofs.Common.{refl, ap, sym, arith, append-nil, append_assoc}
use Rattle.std.proofs.lemmas.List.{take_more}
use Rattle.tree_model.specs.promise.TreeData.{Released, Live, trees, tree_list, absent, present}
use Rattle.tree_model.specs.promise.TreeParts.{IsLive, children_of, dictionary_of, child_at}
use Rattle.tree_model.specs.Tree.{Depth, depth_of_all}
use Rattle.tree_model.proofs.Lists.{trees-tree_list}
use Rattle.tree_model.proofs.Measures.{Depth-get_or}
use Rattle.raw_schema.specs.promise.Members.{SchemaTree, members_of}
use Rattle.stream_face.specs.promise.Shown.{names_of, names_of_all}

-- without a dictionary
pub names-alone : (t : SchemaTree) → IsLive t → dictionary_of t ≡ None → names_of t ≡ (members_of t).name ∷ names_of_all (trees (children_of t))
names-alone Released live none = absurd live
names-alone (Live m kids absent) live none =
    append-nil (m.name ∷ names_of_all kids) ∙ ap (λ ts. m.name ∷ names_of_all ts) (sym (trees-tree_list kids))
names-alone (Live m kids (present d)) live none = absurd (cc)

-- with a dictionary
pub names-below : (t d : SchemaTree) → IsLive t → dictionary_of t ≡ Some d
    → names_of t ≡ ((members_of t).name ∷ names_of_all (trees (children_of t))) ++ names_of d
names-below Released d live some = absurd live
names-below (Live m kids absent) d live some = absurd (cc)
names-below (Live m kids (present e)) d live some =
    ap (λ ts. (m.name ∷ names_of_all ts) ++ names_of e) (sym (trees-tree_list kids))
    ∙ ap (λ x. (m.name ∷ names_of_all (trees (tree_list kids))) ++ names_of x) (let same : e ≡ d = cc in same)

names-append : (xs ys : List SchemaTree) → names_of_all (trees (xs ++ ys)) ≡ names_of_all (trees xs) ++ names_of_all (trees ys)
names-append [] ys = refl
names-append (x ∷ xs) ys =
    ap (λ ns. names_of x ++ ns) (names-append xs ys) ∙ sym (append_assoc (names_of x) (names_of_all (trees xs)) (names_of_all (trees ys)))

-- one child more
pub names-more : (xs : List SchemaTree) (i : ℕ) → i < length xs
    → names_of_all (trees (take (i + 1) xs)) ≡ names_of_all (trees (take i xs)) ++ names_of (get_or xs i Released)
names-more xs i within =
    ap (λ ts. names_of_all (trees ts)) (take_more xs i Released within)
    ∙ names-append (take i xs) (get_or xs i Released ∷ [])
    ∙ ap (λ ns. names_of_all (trees (take i xs)) ++ ns) (append-nil (names_of (get_or xs i Released)))

-- a child has fewer levels
pub depth-child : (t : SchemaTree) (i : ℕ) → i < length (children_of t) → Depth (child_at t i) < Depth t
depth-child Released i within = absurd (omega (arith, within))
depth-child (Live m kids dictionary) i within =
    let deepest = Depth-get_or (tree_list kids) i within in
    let all = ap depth_of_all (trees-tree_list kids) in
    omega (arith, deepest, all)
