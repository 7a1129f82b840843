-- The first child at fault, one by one.
use Rattle.std.proofs.Common.{◌≡◌, ℕ, suc, ◌+◌, ◌<◌, ◌≤◌, List, [], ◌∷◌, length, get_or, drop, map, true, false, subst, Option, None, Some, refl, ap, ◌∙◌, arith}
use Rattle.std.specs.List.{AllZip}
use Rattle.std.specs.Option.{option_or}
use Rattle.std.proofs.lemmas.List.{drop_more, drop_all, length-map}
use Rattle.tree_model.specs.promise.TreeData.{Released}
use Rattle.raw_array.specs.promise.Members.{ArrayTree}
use Rattle.data_types.specs.declared.typed.Typed.{Typed}
use Rattle.std.specs.Prelude.{All}
use Rattle.std.proofs.lemmas.List.Elements.{All-get_or}
use Rattle.data_types.specs.promise.KindTrees.{KindTree}
use Rattle.data_types.specs.KindTrees.{TypedOk}
use Rattle.data_types.specs.promise.TypedView.{typed_of}
use Rattle.data_types.proofs.Levels.{get_or-typed}
use Rattle.layout_rules.specs.promise.Walk.{Fault, first_fault, LayoutOk}
use Rattle.layout_rules.proofs.Lawful.{first_fault-lawful, lawful-first_fault, left-none, right-none}
use Rattle.root_check.specs.promise.Children.{ChildFault, children_fault}
use Rattle.root_check.specs.Children.{at_child}

at_child-none : (k : ℕ) (fault : Option Fault) → at_child k fault ≡ None → fault ≡ None
at_child-none k None e = refl
at_child-none k (Some fault) e = absurd (cc)

pub none-lawful : (kids : List KindTree) (k : ℕ) (children : List ArrayTree) → length children ≡ length kids → children_fault kids k children ≡ None
    → AllZip LayoutOk kids children
none-lawful [] k [] same e = tt
none-lawful [] k (child ∷ rest) same e = absurd (omega arith)
none-lawful (kid ∷ kids) k [] same e = absurd (omega arith)
none-lawful (kid ∷ kids) k (child ∷ rest) same e =
    let here = left-none (at_child k (first_fault kid child)) (children_fault kids (suc k) rest) e in
    let later = right-none (at_child k (first_fault kid child)) (children_fault kids (suc k) rest) here e in
    (first_fault-lawful kid child (at_child-none k (first_fault kid child) here), none-lawful kids (suc k) rest (omega arith) later)

pub lawful-none : (kids : List KindTree) (k : ℕ) (children : List ArrayTree) → AllZip LayoutOk kids children → children_fault kids k children ≡ None
lawful-none [] k children all = refl
lawful-none (kid ∷ kids) k [] all = absurd all
lawful-none (kid ∷ kids) k (child ∷ rest) all =
    ap (λ o. option_or (at_child k o) (children_fault kids (suc k) rest)) (lawful-first_fault kid child all.0)
    ∙ lawful-none kids (suc k) rest all.1

pub children_fault-step : (kids : List Typed) (i : ℕ) (d : Typed) (children : List ArrayTree) → i < length kids → length children ≡ length kids
    → children_fault (drop i (map typed_of kids)) i (drop i children)
    ≡ option_or (at_child i (first_fault (typed_of (get_or kids i d)) (get_or children i Released)))
    (children_fault (drop (i + 1) (map typed_of kids)) (i + 1) (drop (i + 1) children))
children_fault-step kids i d children h same =
    ap (λ ks. children_fault ks i (drop i children)) (drop_more (map typed_of kids) i Released (omega (arith, length-map kids typed_of))
    ∙ ap (λ k. k ∷ drop (i + 1) (map typed_of kids)) (get_or-typed kids i d h))
    ∙ ap (children_fault (typed_of (get_or kids i d) ∷ drop (i + 1) (map typed_of kids)) i) (drop_more children i Released (omega arith))
    ∙ ap (λ n. option_or (at_child i (first_fault (typed_of (get_or kids i d)) (get_or children i Released)))
    (children_fault (drop (i + 1) (map typed_of kids)) n (drop (i + 1) children))) (omega arith)

pub children_fault-end : (kids : List Typed) (i : ℕ) (children : List ArrayTree) → length kids ≤ i
    → children_fault (drop i (map typed_of kids)) i (drop i children) ≡ None
children_fault-end kids i children h =
    ap (λ ks. children_fault ks i (drop i children)) (drop_all i (map typed_of kids) (omega (arith, length-map kids typed_of)))

pub valid_kid : (kids : List Typed) (i : ℕ) (kid : Typed) → i < length kids → get_or kids i kid ≡ kid → All TypedOk (map typed_of kids)
    → TypedOk (typed_of kid)
valid_kid kids i kid inside is all =
    subst TypedOk (get_or-typed kids i kid inside ∙ ap typed_of is)
    (All-get_or TypedOk (map typed_of kids) i Released (omega (arith, inside, length-map kids typed_of)) all)

-- the first fault is at this child
pub found_here : (kids : List Typed) (i : ℕ) (kid : Typed) (children : List ArrayTree) (fault : Fault) → i < length kids → length children ≡ length kids
    → get_or kids i kid ≡ kid → first_fault (typed_of kid) (get_or children i Released) ≡ Some fault
    → children_fault (drop i (map typed_of kids)) i (drop i children) ≡ Some (record { child = i; fault = fault })
found_here kids i kid children fault inside same is e =
    children_fault-step kids i kid children inside same
    ∙ ap (λ t. option_or (at_child i (first_fault (typed_of t) (get_or children i Released)))
    (children_fault (drop (i + 1) (map typed_of kids)) (i + 1) (drop (i + 1) children))) is
    ∙ ap (λ o. option_or (at_child i o) (children_fault (drop (i + 1) (map typed_of kids)) (i + 1) (drop (i + 1) children))) e

-- it is behind it
pub none_here : (kids : List Typed) (i : ℕ) (kid : Typed) (children : List ArrayTree) → i < length kids → length children ≡ length kids
    → get_or kids i kid ≡ kid → first_fault (typed_of kid) (get_or children i Released) ≡ None
    → children_fault (drop i (map typed_of kids)) i (drop i children) ≡ children_fault (drop (i + 1) (map typed_of kids)) (i + 1) (drop (i + 1) children)
none_here kids i kid children inside same is e =
    children_fault-step kids i kid children inside same
    ∙ ap (λ t. option_or (at_child i (first_fault (typed_of t) (get_or children i Released)))
    (children_fault (drop (i + 1) (map typed_of kids)) (i + 1) (drop (i + 1) children))) is
    ∙ ap (λ o. option_or (at_child i o) (children_fault (drop (i + 1) (map typed_of kids)) (i + 1) (drop (i + 1) children))) e

-- ---- what an answer says of all children

pub not_lawful : (kids : List KindTree) (children : List ArrayTree) (fault : ChildFault) → children_fault kids 0 children ≡ Some fault
    → (false ≡ true → AllZip LayoutOk kids children) × (AllZip LayoutOk kids children → false ≡ true)
not_lawful kids children fault e = (λ never. absurd (cc), λ all. absurd (let none = lawful-none kids 0 children all in cc))

pub all_lawful : (kids : List Typed) (i : ℕ) (children : List ArrayTree) → length kids ≤ i → length children ≡ length kids
    → children_fault (map typed_of kids) 0 children ≡ children_fault (drop i (map typed_of kids)) i (drop i children)
    → (true ≡ true → AllZip LayoutOk (map typed_of kids) children) × (AllZip LayoutOk (map typed_of kids) children → true ≡ true)
all_lawful kids i children ended same e = (
  λ yes. none-lawful (map typed_of kids) 0 children (omega (arith, same, length-map kids typed_of)) (e ∙ children_fault-end kids i children ended),
  λ all. refl,
)
