-- No rule fails at any node exactly where there is no first fault.
use Rattle.std.proofs.Common.{◌≡◌, List, [], ◌∷◌, Option, None, Some, refl, ap, ◌∙◌, sym}
use Rattle.std.specs.List.{All}
use Rattle.std.specs.Option.{option_or}
use Rattle.std.proofs.lemmas.List.Elements.{All-nil, All-cons, All-head, All-tail}
use Rattle.raw_array.specs.promise.Members.{ArrayTree}
use Rattle.data_types.specs.promise.KindTrees.{KindTree}
use Rattle.layout_rules.specs.promise.Walk.{visits, visit_fault, first_some, first_fault, LayoutOk}

pub left-none : {X : Type 0} → (a b : Option X) → option_or a b ≡ None → a ≡ None
left-none None b e = refl
left-none (Some x) b e = e

pub right-none : {X : Type 0} → (a b : Option X) → a ≡ None → option_or a b ≡ None → b ≡ None
right-none a b n e = sym (ap (λ o. option_or o b) n) ∙ e

first_some-all : {X Y : Type 0} → (f : X → Option Y) (xs : List X) → first_some f xs ≡ None → All (λ x. f x ≡ None) xs
first_some-all f [] e = All-nil (λ x. f x ≡ None)
first_some-all f (x ∷ xs) e =
    let head = left-none (f x) (first_some f xs) e in
    All-cons (λ x. f x ≡ None) x xs head (first_some-all f xs (right-none (f x) (first_some f xs) head e))

all-first_some : {X Y : Type 0} → (f : X → Option Y) (xs : List X) → All (λ x. f x ≡ None) xs → first_some f xs ≡ None
all-first_some f [] h = refl
all-first_some f (x ∷ xs) h =
    ap (λ o. option_or o (first_some f xs)) (All-head (λ x. f x ≡ None) x xs h)
    ∙ all-first_some f xs (All-tail (λ x. f x ≡ None) x xs h)

pub first_fault-lawful : (typed : KindTree) (array : ArrayTree) → first_fault typed array ≡ None → LayoutOk typed array
first_fault-lawful typed array e = first_some-all visit_fault (visits typed [] array) e

pub lawful-first_fault : (typed : KindTree) (array : ArrayTree) → LayoutOk typed array → first_fault typed array ≡ None
lawful-first_fault typed array h = all-first_some visit_fault (visits typed [] array) h

pub ruleset lawful = (first_fault-lawful, lawful-first_fault)
