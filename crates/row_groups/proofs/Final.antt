-- What the numbers of all items say of the groups.
use Rattle.std.proofs.Common.{◌≡◌, ◌∙◌, ◌+◌, ◌<◌, ◌++◌, ℕ, suc, Bool, true, false, List, [], ◌∷◌, All, length, map, get_or}
use Rattle.std.proofs.Common.{refl, sym, ap, subst, arith}
use Rattle.std.proofs.lemmas.Bool.Decides.{nat_tests}
use Rattle.std.proofs.lemmas.List.Folds.{flat_map-map}
use Rattle.std.proofs.lemmas.List.Sums.{position_or_len_is}
use Rattle.std.specs.List.{concat, flat_map, position_or_len}
use Rattle.std.specs.Prelude.{if◌then◌else◌, nat_eq}
use Rattle.data_types.specs.promise.Value.{Value, Null}
use Rattle.layout_rules.specs.promise.Values.{each}
use Rattle.array_laws.specs.Items.{AreApart}
use Rattle.row_groups.specs.Chains.{places_by_number}
use Rattle.data_types.specs.promise.Groups.{same, sums_from}
use Rattle.data_types.specs.Groups.{firsts_of, offsets_of, order_of, places, places_of}
use Rattle.row_groups.specs.Walk.{IsGrouped}
use Rattle.row_groups.proofs.Counted.{all-places}
use Rattle.row_groups.proofs.Eaches.{get_or-each}
use Rattle.row_groups.proofs.Ordered.{all-apart, all-below, any-default}
use Rattle.array_laws.proofs.WindowItems.{length-each}

-- ---- lists by their places

map-at : (g : ℕ → ℕ) (xs : List ℕ) → ((k : ℕ) → k < length xs → g (get_or xs k 0) ≡ get_or xs k 0) → map g xs ≡ xs
map-at g [] same = refl
map-at g (x ∷ xs) same = λ t. same 0 (omega arith) t ∷ map-at g xs (λ k small. same (suc k) (omega (arith, small))) t

map-map : {X Y Z : Type 0} (g : Y → Z) (f : X → Y) (xs : List X) → map g (map f xs) ≡ map (λ x. g (f x)) xs
map-map g f [] = refl
map-map g f (x ∷ xs) = ap (λ ys. g (f x) ∷ ys) (map-map g f xs)

concat-places : (h p : ℕ → List ℕ) (a : ℕ) (xs : List ℕ) → ((k : ℕ) → k < length xs → h (get_or xs k 0) ≡ p (a + k))
    → flat_map h xs ≡ concat (each p a (length xs))
concat-places h p a [] same = refl
concat-places h p a (x ∷ xs) same =
    let here : a + 0 ≡ a = omega arith in
    let head = same 0 (omega arith) ∙ ap p here in
    let tail = concat-places h p (suc a) xs (λ k small.
    let next : a + suc k ≡ suc a + k = omega arith in
    same (suc k) (omega (arith, small)) ∙ ap p next) in
    λ t. head t ++ tail t

map-places : (h p : ℕ → List ℕ) (a : ℕ) (xs : List ℕ) → ((k : ℕ) → k < length xs → h (get_or xs k 0) ≡ p (a + k))
    → map (λ x. length (h x)) xs ≡ map length (each p a (length xs))
map-places h p a [] same = refl
map-places h p a (x ∷ xs) same =
    let here : a + 0 ≡ a = omega arith in
    let head = same 0 (omega arith) ∙ ap p here in
    let tail = map-places h p (suc a) xs (λ k small.
    let next : a + suc k ≡ suc a + k = omega arith in
    same (suc k) (omega (arith, small)) ∙ ap p next) in
    λ t. length (head t) ∷ tail t

places-same : {X Y : Type 0} (f : X → Bool) (g : Y → Bool) (i : ℕ) (xs : List X) (ys : List Y) (d : X) (e : Y) → length xs ≡ length ys
    → ((j : ℕ) → j < length xs → f (get_or xs j d) ≡ g (get_or ys j e)) → places f i xs ≡ places g i ys
places-same f g i [] [] d e long same = refl
places-same f g i [] (y ∷ ys) d e long same = absurd (omega (arith, long))
places-same f g i (x ∷ xs) [] d e long same = absurd (omega (arith, long))
places-same f g i (x ∷ xs) (y ∷ ys) d e long same =
    let head : f x ≡ g y = same 0 (omega arith) in
    let tail = places-same f g (suc i) xs ys d e (omega (arith, long)) (λ j small. same (suc j) (omega (arith, small))) in
    λ t. if head t then i ∷ tail t else tail t

-- ---- the groups are those of the values

item-at : (item : ℕ → Value) (n j : ℕ) → j < n → get_or (each item 0 n) j Null ≡ item j
item-at item n j small = let here : 0 + j ≡ j = omega arith in get_or-each item 0 n j Null small ∙ ap item here

group-is : (item : ℕ → Value) (n : ℕ) (ns firsts : List ℕ) → IsGrouped item n ns firsts → (k : ℕ) → k < length firsts
    → places (same (item (get_or firsts k 0))) 0 (each item 0 n) ≡ places (nat_eq k) 0 ns
group-is item n ns firsts is k few =
    places-same (same (item (get_or firsts k 0))) (nat_eq k) 0 (each item 0 n) ns Null 0 (length-each item 0 n ∙ sym is.many) (λ j small.
    let near : j < n = omega (arith, small, length-each item 0 n) in
    ap (same (item (get_or firsts k 0))) (item-at item n j near) ∙ is.alike k j few near)

pub firsts-are : (item : ℕ → Value) (n : ℕ) (ns firsts : List ℕ) → IsGrouped item n ns firsts → firsts ≡ firsts_of (each item 0 n)
firsts-are item n ns firsts is =
    let vs = each item 0 n in
    let many = length-each item 0 n in
    sym (
    ap (map (λ key. position_or_len (same key) vs)) (sym is.values) ∙ map-map (λ key. position_or_len (same key) vs) item firsts
    ∙ map-at (λ f. position_or_len (same (item f)) vs) firsts (λ k few.
    let f = get_or firsts k 0 in
    let inside = is.inside k few in
    position_or_len_is (same (item f)) vs f Null (omega (arith, inside, many))
    (λ j small.
    let other = is.first k j few small in
    let no : nat_eq k (get_or ns j 0) ≡ false = grind (arith, nat_tests, other) in
    ap (same (item f)) (item-at item n j (omega (arith, small, inside))) ∙ is.alike k j few (omega (arith, small, inside)) ∙ no)
    (λ small.
    let own = is.own k few in
    let yes : nat_eq k (get_or ns f 0) ≡ true = grind (arith, nat_tests, own) in
    ap (same (item f)) (item-at item n f inside) ∙ is.alike k f few inside ∙ yes))
    )

pub order-is : (item : ℕ → Value) (n : ℕ) (ns firsts : List ℕ) → IsGrouped item n ns firsts
    → concat (places_by_number ns (length firsts)) ≡ order_of (each item 0 n)
order-is item n ns firsts is =
    let vs = each item 0 n in
    sym (
    ap (flat_map (λ key. places_of key vs)) (sym is.values) ∙ flat_map-map (λ key. places_of key vs) item firsts
    ∙ concat-places (λ f. places_of (item f) vs) (λ k. places (nat_eq k) 0 ns) 0 firsts (λ k few.
    let here : k ≡ 0 + k = omega arith in
    group-is item n ns firsts is k few ∙ ap (λ m. places (nat_eq m) 0 ns) here)
    )

pub offsets-are : (item : ℕ → Value) (n : ℕ) (ns firsts : List ℕ) → IsGrouped item n ns firsts
    → sums_from 0 (map length (places_by_number ns (length firsts))) ≡ offsets_of (each item 0 n)
offsets-are item n ns firsts is =
    let vs = each item 0 n in
    ap (sums_from 0) (sym (
    ap (map (λ key. length (places_of key vs))) (sym is.values) ∙ map-map (λ key. length (places_of key vs)) item firsts
    ∙ map-places (λ f. places_of (item f) vs) (λ k. places (nat_eq k) 0 ns) 0 firsts (λ k few.
    let here : k ≡ 0 + k = omega arith in
    group-is item n ns firsts is k few ∙ ap (λ m. places (nat_eq m) 0 ns) here)
    ))

-- ---- the firsts

pub firsts-inside : (item : ℕ → Value) (n : ℕ) (ns firsts : List ℕ) → IsGrouped item n ns firsts → All (λ i. i < n) firsts
firsts-inside item n ns firsts is = λ k d few. subst (λ i. i < n) (any-default firsts k 0 d few) (is.inside k few)

pub firsts-apart : (item : ℕ → Value) (n : ℕ) (ns firsts : List ℕ) → IsGrouped item n ns firsts → AreApart firsts
firsts-apart item n ns firsts is = λ i j less few e.
    omega (arith, less, is.own i (omega (arith, less, few)), is.own j few, ap (λ f. get_or ns f 0) e)

-- ---- the order

pub numbers-below : (item : ℕ → Value) (n : ℕ) (ns firsts : List ℕ) → IsGrouped item n ns firsts → All (λ k. k < length firsts) ns
numbers-below item n ns firsts is = λ j d small.
    subst (λ k. k < length firsts) (any-default ns j 0 d small) (is.below j (omega (arith, small, is.many)))

pub order-inside : (item : ℕ → Value) (n : ℕ) (ns firsts : List ℕ) → IsGrouped item n ns firsts
    → All (λ i. i < n) (concat (places_by_number ns (length firsts)))
order-inside item n ns firsts is = λ k d small.
    let xs = concat (places_by_number ns (length firsts)) in
    let below = all-below ns (length firsts) k small in
    omega (arith, below.0, is.many, any-default xs k 0 d small)

pub order-apart : (ns firsts : List ℕ) → AreApart (concat (places_by_number ns (length firsts)))
order-apart ns firsts = all-apart ns (length firsts)

pub order-whole : (item : ℕ → Value) (n : ℕ) (ns firsts : List ℕ) → IsGrouped item n ns firsts
    → length (concat (places_by_number ns (length firsts))) ≡ n
order-whole item n ns firsts is = all-places (length firsts) ns (numbers-below item n ns firsts is) ∙ is.many
