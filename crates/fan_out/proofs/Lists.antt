-- Lists that are taken apart from behind, and results of which something is known.
use Rattle.std.proofs.Common.{◌≡◌, ◌∙◌, ap, arith, subst, sym, ℕ, ◌+◌, ◌-◌, ◌*◌, ◌≤◌, Bool, false, not, Ok, Option, Some}
use Rattle.std.proofs.Common.{All, List, [], ◌∷◌, ◌++◌, length, get_or, take, drop, length-append}
use Rattle.std.specs.List.{AllWithin}
use Rattle.std.proofs.lemmas.List.{get_or_append_left}
use Rattle.std.proofs.Math.Seq.{get_or-append_seam, take-append_seam}
use Rattle.std.specs.Prelude.{if◌then◌else◌, option_to_list, IfOk, OnOk, Result, Err}

-- what all have, the last and the others have
pub popped : {X : Type 0} (P : X → Type 0) (xs ys : List X) (r : Option X) (x : X)
    → xs ≡ ys ++ option_to_list r → r ≡ Some x → All P xs → All P ys × P x
popped {X} P xs ys r x is some all = (others, last)
  where
    every : All P (ys ++ x ∷ [])
    every = subst (All P) (is ∙ ap (λ (o : Option X). ys ++ option_to_list o) some) all

    others : All P ys
    others k d h = subst P (get_or_append_left ys (x ∷ []) d k h) (every k d (let l = length-append ys (x ∷ []) in omega (arith, l)))

    last : P x
    last = subst P (get_or-append_seam ys x [] x) (every (length ys) x (let l = length-append ys (x ∷ []) in omega (arith, l)))

-- what all but the last have, the others have
pub others_have : {X : Type 0} (P : X → Type 0) (xs ys : List X) (r : Option X) (x : X) (n : ℕ)
    → xs ≡ ys ++ option_to_list r → r ≡ Some x → n ≡ length xs → AllWithin P xs 0 (n - 1) → All P ys
others_have {X} P xs ys r x n is some len all k d h =
    let shorter : length xs ≡ length ys + 1 = ap (λ (l : List X). length l) is ∙ ap (λ (o : Option X). length (ys ++ option_to_list o)) some
    ∙ length-append ys (x ∷ []) in
    subst P (ap (λ (l : List X). get_or l k d) is ∙ get_or_append_left ys (option_to_list r) d k h) (all k d (omega arith) (omega (arith, shorter, len)))

pub last_is : {X : Type 0} (xs ys : List X) (x : X) (n : ℕ) → ys ≡ xs ++ x ∷ [] → n ≡ length xs → (d : X) → get_or ys n d ≡ x
last_is {X} xs ys x n is len d =
    ap (λ (l : List X). get_or l n d) is ∙ ap (λ (k : ℕ). get_or (xs ++ x ∷ []) k d) len ∙ get_or-append_seam xs x [] d

-- what a Vec has after a push that did not fail
pub pushed : {X : Type 0} (xs ys : List X) (x : X) (ok failed : Bool) → ys ≡ (if ok then xs ++ x ∷ [] else xs) → ok ≡ not failed → failed ≡ false
    → ys ≡ xs ++ x ∷ []
pushed {X} xs ys x ok failed is told works = is ∙ ap (λ (b : Bool). if b then xs ++ x ∷ [] else xs) (told ∙ ap not works)

pub same_some : {X : Type 0} {r : Option X} {x y : X} → r ≡ Some x → r ≡ Some y → x ≡ y
same_some a b = cc

pub one_more : (n m cost : ℕ) → n ≡ m + 1 → n * cost ≡ m * cost + cost
one_more n m cost is = ap (λ (k : ℕ). k * cost) is ∙ omega arith

-- the units that n shares will give back, and those that are there: as one of the shares is taken, and at the end
pub one_back : (n m cost units back total : ℕ) → n ≡ m + 1 → units + n * cost ≡ total → back ≡ units + cost → back + m * cost ≡ total
one_back n m cost units back total fewer before is = let more = one_more n m cost fewer in omega (arith, more)

pub one_fits : (n m cost units back total most : ℕ) → n ≡ m + 1 → units + n * cost ≡ total → total ≤ most → back ≡ cost → units + back ≤ most
one_fits n m cost units back total most fewer before small is = let more = one_more n m cost fewer in omega (arith, more)

pub none_left : (n cost units total : ℕ) → n ≡ 0 → units + n * cost ≡ total → units ≡ total
none_left n cost units total none before = let nothing : n * cost ≡ 0 = ap (λ (k : ℕ). k * cost) none ∙ omega arith in omega (arith, nothing)

pub same_units : (units none new : ℕ) → new ≡ units + none → none ≡ 0 → new ≡ units
same_units units none new is zero = omega arith

pub none_fits : (units more none most : ℕ) → units + more ≤ most → none ≡ 0 → units + none ≤ most
none_fits units more none most small zero = omega arith

-- a slice of a Vec that was written whole
pub written_whole : {X : Type 0} (n : ℕ) (xs ys : List X) → length xs ≡ n → take n (xs ++ ys) ≡ xs
written_whole n xs ys is = ap (λ (k : ℕ). take k (xs ++ ys)) (sym is) ∙ take-append_seam xs ys

pub in_whole : {X : Type 0} (P : List X → ℕ → Type 0) (n m : ℕ) (now old : List X) → length now ≡ m → m ≡ n → P now m
    → P (take n (now ++ drop (length now) old)) n
in_whole {X} P n m now old is len p =
    subst (λ (xs : List X). P xs n) (sym (written_whole n now (drop (length now) old) (is ∙ len))) (subst (λ (k : ℕ). P now k) len p)

pub always_on_ok : {T E : Type 0} (r : Result T E) (P : Type 0) → P → OnOk r P
always_on_ok (Ok v) P p = p
always_on_ok (Err e) P p = tt

pub both_ok : {T E : Type 0} (r : Result T E) (P Q R : T → Type 0) → ((v : T) → P v → Q v → R v) → IfOk r P → IfOk r Q → IfOk r R
both_ok (Ok v) P Q R f p q = f v p q
both_ok (Err e) P Q R f p q = tt
