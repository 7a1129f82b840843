-- The rows of each key of a chunk, and the lists of their values.
use Rattle.std.proofs.Common.{◌≡◌, ◌∙◌, ◌≤◌, ℕ, zero, suc, Bool, true, false, List, [], ◌∷◌, ◌++◌, length, map, get_or, refl, ap, sym, arith}
use Rattle.std.proofs.lemmas.List.{length-map, map-append}
use Rattle.std.specs.List.{flat_map, list_any}
use Rattle.std.specs.Prelude.{if◌then◌else◌}
use Rattle.data_types.specs.promise.Parts.{column_values}
use Rattle.data_types.specs.promise.Table.{Row}
use Rattle.data_types.specs.promise.Value.{Value, Null}
use Rattle.raw_array.specs.promise.Members.{ArrayTree}
use Rattle.data_types.specs.promise.KindTrees.{KindTree}
use Rattle.layout_rules.specs.promise.Values.{each}
use Rattle.column_fill.specs.Gathered.{values_at}
use Rattle.data_types.specs.promise.Groups.{distinct, distinct_behind, same}
use Rattle.data_types.specs.Groups.{order_of, places, places_of}
use Rattle.list_cols.specs.ListTrees.{joined, list_lengths}
use Rattle.list_cols.specs.promise.Nested.{rows_with}
use Rattle.list_cols.specs.NestedGroups.{grouped_lists}

-- ---- rows by their numbers

key-if : (b : Bool) (k a : ℕ) (r : Row) (rs : List Row) (value : ℕ → Value) (is : List ℕ) → get_or r k Null ≡ value a → column_values k rs ≡ map value is
    → column_values k (if b then r ∷ rs else rs) ≡ map value (if b then a ∷ is else is)
key-if true k a r rs value is here more = λ t. here t ∷ more t
key-if false k a r rs value is here more = more

-- the values of a key's rows are where the key is
pub key-values : (row : ℕ → Row) (column k : ℕ) (key : Value) (value : ℕ → Value) → ((i : ℕ) → get_or (row i) k Null ≡ value i) → (a n : ℕ)
    → column_values k (rows_with column key (each row a n)) ≡ map value (places (same key) a (column_values column (each row a n)))
key-values row column k key value is a zero = refl
key-values row column k key value is a (suc n) =
    key-if (same key (get_or (row a) column Null)) k a (row a) (rows_with column key (each row (suc a) n)) value
    (places (same key) (suc a) (column_values column (each row (suc a) n))) (is a) (key-values row column k key value is (suc a) n)

pub column-each : (row : ℕ → Row) (column : ℕ) (value : ℕ → Value) → ((i : ℕ) → get_or (row i) column Null ≡ value i) → (a n : ℕ)
    → column_values column (each row a n) ≡ each value a n
column-each row column value is a zero = refl
column-each row column value is a (suc n) = λ t. is a t ∷ column-each row column value is (suc a) n t

-- ---- the lists of groups

joined-map : {X Y : Type 0} → (f : Y → Value) (g : X → List Y) (xs : List X) → joined (map (λ x. map f (g x)) xs) ≡ map f (flat_map g xs)
joined-map f g [] = refl
joined-map f g (x ∷ xs) = ap (λ zs. map f (g x) ++ zs) (joined-map f g xs) ∙ sym (map-append f (g x) (flat_map g xs))

pub all-lists : (typed : KindTree) (array : ArrayTree) (start : ℕ) (vs : List Value)
    → joined (grouped_lists typed array start vs) ≡ values_at typed array start (order_of vs)
all-lists typed array start vs = joined-map _ (λ (key : Value). places_of key vs) (distinct vs)

lengths-map : {X : Type 0} → (f : X → List Value) (g : X → List ℕ) (xs : List X) → ((x : X) → length (f x) ≡ length (g x))
    → list_lengths (map f xs) ≡ map (λ x. length (g x)) xs
lengths-map f g [] same = refl
lengths-map f g (x ∷ xs) same = λ t. same x t ∷ lengths-map f g xs same t

pub lists-lengths : (typed : KindTree) (array : ArrayTree) (start : ℕ) (vs : List Value)
    → list_lengths (grouped_lists typed array start vs) ≡ map (λ key. length (places_of key vs)) (distinct vs)
lists-lengths typed array start vs =
    lengths-map (λ key. values_at typed array start (places_of key vs)) (λ key. places_of key vs) (distinct vs) (λ key. length-map (places_of key vs) _)

pub many-lists : (typed : KindTree) (array : ArrayTree) (start : ℕ) (vs : List Value) → length (grouped_lists typed array start vs) ≡ length (distinct vs)
many-lists typed array start vs = length-map (distinct vs) (λ key. values_at typed array start (places_of key vs))

-- ---- there are no more distinct values than values

few-if : (b : Bool) (v : Value) (more some : List Value) (n : ℕ) → length more ≤ n → length some ≤ n → length (if b then more else v ∷ some) ≤ suc n
few-if true v more some n le few = omega (arith, le)
few-if false v more some n le few = omega (arith, few)

few-behind : (before vs : List Value) → length (distinct_behind before vs) ≤ length vs
few-behind before [] = omega arith
few-behind before (v ∷ vs) =
    few-if (list_any (λ b. same b v) before) v (distinct_behind before vs) (distinct_behind (v ∷ before) vs) (length vs) (few-behind before vs)
    (few-behind (v ∷ before) vs)

pub few-distinct : (vs : List Value) → length (distinct vs) ≤ length vs
few-distinct vs = few-behind [] vs
