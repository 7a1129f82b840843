-- The items of runs, run by run: each run's value as often as items lie in it.
use Rattle.std.proofs.Common.{◌≡◌, ◌∙◌, ◌≤◌, ◌<◌, ◌+◌, ◌*◌, ◌-◌, ◌^◌, ◌++◌, ℕ, zero, suc, List, [], ◌∷◌, length, map, replicate, get_or, refl, sym, ap, subst, inr, arith}
use Rattle.std.specs.List.{concat, flat_map}
use Rattle.std.proofs.lemmas.Grind.{flat_map-append}
use Rattle.std.proofs.lemmas.List.{append-nil, length-append}
use Rattle.std.proofs.lemmas.List.Elements.{All-append, All-cons, All-nil}
use Rattle.std.proofs.lemmas.Nat.{mul-le}
use Rattle.std.specs.Prelude.{All, ◌≢◌}
use Rattle.data_types.specs.promise.Value.{Value, Null, Bytes, byte_total, bytes_of}
use Rattle.arr_import.specs.Window.{Window, item_at, whole}
use Rattle.tree_model.specs.promise.TreeParts.{child_at}
use Rattle.raw_array.specs.promise.Members.{ArrayTree, members_of}
use Rattle.data_types.specs.promise.KindTrees.{KindTree}
use Rattle.layout_rules.specs.promise.Layout.{items}
use Rattle.layout_rules.specs.promise.Values.{each, tree_items, value_at}
use Rattle.column_fill.specs.Gathered.{values_of_runs}
use Rattle.column_fill.specs.declared.runs.Run.{Run}
use Rattle.arr_export.proofs.Each.{length-each, value-there}
use Rattle.array_laws.specs.Items.{IsItemOf}
use Rattle.run_ends.specs.RunHolds.{RunsHold}
use Rattle.run_ends.specs.RunWalks.{ReachesRun}
use Rattle.run_ends.specs.promise.Runs.{RunTree, run_of, run_values}
use Rattle.run_ends.specs.Runs.{run_value}
use Rattle.run_ends.proofs.Holding.{items-shown}
use Rattle.run_ends.proofs.Searching.{item_holds}

each-append : {X : Type 0} (f : ℕ → X) (from m n : ℕ) → each f from (m + n) ≡ each f from m ++ each f (from + m) n
each-append f from zero n =
    let none : from ≡ from + 0 = omega arith in
    let all : 0 + n ≡ n = omega arith in
    ap (each f from) all ∙ ap (λ (k : ℕ). each f k n) none
each-append f from (suc m) n =
    let next : suc from + m ≡ from + suc m = omega arith in
    let all : suc m + n ≡ suc (m + n) = omega arith in
    ap (each f from) all
    ∙ ap (λ xs. f from ∷ xs) (each-append f (suc from) m n ∙ ap (λ (k : ℕ). each f (suc from) m ++ each f k n) next)

each-one : {X : Type 0} (f : ℕ → X) (v : X) (from n : ℕ) → ((j : ℕ) → from ≤ j → j < from + n → f j ≡ v) → each f from n ≡ replicate n v
each-one f v from zero same = refl
each-one f v from (suc n) same =
    (λ j. same from (omega arith) (omega arith) j ∷ each-one f v (suc from) n (λ k le lt. same k (omega (arith, le)) (omega (arith, lt))) j)

-- the items up to a place, and those of the next run behind them
pub one-run : {X : Type 0} (f : ℕ → X) (v : X) (at stop : ℕ) → at ≤ stop → ((j : ℕ) → at ≤ j → j < stop → f j ≡ v)
    → each f 0 stop ≡ each f 0 at ++ replicate (stop - at) v
one-run f v at stop le same =
    let whole : stop ≡ at + (stop - at) = omega (arith, le) in
    let first : 0 + at ≡ at = omega arith in
    ap (each f 0) whole ∙ each-append f 0 at (stop - at) ∙ ap (λ (k : ℕ). each f 0 at ++ each f k (stop - at)) first
    ∙ ap (λ xs. each f 0 at ++ xs) (each-one f v at (stop - at) (λ j from to. same j from (omega (arith, to, le))))

-- ---- their bytes

total-append : (xs ys : List Value) → byte_total (xs ++ ys) ≡ byte_total xs + byte_total ys
total-append [] ys = omega arith
total-append (x ∷ xs) ys =
    omega (
      arith,
      total-append xs ys,
      length-append (bytes_of x) (concat (map bytes_of (xs ++ ys))),
      length-append (bytes_of x) (concat (map bytes_of xs)),
    )

total-same : (n : ℕ) (v : Value) → byte_total (replicate n v) ≡ n * length (bytes_of v)
total-same zero v = omega arith
total-same (suc n) v = omega (arith, total-same n v, length-append (bytes_of v) (concat (map bytes_of (replicate n v))))

pub total-more : (xs : List Value) (n : ℕ) (v : Value) → byte_total (xs ++ replicate n v) ≡ byte_total xs + n * length (bytes_of v)
total-more xs n v = omega (arith, total-append xs (replicate n v), total-same n v)

-- ---- a walk

-- up to an item, where a run begins if there is one
pub record Walked (u : RunTree) (array : ArrayTree) (at run : ℕ) : Type 0 where
  pub inside : at ≤ items (members_of array)
  pub reaches : ReachesRun u array at run

-- the items of a run have its value
pub run-shown : (u : RunTree) (array : ArrayTree) (at run stop : ℕ) → at ≤ stop → ((j : ℕ) → at ≤ j → j < stop → run_of u array j ≡ run)
    → each (run_value u array) 0 stop ≡ each (run_value u array) 0 at ++ replicate (stop - at) (value_at u.values (child_at array 1) run)
run-shown u array at run stop le same =
    one-run (run_value u array) (value_at u.values (child_at array 1) run) at stop le (λ j from to. ap (value_at u.values (child_at array 1)) (same j from to))

-- the bytes of this many items of at most this many bytes each
abbrev pub Bounded : ℕ → ℕ → Type 0
Bounded total at = total ≤ at * 2 ^ 64

pub product-small : (at stop bytes : ℕ) → stop ≤ 2 ^ 40 → bytes < 2 ^ 64 → (stop - at) * bytes ≤ 2 ^ 40 * 2 ^ 64
product-small at stop bytes le small = mul-le (stop - at) bytes (2 ^ 40) (2 ^ 64) (omega (arith, le)) (omega (arith, small))

pub bounded-more : (total at stop bytes : ℕ) → at ≤ stop → bytes < 2 ^ 64 → Bounded total at → Bounded (total + (stop - at) * bytes) stop
bounded-more total at stop bytes le small before =
    let more : (stop - at) * bytes ≤ (stop - at) * 2 ^ 64 = mul-le (stop - at) bytes (stop - at) (2 ^ 64) (omega arith) (omega (arith, small)) in
    omega (arith, more, before, le)

pub total-shown : (u : RunTree) (array : ArrayTree) (at run stop total bytes : ℕ) → at ≤ stop → ((j : ℕ) → at ≤ j → j < stop → run_of u array j ≡ run)
    → total ≡ byte_total (each (run_value u array) 0 at) → bytes ≡ length (bytes_of (value_at u.values (child_at array 1) run))
    → total + (stop - at) * bytes ≡ byte_total (each (run_value u array) 0 stop)
total-shown u array at run stop total bytes le same before own =
    (λ j. before j + (stop - at) * own j)
    ∙ sym (total-more (each (run_value u array) 0 at) (stop - at) (value_at u.values (child_at array 1) run))
    ∙ ap byte_total (sym (run-shown u array at run stop le same))

pub walk-on : (u : RunTree) (array : ArrayTree) (at run stop total times bytes : ℕ) → at < stop → stop ≤ items (members_of array)
    → ((j : ℕ) → at ≤ j → j < stop → run_of u array j ≡ run) → ReachesRun u array stop (run + 1) → times ≡ stop - at
    → bytes ≡ length (bytes_of (value_at u.values (child_at array 1) run)) → bytes < 2 ^ 64 → total ≡ byte_total (each (run_value u array) 0 at)
    → Bounded total at
    → Walked u array stop (run + 1) × (total + times * bytes ≡ byte_total (each (run_value u array) 0 stop)) × Bounded (total + times * bytes) stop
walk-on u array at run stop total times bytes above within same next often own small before bound = (
  record { inside = within; reaches = next },
  ap (λ (t : ℕ). total + t * bytes) often ∙ total-shown u array at run stop total bytes (omega (arith, above)) same before own,
  subst (λ (t : ℕ). Bounded (total + t * bytes) stop) (sym often) (bounded-more total at stop bytes (omega (arith, above)) small bound),
)

-- the bytes of what isn't bytes
no-bytes : (v : Value) → ((bytes : List ℕ) → v ≢ Bytes bytes) → 0 ≡ length (bytes_of v)
no-bytes (Bytes bytes) none = absurd (none bytes refl)
no-bytes Null none = refl
no-bytes _ none = refl

pub no-bytes-at : (w : Window) (t : KindTree) (a : ArrayTree) (k : ℕ) → w ≡ whole t a → ((bytes : List ℕ) → item_at w k ≢ Bytes bytes)
    → 0 ≡ length (bytes_of (value_at t a k))
no-bytes-at w t a k is none =
    no-bytes (value_at t a k) (λ bytes e. none bytes (ap (λ (f : ℕ → Value). f k) (items-shown w t a is) ∙ e))

-- ---- each item is one of the values

pub stored : (u : RunTree) (array : ArrayTree) (i : ℕ) → RunsHold u array → i < items (members_of array) → run_of u array i < tree_items (child_at array 1)
stored u array i holds inside = omega (arith, (item_holds u array i holds inside).inside, holds.valued)

pub are-items : (u : RunTree) (array : ArrayTree) → RunsHold u array → All (IsItemOf u.values (child_at array 1)) (run_values u array)
are-items u array holds = λ k d h.
    let f = run_value u array in
    let inside : k < items (members_of array) = omega (arith, h, length-each f 0 (items (members_of array))) in
    subst (IsItemOf u.values (child_at array 1)) (sym (value-there f 0 (items (members_of array)) k d inside))
    (inr (run_of u array (0 + k), stored u array (0 + k) holds (omega (arith, inside)), refl))

pub few-items : (u : RunTree) (array : ArrayTree) → RunsHold u array → length (run_values u array) ≤ 2 ^ 40
few-items u array holds = omega (arith, length-each (run_value u array) 0 (items (members_of array)), holds.near)

-- ---- the list of the runs

pub runs-more : (typed : KindTree) (array : ArrayTree) (runs : List Run) (run : Run)
    → values_of_runs typed array (runs ++ run ∷ []) ≡ values_of_runs typed array runs ++ replicate run.times (value_at typed array run.item)
runs-more typed array runs run =
    let f : Run → List Value = λ r. replicate r.times (value_at typed array r.item) in
    flat_map-append f runs (run ∷ []) ∙ ap (λ (xs : List Value). flat_map f runs ++ xs) (append-nil (f run))

-- the runs so far show the items up to one, and each has a value
pub record Lists (u : RunTree) (array : ArrayTree) (runs : List Run) (at : ℕ) : Type 0 where
  pub values : values_of_runs u.values (child_at array 1) runs ≡ each (run_value u array) 0 at
  pub inside : All (λ run. run.item < tree_items (child_at array 1)) runs

pub none-listed : (u : RunTree) (array : ArrayTree) → Lists u array [] 0
none-listed u array = record { values = refl; inside = All-nil (λ (run : Run). run.item < tree_items (child_at array 1)) }

pub one-listed : (u : RunTree) (array : ArrayTree) (runs : List Run) (at run stop : ℕ) → at ≤ stop
    → ((j : ℕ) → at ≤ j → j < stop → run_of u array j ≡ run) → run < tree_items (child_at array 1) → Lists u array runs at
    → Lists u array (runs ++ record { item = run; times = stop - at } ∷ []) stop
one-listed u array runs at run stop le same stored before =
    let next : Run = record { item = run; times = stop - at } in
    let Inside : Run → Type 0 = λ r. r.item < tree_items (child_at array 1) in
    record {
      values = runs-more u.values (child_at array 1) runs next
          ∙ ap (λ (xs : List Value). xs ++ replicate (stop - at) (value_at u.values (child_at array 1) run)) before.values
          ∙ sym (run-shown u array at run stop le same);
      inside = All-append Inside runs (next ∷ []) before.inside (All-cons Inside next [] stored (All-nil Inside));
    }
