-- The search for the first of some numbers of which something holds, and the runs of places.
use Rattle.std.proofs.Common.{◌≡◌, ℕ, zero, suc, ◌+◌, ◌-◌, ◌<◌, ◌≤◌, Bool, true, false, ℤ, pos, negsuc, refl, ap, sym, ◌∙◌, subst, inl, inr, arith}
use Rattle.std.specs.Prelude.{if◌then◌else◌, int_lt, nat_lt, ◌⊎◌}
use Rattle.std.proofs.lemmas.Bool.Decides.{nat_tests}
use Rattle.raw_array.specs.promise.Members.{ArrayTree, members_of}
use Rattle.layout_rules.specs.promise.Layout.{natural, first, items}
use Rattle.run_ends.specs.promise.Runs.{RunTree, Ends, ends_in, run_count, run_end, end_before, ends_above, first_from, run_of}
use Rattle.run_ends.specs.Runs.{run_at}
use Rattle.run_ends.specs.RunHolds.{EndHolds, RunsHold, Parted}

-- ---- the first of some numbers

-- where it holds of a number and of none before it, that is the first
first_from_at : (f : ℕ → Bool) (k n d : ℕ) → d < n → ((i : ℕ) → i < d → f (k + i) ≡ false) → f (k + d) ≡ true → first_from f k n ≡ k + d
first_from_at f k zero d h none is = absurd (omega arith)
first_from_at f k (suc n) zero h none is =
    let same : k + 0 ≡ k = omega arith in
    ap (λ b. if b then k else first_from f (suc k) n) (ap f (sym same) ∙ is) ∙ sym same
first_from_at f k (suc n) (suc d) h none is =
    let here : f k ≡ false = subst (λ (m : ℕ). f m ≡ false) (omega arith) (none 0 (omega arith)) in
    ap (λ b. if b then k else first_from f (suc k) n) here
    ∙ first_from_at f (suc k) n d (omega (arith, h)) (λ i lt. subst (λ (m : ℕ). f m ≡ false) (omega arith) (none (suc i) (omega (arith, lt))))
    (subst (λ (m : ℕ). f m ≡ true) (omega arith) is)
    ∙ omega arith

first_from_none : (f : ℕ → Bool) (k n : ℕ) → ((i : ℕ) → i < n → f (k + i) ≡ false) → first_from f k n ≡ k + n
first_from_none f k zero none = omega arith
first_from_none f k (suc n) none =
    let here : f k ≡ false = subst (λ (m : ℕ). f m ≡ false) (omega arith) (none 0 (omega arith)) in
    ap (λ b. if b then k else first_from f (suc k) n) here
    ∙ first_from_none f (suc k) n (λ i lt. subst (λ (m : ℕ). f m ≡ false) (omega arith) (none (suc i) (omega (arith, lt))))
    ∙ omega arith

-- the same from 0 on
pub first_is : (f : ℕ → Bool) (n d : ℕ) → d < n → ((i : ℕ) → i < d → f i ≡ false) → f d ≡ true → first_from f 0 n ≡ d
first_is f n d h none is =
    let at : (i : ℕ) → i ≡ 0 + i = λ i. omega arith in
    first_from_at f 0 n d h (λ i lt. subst (λ (m : ℕ). f m ≡ false) (at i) (none i lt)) (subst (λ (m : ℕ). f m ≡ true) (at d) is) ∙ sym (at d)

less_or_not : (a b : ℕ) → (a < b) ⊎ (b ≤ a)
less_or_not a b = pick (nat_lt a b) refl
  where
    pick : (t : Bool) → nat_lt a b ≡ t → (a < b) ⊎ (b ≤ a)
    pick true e = inl (grind (arith, nat_tests))
    pick false e = inr (grind (arith, nat_tests))

pub parted_first : (f : ℕ → Bool) (n low high : ℕ) → Parted f n low high → high ≤ low → first_from f 0 n ≡ low
parted_first f n low high is met = by (less_or_not low n)
  where
    at : (i : ℕ) → i ≡ 0 + i
    at i = omega arith

    by : (low < n) ⊎ (n ≤ low) → first_from f 0 n ≡ low
    by (inl h) = first_is f n low h is.below (is.from low met h)
    by (inr h) =
        first_from_none f 0 n (λ i lt. subst (λ (m : ℕ). f m ≡ false) (at i) (is.below i (omega (arith, lt, h))))
        ∙ omega (arith, h, is.ordered, is.inside)

-- ---- ends that rise

pub above_is : (place : ℕ) (end : ℤ) → int_lt (pos place) end ≡ nat_lt place (natural end)
above_is place (pos n) = refl
above_is place (negsuc n) = grind (arith, nat_tests)

-- ends don't fall
pub ends_rise : (ends : Ends) (n : ℕ) → ((k : ℕ) → k < n → EndHolds ends k) → (j d : ℕ) → j + d < n → natural (run_end ends j) ≤ natural (run_end ends (j + d))
ends_rise ends n each j zero h =
    let same : j ≡ j + 0 = omega arith in
    subst (λ (m : ℕ). natural (run_end ends j) ≤ natural (run_end ends m)) same (omega arith)
ends_rise ends n each j (suc d) h =
    let before = ends_rise ends n each j d (omega (arith, h)) in
    let same : j + suc d ≡ suc (j + d) = omega arith in
    let here = (each (suc (j + d)) (omega (arith, h))).rises in
    subst (λ (m : ℕ). natural (run_end ends j) ≤ natural (run_end ends m)) (sym same) (omega (arith, before, here))

pub rise_to : (ends : Ends) (n : ℕ) → ((k : ℕ) → k < n → EndHolds ends k) → (j k : ℕ) → j ≤ k → k < n → natural (run_end ends j) ≤ natural (run_end ends k)
rise_to ends n each j k le h =
    let same : j + (k - j) ≡ k = omega (arith, le) in
    subst (λ (m : ℕ). natural (run_end ends j) ≤ natural (run_end ends m)) same (ends_rise ends n each j (k - j) (omega (arith, le, h)))

test_yes : (a b : ℕ) → a < b → nat_lt a b ≡ true
test_yes a b h = grind (arith, nat_tests)

test_no : (a b : ℕ) → b ≤ a → nat_lt a b ≡ false
test_no a b h = grind (arith, nat_tests)

yes_test : (a b : ℕ) → nat_lt a b ≡ true → a < b
yes_test a b e = grind (arith, nat_tests)

no_test : (a b : ℕ) → nat_lt a b ≡ false → b ≤ a
no_test a b e = grind (arith, nat_tests)

pub is_above : (ends : Ends) (place k : ℕ) → place < natural (run_end ends k) → ends_above ends place k ≡ true
is_above ends place k h = above_is place (run_end ends k) ∙ test_yes place (natural (run_end ends k)) h

pub not_above : (ends : Ends) (place k : ℕ) → natural (run_end ends k) ≤ place → ends_above ends place k ≡ false
not_above ends place k h = above_is place (run_end ends k) ∙ test_no place (natural (run_end ends k)) h

-- ---- one step of the search

abbrev Above : Ends → ℕ → ℕ → ℕ → ℕ → Type 0
Above ends n place low high = Parted (ends_above ends place) n low high

pub search_low : (ends : Ends) (n place low high middle : ℕ) → ((k : ℕ) → k < n → EndHolds ends k) → Above ends n place low high → low ≤ middle
    → middle < high → int_lt (pos place) (run_end ends middle) ≡ true → Above ends n place low middle
search_low ends n place low high middle each is le lt test =
    let here = yes_test place (natural (run_end ends middle)) (sym (above_is place (run_end ends middle)) ∙ test) in
    record {
      ordered = le;
      inside = omega (arith, lt, is.inside);
      below = is.below;
      from = λ i m h. is_above ends place i (omega (arith, here, rise_to ends n each middle i m h));
    }

pub search_high : (ends : Ends) (n place low high middle : ℕ) → ((k : ℕ) → k < n → EndHolds ends k) → Above ends n place low high → low ≤ middle
    → middle < high → int_lt (pos place) (run_end ends middle) ≡ false → Above ends n place (middle + 1) high
search_high ends n place low high middle each is le lt test =
    let here = no_test place (natural (run_end ends middle)) (sym (above_is place (run_end ends middle)) ∙ test) in
    let inside : middle < n = omega (arith, lt, is.inside) in
    record {
      ordered = omega (arith, lt);
      inside = is.inside;
      below = λ i h. not_above ends place i (omega (arith, here, rise_to ends n each i middle (omega (arith, h)) inside));
      from = is.from;
    }

-- ---- the run of a place

-- a run's places are those from the end before it up to its end
pub run_is : (ends : Ends) (n place k : ℕ) → ((j : ℕ) → j < n → EndHolds ends j) → k < n → natural (end_before ends k) ≤ place
    → place < natural (run_end ends k) → run_at ends n place ≡ k
run_is ends n place zero each h before behind =
    first_is (ends_above ends place) n 0 h (λ i lt. absurd (omega (arith, lt))) (is_above ends place 0 behind)
run_is ends n place (suc k) each h before behind =
    first_is (ends_above ends place) n (suc k) h
    (λ i lt. not_above ends place i (omega (arith, before, rise_to ends n each i k (omega (arith, lt)) (omega (arith, h)))))
    (is_above ends place (suc k) behind)

pub record RunHolds (ends : Ends) (n place k : ℕ) : Type 0 where
  pub inside : k < n
  pub before : natural (end_before ends k) ≤ place
  pub behind : place < natural (run_end ends k)

-- the runs up to k that reach a place have one that the place lies in
search_down : (ends : Ends) (n place k : ℕ) → ((j : ℕ) → j < n → EndHolds ends j) → k ≤ n → place < natural (end_before ends k)
    → (j : ℕ) × RunHolds ends n place j
search_down ends n place zero each le h = absurd (omega (arith, h))
search_down ends n place (suc k) each le h = by (nat_lt place (natural (end_before ends k))) refl (search_down ends n place k each (omega (arith, le)))
  where
    by : (b : Bool) → nat_lt place (natural (end_before ends k)) ≡ b → (place < natural (end_before ends k) → (j : ℕ) × RunHolds ends n place j)
        → (j : ℕ) × RunHolds ends n place j
    by true e further = further (yes_test place (natural (end_before ends k)) e)
    by false e further = (k, record { inside = omega (arith, le); before = no_test place (natural (end_before ends k)) e; behind = h })

-- a place that some end is above lies in its run
pub run_holds : (ends : Ends) (n place : ℕ) → ((j : ℕ) → j < n → EndHolds ends j) → place < natural (end_before ends n)
    → RunHolds ends n place (run_at ends n place)
run_holds ends n place each h =
    let found = search_down ends n place n each (omega arith) h in
    let is = found.1 in
    subst (RunHolds ends n place) (sym (run_is ends n place found.0 each is.inside is.before is.behind)) is

pub same_run : (ends : Ends) (n place other k : ℕ) → ((j : ℕ) → j < n → EndHolds ends j) → RunHolds ends n place k → place ≤ other
    → other < natural (run_end ends k) → run_at ends n other ≡ k
same_run ends n place other k each is le h = run_is ends n other k each is.inside (omega (arith, is.before, le)) h

more_runs : (ends : Ends) (n k : ℕ) → k < n → natural (run_end ends k) < natural (end_before ends n) → suc k < n
more_runs ends n k h lt = by (nat_lt (suc k) n) refl
  where
    by : (b : Bool) → nat_lt (suc k) n ≡ b → suc k < n
    by true e = yes_test (suc k) n e
    by false e =
        let same : n ≡ suc k = omega (arith, h, no_test (suc k) n e) in
        let lower : natural (run_end ends k) < natural (run_end ends k) = subst (λ (m : ℕ). natural (run_end ends k) < natural (end_before ends m)) same lt in
        absurd (omega (arith, lower))

pub next_run : (ends : Ends) (n place k : ℕ) → ((j : ℕ) → j < n → EndHolds ends j) → RunHolds ends n place k
    → natural (run_end ends k) < natural (end_before ends n) → run_at ends n (natural (run_end ends k)) ≡ suc k
next_run ends n place k each is lt =
    let inside = more_runs ends n k is.inside lt in
    run_is ends n (natural (run_end ends k)) (suc k) each inside (omega arith) ((each (suc k) inside).rises)

-- ---- the items of an array

pub item_holds : (u : RunTree) (array : ArrayTree) (i : ℕ) → RunsHold u array → i < items (members_of array)
    → RunHolds (ends_in u array) (run_count array) (first (members_of array) + i) (run_of u array i)
item_holds u array i is h =
    run_holds (ends_in u array) (run_count array) (first (members_of array) + i) is.each (omega (arith, h, is.covered))

pub same_items : (u : RunTree) (array : ArrayTree) (i j : ℕ) → RunsHold u array → i < items (members_of array) → i ≤ j
    → first (members_of array) + j < natural (run_end (ends_in u array) (run_of u array i)) → run_of u array j ≡ run_of u array i
same_items u array i j is h le lt =
    same_run (ends_in u array) (run_count array) (first (members_of array) + i) (first (members_of array) + j) (run_of u array i) is.each
    (item_holds u array i is h) (omega (arith, le)) lt

pub next_item : (u : RunTree) (array : ArrayTree) (i next : ℕ) → RunsHold u array → i < items (members_of array) → next < items (members_of array)
    → first (members_of array) + next ≡ natural (run_end (ends_in u array) (run_of u array i)) → run_of u array next ≡ run_of u array i + 1
next_item u array i next is h lt e =
    ap (run_at (ends_in u array) (run_count array)) e
    ∙ next_run (ends_in u array) (run_count array) (first (members_of array) + i) (run_of u array i) is.each (item_holds u array i is h)
    (omega (arith, lt, e, is.covered))
    ∙ omega arith

-- what is above a place: an end, or a place that the end is behind
pub reaches : (place end stop up : ℕ) → place < end → place < stop → (up < stop → up ≡ end) → up ≤ stop → place < up
reaches place end stop up h lt exact le = by (less_or_not up stop)
  where
    by : (up < stop) ⊎ (stop ≤ up) → place < up
    by (inl less) = omega (arith, h, exact less)
    by (inr more) = omega (arith, lt, more)

-- ---- a walk over the items

-- a place behind item i, up to which the items lie in its run, and at which the next run begins
pub record Walks (u : RunTree) (array : ArrayTree) (i run start up : ℕ) : Type 0 where
  pub from : start + i < up
  pub same : (j : ℕ) → i ≤ j → j < up - start → run_of u array j ≡ run
  pub next : up - start < items (members_of array) → run_of u array (up - start) ≡ run + 1

pub walks : (u : RunTree) (array : ArrayTree) (i run start count up : ℕ) → RunsHold u array → i < items (members_of array) → run ≡ run_of u array i
    → start ≡ first (members_of array) → count ≡ items (members_of array) → up ≤ natural (run_end (ends_in u array) run) → up ≤ start + count
    → (up < start + count → up ≡ natural (run_end (ends_in u array) run)) → Walks u array i run start up
walks u array i run start count up is h at starts counts ends places exact =
    let holds = item_holds u array i is h in
    let end : natural (run_end (ends_in u array) run) ≡ natural (run_end (ends_in u array) (run_of u array i)) =
    ap (λ (k : ℕ). natural (run_end (ends_in u array) k)) at in
    let from =
    reaches (start + i) (natural (run_end (ends_in u array) run)) (start + count) up (omega (arith, holds.behind, end, starts)) (omega (arith, h, counts)) exact places in
    record {
      from = from;
      same = λ j le lt. same_items u array i j is h le (omega (arith, lt, from, ends, end, starts)) ∙ sym at;
      next = λ lt.
          next_item u array i (up - start) is h lt (omega (arith, from, starts, counts, end, exact (omega (arith, lt, from, counts))))
          ∙ omega (arith, at);
    }
