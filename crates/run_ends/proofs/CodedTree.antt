-- The array of values as runs is lawful, and shows the values.
use Rattle.std.proofs.Common.{◌≡◌, ℕ, zero, suc, ◌+◌, ◌^◌, ◌<◌, ◌≤◌, Bool, true, false, ℤ, pos, not, List, [], ◌∷◌, length, map, get_or, Option, None, Some, refl, ap, sym, ◌∙◌, subst, inl, inr, arith}
use Rattle.std.specs.Prelude.{if◌then◌else◌, nat_lt, int_lt, ◌&&◌}
use Rattle.std.specs.List.{concat}
use Rattle.std.specs.Option.{option_or}
use Rattle.std.proofs.lemmas.Bool.Decides.{nat_tests}
use Rattle.std.proofs.lemmas.List.{length-map, length-append, get_or_default}
use Rattle.data_types.specs.promise.FieldText.{Form, form_of}
use Rattle.data_types.specs.declared.kind.DataType.{DataType}
use Rattle.data_types.specs.promise.Value.{Value, is_null, bytes_of, byte_total}
use Rattle.data_types.specs.promise.Value.Value.{Null, Whole}
use Rattle.tree_model.specs.promise.TreeParts.{children_of}
use Rattle.raw_array.specs.promise.Members.{ArrayTree, members_of}
use Rattle.layout_rules.specs.declared.rule.Numbers.{Numbers}
use Rattle.layout_rules.specs.promise.Layout.{natural, end}
use Rattle.layout_rules.specs.promise.Rules.{fault_if, first_below, window_limit}
use Rattle.layout_rules.specs.promise.Values.{value_at, values_of}
use Rattle.layout_rules.specs.promise.Walk.{LayoutOk}
use Rattle.root_check.proofs.ChildFaults.{lawful-none}
use Rattle.col_build.specs.declared.item.PushFault.TheVariants.{OutOfRange}
use Rattle.col_build.specs.promise.Encoding.{is_by_offsets, are_within, is_wide}
use Rattle.col_build.specs.Encoding.{Fits, push_fault, are_bounded}
use Rattle.arr_export.specs.promise.ArrayTrees.{column_tree}
use Rattle.arr_export.specs.ArrayTrees.{flat_type}
use Rattle.arr_export.proofs.Each.{value-there, each-is}
use Rattle.run_ends.specs.promise.Runs.{Ends, ends_in, whole_of, run_count, run_end, end_before, run_values}
use Rattle.run_ends.specs.Runs.{value_count, run_at, run_value}
use Rattle.run_ends.specs.promise.RunRules.{EndsNull, EndsFall, ValuesShort, EndsShort, WindowTooLong}
use Rattle.root_check.specs.promise.Found.{by}
use Rattle.run_ends.specs.RunRules.{null_end, end_falls, end_answers, first_answer, kids_fault, child_rule}
use Rattle.run_ends.specs.RunRules.{RunsOk}
use Rattle.run_ends.specs.RunHolds.{EndHolds}
use Rattle.run_ends.specs.promise.RunCoding.{Run, runs_from}
use Rattle.run_ends.specs.RunCoding.{end_kind, end_of, is_same, runs_tree, runs_type, value_of}
use Rattle.run_ends.proofs.ValueRuns.{IsRising, last_stop, rising, last-is, shown, shows}
use Rattle.run_ends.proofs.Searching.{run_is}

abbrev pub LawfulLaw : Type 0
LawfulLaw = (kind : DataType) (values : List Value) → Fits kind values → LayoutOk (flat_type kind None) (column_tree kind values None)

abbrev pub ValuesLaw : Type 0
ValuesLaw = (kind : DataType) (values : List Value) → Fits kind values → values_of (flat_type kind None) (column_tree kind values None) ≡ values

-- ---- the runs' values are among the values

abbrev ComesFrom : List Value → List Run → Type 0
ComesFrom vs runs = (k : ℕ) (d : Value) → k < length runs → (i : ℕ) × (i < length vs) × (get_or (map value_of runs) k d ≡ get_or vs i d)

one-comes : (at : ℕ) (v n : Value) (r : List Value) (runs : List Run) (b : Bool) → ComesFrom (n ∷ r) runs
    → ComesFrom (v ∷ n ∷ r) (if b then runs else record { value = v; stop = suc at } ∷ runs)
one-comes at v n r runs true more k d h = let found = more k d h in (suc found.0, omega (arith, found.1), found.2)
one-comes at v n r runs false more zero d h = (0, omega arith, refl)
one-comes at v n r runs false more (suc k) d h = let found = more k d (omega (arith, h)) in (suc found.0, omega (arith, found.1), found.2)

comes-from : (at : ℕ) (vs : List Value) → ComesFrom vs (runs_from at vs)
comes-from at [] k d h = absurd (omega (arith, h))
comes-from at (v ∷ []) zero d h = (0, omega arith, refl)
comes-from at (v ∷ []) (suc k) d h = absurd (omega (arith, h))
comes-from at (v ∷ n ∷ r) k d h = one-comes at v n r (runs_from (suc at) (n ∷ r)) (is_same v n) (comes-from (suc at) (n ∷ r)) k d h

fewer : (at : ℕ) (vs : List Value) → length (runs_from at vs) ≤ length vs
fewer at [] = omega arith
fewer at (v ∷ []) = omega arith
fewer at (v ∷ n ∷ r) = pick (is_same v n) (fewer (suc at) (n ∷ r))
  where
    pick : (b : Bool) → length (runs_from (suc at) (n ∷ r)) ≤ length (n ∷ r)
        → length (if b then runs_from (suc at) (n ∷ r) else record { value = v; stop = suc at } ∷ runs_from (suc at) (n ∷ r)) ≤ length (v ∷ n ∷ r)
    pick true more = omega (arith, more)
    pick false more = omega (arith, more)

fewer_bytes : (at : ℕ) (vs : List Value) → byte_total (map value_of (runs_from at vs)) ≤ byte_total vs
fewer_bytes at [] = omega arith
fewer_bytes at (v ∷ []) = omega arith
fewer_bytes at (v ∷ n ∷ r) = pick (is_same v n) (fewer_bytes (suc at) (n ∷ r))
  where
    pick : (b : Bool) → byte_total (map value_of (runs_from (suc at) (n ∷ r))) ≤ byte_total (n ∷ r)
        → byte_total (map value_of (if b then runs_from (suc at) (n ∷ r) else record { value = v; stop = suc at } ∷ runs_from (suc at) (n ∷ r)))
        ≤ byte_total (v ∷ n ∷ r)
    pick true more = omega (arith, more, length-append (bytes_of v) (concat (map bytes_of (n ∷ r))))
    pick false more =
        omega (
          arith,
          more,
          length-append (bytes_of v) (concat (map bytes_of (n ∷ r))),
          length-append (bytes_of v) (concat (map bytes_of (map value_of (runs_from (suc at) (n ∷ r))))),
        )

less : (a b c : ℕ) → a ≤ b → nat_lt b c ≡ true → nat_lt a c ≡ true
less a b c le e = grind (arith, nat_tests)

within_less : (wide : Bool) (form : Option Form) (a b : ℕ) → a ≤ b → are_within wide form b ≡ true → are_within wide form a ≡ true
within_less wide None a b le e = refl
within_less true (Some form) a b le e = refl
within_less false (Some form) a b le e = pick (is_by_offsets form) e
  where
    pick : (t : Bool) → (if t then nat_lt b (2 ^ 31) else true) ≡ true → (if t then nat_lt a (2 ^ 31) else true) ≡ true
    pick true e = less a b (2 ^ 31) le e
    pick false e = refl

bounded_less : (form : Option Form) (a b : ℕ) → a ≤ b → are_bounded form b ≡ true → are_bounded form a ≡ true
bounded_less None a b le e = refl
bounded_less (Some form) a b le e = pick (is_by_offsets form) e
  where
    pick : (t : Bool) → (if t then nat_lt b (2 ^ 63) else true) ≡ true → (if t then nat_lt a (2 ^ 63) else true) ≡ true
    pick true e = less a b (2 ^ 63) le e
    pick false e = refl

pub fit_values : (kind : DataType) (vs : List Value) → Fits kind vs → Fits kind (map value_of (runs_from 0 vs))
fit_values kind vs fits =
    record {
      kind_ok = fits.kind_ok;
      flat = fits.flat;
      few = omega (arith, fits.few, fewer 0 vs, length-map (runs_from 0 vs) value_of);
      each = λ k d h.
          let found = comes-from 0 vs k d (omega (arith, h, length-map (runs_from 0 vs) value_of)) in
          subst (λ (v : Value). push_fault kind [] v ≡ None) (sym found.2) (fits.each found.0 d found.1);
      small = within_less (is_wide kind) (form_of kind) (byte_total (map value_of (runs_from 0 vs))) (byte_total vs) (fewer_bytes 0 vs) fits.small;
      bounded = bounded_less (form_of kind) (byte_total (map value_of (runs_from 0 vs))) (byte_total vs) (fewer_bytes 0 vs) fits.bounded;
    }

-- ---- the ends

abbrev stop_or : List Run → ℕ → ℕ
stop_or [] k = 0
stop_or (run ∷ rest) zero = run.stop
stop_or (run ∷ rest) (suc k) = stop_or rest k

-- the stop before a run
abbrev before_or : ℕ → List Run → ℕ → ℕ
before_or at runs zero = at
before_or at runs (suc k) = stop_or runs k

stop-below : (at : ℕ) (runs : List Run) (k : ℕ) → IsRising at runs → k < length runs → stop_or runs k ≤ last_stop at runs
stop-below at [] k up h = absurd (omega (arith, h))
stop-below at (run ∷ rest) zero up h = last-above run.stop rest up.1
  where
    last-above : (a : ℕ) (runs : List Run) → IsRising a runs → a ≤ last_stop a runs
    last-above a [] up = omega arith
    last-above a (run ∷ rest) up = omega (arith, up.0, last-above run.stop rest up.1)
stop-below at (run ∷ rest) (suc k) up h = stop-below run.stop rest k up.1 (omega (arith, h))

stop-rises : (at : ℕ) (runs : List Run) (k : ℕ) → IsRising at runs → k < length runs → before_or at runs k < stop_or runs k
stop-rises at [] k up h = absurd (omega (arith, h))
stop-rises at (run ∷ rest) zero up h = up.0
stop-rises at (run ∷ rest) (suc zero) up h = stop-rises run.stop rest 0 up.1 (omega (arith, h))
stop-rises at (run ∷ rest) (suc (suc k)) up h = stop-rises run.stop rest (suc k) up.1 (omega (arith, h))

last-before : (at : ℕ) (runs : List Run) → before_or at runs (length runs) ≡ last_stop at runs
last-before at [] = refl
last-before at (run ∷ []) = refl
last-before at (run ∷ next ∷ rest) = last-before run.stop (next ∷ rest)

end-there : (runs : List Run) (k : ℕ) → k < length runs → get_or (map end_of runs) k Null ≡ Whole (pos (stop_or runs k))
end-there [] k h = absurd (omega (arith, h))
end-there (run ∷ rest) zero h = refl
end-there (run ∷ rest) (suc k) h = end-there rest k (omega (arith, h))

in-range : (n : ℕ) → n < 2 ^ 31 → push_fault end_kind [] (Whole (pos n)) ≡ None
in-range n h = let test : nat_lt n (2 ^ 31) ≡ true = grind (arith, nat_tests) in
    ap (λ (t : Bool). if not (t && true) then Some OutOfRange else None) test

no_bytes : (runs : List Run) → byte_total (map end_of runs) ≡ 0
no_bytes [] = refl
no_bytes (run ∷ rest) = no_bytes rest

pub fit_ends : (vs : List Value) → length vs < 2 ^ 31 → Fits end_kind (map end_of (runs_from 0 vs))
fit_ends vs small =
    record {
      kind_ok = inr (inr (inl refl));
      flat = tt;
      few = omega (arith, small, fewer 0 vs, length-map (runs_from 0 vs) end_of);
      each = λ k d h.
          let inside : k < length (runs_from 0 vs) = omega (arith, h, length-map (runs_from 0 vs) end_of) in
          subst (λ (v : Value). push_fault end_kind [] v ≡ None)
          (sym (end-there (runs_from 0 vs) k inside) ∙ get_or_default (map end_of (runs_from 0 vs)) k Null d h)
          (in-range (stop_or (runs_from 0 vs) k) (omega (arith, small, stop-below 0 (runs_from 0 vs) k (rising 0 vs) inside, last-is 0 vs)));
      small = refl;
      bounded = refl;
    }

-- ---- the items of the children

item-is : ValuesLaw → (kind : DataType) (values : List Value) (k : ℕ) → Fits kind values → k < length values
    → value_at (flat_type kind None) (column_tree kind values None) k ≡ get_or values k Null
item-is law kind values k fits h =
    sym (value-there (value_at (flat_type kind None) (column_tree kind values None)) 0 (length values) k Null h ∙ ap (value_at (flat_type kind None) (column_tree kind values None)) (omega arith))
    ∙ ap (λ (vs : List Value). get_or vs k Null) (law kind values fits)

module _ (law : ValuesLaw) (lawful : LawfulLaw) (kind : DataType) (vs : List Value) (fits : Fits kind vs) (small : length vs < 2 ^ 31) where
  abbrev runs : List Run
  runs = runs_from 0 vs

  abbrev ends : Ends
  ends = ends_in (runs_type kind) (runs_tree kind vs)

  count-ends : run_count (runs_tree kind vs) ≡ length runs
  count-ends = length-map runs end_of

  end-is : (k : ℕ) → k < length runs → ends k ≡ Whole (pos (stop_or runs k))
  end-is k h =
      item-is law end_kind (map end_of runs) k (fit_ends vs small) (omega (arith, h, length-map runs end_of)) ∙ end-there runs k h

  number-is : (k : ℕ) → k < length runs → run_end ends k ≡ pos (stop_or runs k)
  number-is k h = ap whole_of (end-is k h)

  before-is : (k : ℕ) → k ≤ length runs → end_before ends k ≡ pos (before_or 0 runs k)
  before-is zero h = refl
  before-is (suc k) h = number-is k (omega (arith, h))

  holds : (k : ℕ) → k < length runs → EndHolds ends k
  holds k h =
      record {
        is = number-is k h ∙ sym (ap (λ (z : ℤ). pos (natural z)) (number-is k h));
        rises = subst (λ (z : ℤ). natural (end_before ends k) < natural z) (sym (number-is k h))
            (subst (λ (z : ℤ). natural z < stop_or runs k) (sym (before-is k (omega (arith, h)))) (stop-rises 0 runs k (rising 0 vs) h));
      }

  -- ---- no rule fails

  all-none : (f : ℕ → Option Numbers) (n : ℕ) → ((k : ℕ) → k < n → f k ≡ None) → first_below f n ≡ None
  all-none f zero none = refl
  all-none f (suc n) none = ap (λ o. option_or o (f n)) (all-none f n (λ k h. none k (omega (arith, h)))) ∙ none n (omega arith)

  no-fault : (b : Bool) (place : ℕ) (left right : ℤ) → b ≡ false → fault_if b place left right ≡ None
  no-fault true place left right e = absurd (cc)
  no-fault false place left right e = refl

  yes-test : (a b : ℕ) → a < b → nat_lt a b ≡ true
  yes-test a b h = grind (arith, nat_tests)

  no-test : (a b : ℕ) → b ≤ a → nat_lt a b ≡ false
  no-test a b h = grind (arith, nat_tests)

  not-null : (k : ℕ) → k < length runs → null_end ends k ≡ None
  not-null k h = no-fault (is_null (ends k)) k (pos 0) (pos 0) (ap is_null (end-is k h))

  not-falling : (k : ℕ) → k < length runs → end_falls ends k ≡ None
  not-falling k h =
      no-fault (not (int_lt (end_before ends k) (run_end ends k))) k (end_before ends k) (run_end ends k)
      (ap (λ (z : ℤ). not (int_lt z (run_end ends k))) (before-is k (omega (arith, h)))
      ∙ ap (λ (z : ℤ). not (int_lt (pos (before_or 0 runs k)) z)) (number-is k h)
      ∙ ap not (yes-test (before_or 0 runs k) (stop_or runs k) (stop-rises 0 runs k (rising 0 vs) h)))

  last-end : end_before ends (length runs) ≡ pos (length vs)
  last-end = before-is (length runs) (omega arith) ∙ ap pos (last-before 0 runs ∙ last-is 0 vs ∙ omega arith)

  kids-lawful : kids_fault (runs_type kind) (runs_tree kind vs) ≡ None
  kids-lawful =
      lawful-none (flat_type end_kind None ∷ flat_type kind None ∷ []) 0 (children_of (runs_tree kind vs))
      (lawful end_kind (map end_of runs) (fit_ends vs small), (lawful kind (map value_of runs) (fit_values kind vs fits), tt))

  stop-is : end (members_of (runs_tree kind vs)) ≡ length vs
  stop-is = omega arith

  no-nulls : first_below (null_end ends) (run_count (runs_tree kind vs)) ≡ None
  no-nulls = all-none (null_end ends) (run_count (runs_tree kind vs)) (λ k h. not-null k (omega (arith, h, count-ends)))

  no-falls : first_below (end_falls ends) (run_count (runs_tree kind vs)) ≡ None
  no-falls = all-none (end_falls ends) (run_count (runs_tree kind vs)) (λ k h. not-falling k (omega (arith, h, count-ends)))

  enough : nat_lt (value_count (runs_tree kind vs)) (run_count (runs_tree kind vs)) ≡ false
  enough = no-test (value_count (runs_tree kind vs)) (run_count (runs_tree kind vs)) (omega (arith, length-map runs end_of, length-map runs value_of))

  covered : int_lt (end_before ends (run_count (runs_tree kind vs))) (pos (end (members_of (runs_tree kind vs)))) ≡ false
  covered =
      ap (λ (n : ℕ). int_lt (end_before ends n) (pos (end (members_of (runs_tree kind vs))))) count-ends
      ∙ ap (λ (z : ℤ). int_lt z (pos (end (members_of (runs_tree kind vs))))) last-end
      ∙ no-test (length vs) (end (members_of (runs_tree kind vs))) (omega (arith, stop-is))

  near : nat_lt window_limit (end (members_of (runs_tree kind vs))) ≡ false
  near = no-test window_limit (end (members_of (runs_tree kind vs))) (omega (arith, stop-is, small))

  abbrev tree : ArrayTree
  tree = runs_tree kind vs

  abbrev stop : ℕ
  stop = end (members_of tree)

  abbrev last : ℤ
  last = end_before ends (run_count tree)

  ends-pass : first_answer (end_answers ends (run_count tree) (value_count tree) stop) ≡ None
  ends-pass =
      let a1 : by EndsNull (first_below (null_end ends) (run_count tree)) ≡ None = ap (by EndsNull) no-nulls in
      let a2 : by EndsFall (first_below (end_falls ends) (run_count tree)) ≡ None = ap (by EndsFall) no-falls in
      let a3 : by ValuesShort (fault_if (nat_lt (value_count tree) (run_count tree)) 0 (pos (value_count tree)) (pos (run_count tree))) ≡ None =
      ap (by ValuesShort) (no-fault (nat_lt (value_count tree) (run_count tree)) 0 (pos (value_count tree)) (pos (run_count tree)) enough) in
      let a4 : by EndsShort (fault_if (int_lt last (pos stop)) 0 last (pos stop)) ≡ None =
      ap (by EndsShort) (no-fault (int_lt last (pos stop)) 0 last (pos stop) covered) in
      let a5 : by WindowTooLong (fault_if (nat_lt window_limit stop) 0 (pos stop) (pos window_limit)) ≡ None =
      ap (by WindowTooLong) (no-fault (nat_lt window_limit stop) 0 (pos stop) (pos window_limit) near) in
      λ j. first_answer (a1 j ∷ a2 j ∷ a3 j ∷ a4 j ∷ a5 j ∷ [])

  pub coded_lawful : RunsOk (runs_type kind) (runs_tree kind vs)
  coded_lawful =
      ap (λ o. option_or (child_rule o) (first_answer (end_answers ends (run_count tree) (value_count tree) stop))) kids-lawful ∙ ends-pass

  -- ---- the values again

  record Lies (at : ℕ) (rs : List Run) (place : ℕ) : Type 0 where
    k : ℕ
    inside : k < length rs
    before : before_or at rs k ≤ place
    behind : place < stop_or rs k
    value : get_or (map value_of rs) k Null ≡ shown place rs

  before-step : (at : ℕ) (run : Run) (rest : List Run) (k : ℕ) → before_or at (run ∷ rest) (suc k) ≡ before_or run.stop rest k
  before-step at run rest zero = refl
  before-step at run rest (suc k) = refl

  yes-below : (a b : ℕ) → nat_lt a b ≡ true → a < b
  yes-below a b e = grind (arith, nat_tests)

  not-below : (a b : ℕ) → nat_lt a b ≡ false → b ≤ a
  not-below a b e = grind (arith, nat_tests)

  one-lies : (at : ℕ) (run : Run) (rest : List Run) (place : ℕ) (b : Bool) → nat_lt place run.stop ≡ b → at ≤ place
      → (run.stop ≤ place → Lies run.stop rest place) → Lies at (run ∷ rest) place
  one-lies at run rest place true e from more =
      record {
        k = 0;
        inside = omega arith;
        before = from;
        behind = yes-below place run.stop e;
        value = sym (ap (λ (t : Bool). if t then run.value else shown place rest) e);
      }
  one-lies at run rest place false e from more =
      let found = more (not-below place run.stop e) in
      record {
        k = suc found.k;
        inside = omega (arith, found.inside);
        before = subst (λ (n : ℕ). n ≤ place) (sym (before-step at run rest found.k)) found.before;
        behind = found.behind;
        value = found.value ∙ sym (ap (λ (t : Bool). if t then run.value else shown place rest) e);
      }

  lies : (at : ℕ) (rs : List Run) (place : ℕ) → IsRising at rs → at ≤ place → place < last_stop at rs → Lies at rs place
  lies at [] place up from below = absurd (omega (arith, from, below))
  lies at (run ∷ rest) place up from below =
      one-lies at run rest place (nat_lt place run.stop) refl from (λ le. lies run.stop rest place up.1 le below)

  value-is : (i : ℕ) → i < length vs → run_value (runs_type kind) (runs_tree kind vs) i ≡ get_or vs i Null
  value-is i h =
      let t = runs_tree kind vs in
      let found = lies 0 runs i (rising 0 vs) (omega arith) (omega (arith, h, last-is 0 vs)) in
      let run : run_at ends (run_count t) (0 + i) ≡ found.k =
      ap (λ (n : ℕ). run_at ends n (0 + i)) count-ends
      ∙ ap (run_at ends (length runs)) (omega arith)
      ∙ run_is ends (length runs) i found.k holds found.inside
      (subst (λ (z : ℤ). natural z ≤ i) (sym (before-is found.k (omega (arith, found.inside)))) found.before)
      (subst (λ (z : ℤ). i < natural z) (sym (number-is found.k found.inside)) found.behind) in
      ap (value_at (flat_type kind None) (column_tree kind (map value_of runs) None)) run
      ∙ item-is law kind (map value_of runs) found.k (fit_values kind vs fits) (omega (arith, found.inside, length-map runs value_of))
      ∙ found.value
      ∙ subst (λ (n : ℕ). shown n runs ≡ get_or vs i Null) (omega arith) (shows 0 vs i h)

  pub coded_values : run_values (runs_type kind) (runs_tree kind vs) ≡ vs
  coded_values =
      each-is (run_value (runs_type kind) (runs_tree kind vs)) vs 0 Null
      (λ i h. ap (run_value (runs_type kind) (runs_tree kind vs)) (omega arith) ∙ value-is i h)
