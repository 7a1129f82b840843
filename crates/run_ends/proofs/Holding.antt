-- What holds of a run-end encoded array at which no rule fails.
use Rattle.std.proofs.Common.{◌≡◌, ℕ, zero, suc, ◌+◌, ◌^◌, ◌<◌, ◌≤◌, Bool, true, false, ℤ, pos, negsuc, not, List, [], ◌∷◌, length, get_or, Option, None, Some, refl, ap, ◌∙◌, arith}
use Rattle.std.specs.Prelude.{nat_lt, int_lt, is_none, IsTrue}
use Rattle.std.specs.List.{AllZip}
use Rattle.std.proofs.lemmas.Bool.Decides.{nat_tests}
use Rattle.tree_model.specs.promise.TreeData.{Released}
use Rattle.tree_model.specs.promise.TreeParts.{children_of}
use Rattle.raw_array.specs.promise.Members.{ArrayTree, members_of}
use Rattle.data_types.specs.promise.KindTrees.{KindTree}
use Rattle.layout_rules.specs.declared.rule.Numbers.{Numbers}
use Rattle.layout_rules.specs.promise.Layout.{end, natural}
use Rattle.layout_rules.specs.promise.Rules.{fault_if, first_below, window_limit}
use Rattle.layout_rules.specs.promise.Values.{value_at}
use Rattle.layout_rules.specs.promise.Walk.{LayoutOk}
use Rattle.layout_rules.proofs.Firsts.{first_below-none_at}
use Rattle.layout_rules.proofs.Lawful.{left-none, right-none}
use Rattle.arr_import.specs.Window.{Window, whole, item_at}
use Rattle.root_check.specs.declared.own.OwnFault.{OwnFault}
use Rattle.root_check.specs.promise.OwnRules.{own_fault}
use Rattle.root_check.specs.OwnRules.{OwnHolds}
use Rattle.root_check.specs.promise.Children.{ChildFault, children_fault}
use Rattle.run_ends.specs.promise.Runs.{RunTree, Ends, ends_in, run_count, run_end, end_before}
use Rattle.run_ends.specs.Runs.{value_count}
use Rattle.run_ends.specs.promise.RunRules.{Rule, EndsNull, EndsFall, ValuesShort, EndsShort, WindowTooLong}
use Rattle.root_check.specs.promise.Found.{by}
use Rattle.run_ends.specs.RunRules.{null_end, end_falls, own_rule, child_rule, kids_fault}
use Rattle.run_ends.specs.promise.RunRules.{runs_fault}
use Rattle.run_ends.specs.RunHolds.{EndHolds, RunsHold}

-- ---- answers that are none

own-none : (fault : Option OwnFault) → own_rule fault ≡ None → fault ≡ None
own-none None e = refl
own-none (Some fault) e = absurd (cc)

child-none : (fault : Option ChildFault) → child_rule fault ≡ None → fault ≡ None
child-none None e = refl
child-none (Some fault) e = absurd (cc)

by-none : (rule : Rule) (fault : Option Numbers) → by rule fault ≡ None → fault ≡ None
by-none rule None e = refl
by-none rule (Some numbers) e = absurd (cc)

passes : (b : Bool) (place : ℕ) (left right : ℤ) → fault_if b place left right ≡ None → b ≡ false
passes false place left right e = refl
passes true place left right e = absurd (cc)

-- ---- the items of a whole window

plus_zero : (k : ℕ) → 0 + k ≡ k
plus_zero k = omega arith

pub items-shown : (w : Window) (t : KindTree) (a : ArrayTree) → w ≡ whole t a → item_at w ≡ value_at t a
items-shown w t a e = ap item_at e ∙ (λ j k. value_at t a (plus_zero k j))

-- ---- the two children

two_lawful : (ends values : KindTree) (children : List ArrayTree) → AllZip LayoutOk (ends ∷ values ∷ []) children
    → LayoutOk ends (get_or children 0 Released) × LayoutOk values (get_or children 1 Released)
two_lawful ends values [] all = absurd all
two_lawful ends values (a ∷ []) all = absurd (all.1)
two_lawful ends values (a ∷ b ∷ more) all = (all.0, all.1.0)

-- ---- ends

above : (a b : ℤ) → a ≡ pos (natural a) → int_lt a b ≡ true → (b ≡ pos (natural b)) × (natural a < natural b)
above (pos x) (pos y) is e = (refl, grind (arith, nat_tests))
above (pos x) (negsuc y) is e = absurd (cc)
above (negsuc x) b is e = absurd (cc)

not-false : (b : Bool) → not b ≡ false → b ≡ true
not-false true e = refl
not-false false e = absurd (cc)

rises : (ends : Ends) (n k : ℕ) → k < n → first_below (end_falls ends) n ≡ None → int_lt (end_before ends k) (run_end ends k) ≡ true
rises ends n k h e =
    not-false (int_lt (end_before ends k) (run_end ends k))
    (passes (not (int_lt (end_before ends k) (run_end ends k))) k (end_before ends k) (run_end ends k) (first_below-none_at (end_falls ends) n k h e))

ends_hold : (ends : Ends) (n : ℕ) → first_below (end_falls ends) n ≡ None → (k : ℕ) → k < n → EndHolds ends k
ends_hold ends n e zero h = let found = above (pos 0) (run_end ends 0) refl (rises ends n 0 h e) in record { is = found.0; rises = found.1 }
ends_hold ends n e (suc k) h =
    let before = ends_hold ends n e k (omega (arith, h)) in
    let found = above (run_end ends k) (run_end ends (suc k)) before.is (rises ends n (suc k) h e) in
    record { is = found.0; rises = found.1 }

low_enough : (place : ℕ) (last : ℤ) → fault_if (int_lt last (pos place)) 0 last (pos place) ≡ None → place ≤ natural last
low_enough place (pos n) e = let test = passes (nat_lt n place) 0 (pos n) (pos place) e in grind (arith, nat_tests)
low_enough place (negsuc n) e = absurd (cc)

many_enough : (found needed : ℕ) → fault_if (nat_lt found needed) 0 (pos found) (pos needed) ≡ None → needed ≤ found
many_enough found needed e = let test = passes (nat_lt found needed) 0 (pos found) (pos needed) e in grind (arith, nat_tests)

near_of : (places : ℕ) → fault_if (nat_lt window_limit places) 0 (pos places) (pos window_limit) ≡ None → places ≤ 2 ^ 40
near_of places e = let test = passes (nat_lt window_limit places) 0 (pos places) (pos window_limit) e in grind (arith, nat_tests)

-- ---- the whole

abbrev pub OwnFaultless : Type 0
OwnFaultless = (buffers children : ℕ) (array : ArrayTree) → own_fault buffers children array ≡ None → OwnHolds buffers children array

abbrev pub KidsFaultless : Type 0
KidsFaultless =
    (kids : List KindTree) (children : List ArrayTree) → length children ≡ length kids → children_fault kids 0 children ≡ None → AllZip LayoutOk kids children

pub none_of : {X : Type 0} → (o : Option X) → IsTrue (is_none o) → o ≡ None
none_of None h = refl
none_of (Some x) h = absurd (cc)

pub runs_hold : OwnFaultless → KidsFaultless → (u : RunTree) (array : ArrayTree) → runs_fault u array ≡ None → RunsHold u array
runs_hold own_law kids_law u array e =
    let ends = ends_in u array in
    let runs = run_count array in
    let values = value_count array in
    let stop = end (members_of array) in
    let s1 = own_rule (own_fault 0 2 array) in
    let s2 = child_rule (kids_fault u array) in
    let s3 = by EndsNull (first_below (null_end ends) runs) in
    let s4 = by EndsFall (first_below (end_falls ends) runs) in
    let s5 = by ValuesShort (fault_if (nat_lt values runs) 0 (pos values) (pos runs)) in
    let s6 = by EndsShort (fault_if (int_lt (end_before ends runs) (pos stop)) 0 (end_before ends runs) (pos stop)) in
    let s7 = by WindowTooLong (fault_if (nat_lt window_limit stop) 0 (pos stop) (pos window_limit)) in
    let a1 = left-none s1 _ e in
    let e1 = right-none s1 _ a1 e in
    let a2 = left-none s2 _ e1 in
    let e2 = right-none s2 _ a2 e1 in
    let a3 = left-none s3 _ e2 in
    let e3 = right-none s3 _ a3 e2 in
    let a4 = left-none s4 _ e3 in
    let e4 = right-none s4 _ a4 e3 in
    let a5 = left-none s5 _ e4 in
    let e5 = right-none s5 _ a5 e4 in
    let a6 = left-none s6 _ e5 in
    let e6 = right-none s6 _ a6 e5 in
    let a7 = left-none s7 _ e6 in
    let holds = own_law 0 2 array (own-none _ a1) in
    let lawful =
    two_lawful u.ends u.values (children_of array)
    (kids_law (u.ends ∷ u.values ∷ []) (children_of array) holds.children_are (child-none _ a2)) in
    record {
      own = holds;
      ends = lawful.0;
      values = lawful.1;
      each = ends_hold ends runs (by-none EndsFall _ a4);
      covered = low_enough stop (end_before ends runs) (by-none EndsShort _ a6);
      valued = many_enough values runs (by-none ValuesShort _ a5);
      near = near_of stop (by-none WindowTooLong _ a7);
    }
