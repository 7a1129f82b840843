-- What a run-end encoded array must meet ("Arrow Columnar Format", "Run-End Encoded Layout"; "The Arrow C Data Interface", "The
-- ArrowArray structure"). Such an array has no buffers, and two children: the ends of its runs, and their values.
use Rattle.std.specs.Prelude.{◌≡◌, ℕ, pos, not, nat_lt, int_lt, List, [], ◌∷◌, Option, None}
use Rattle.data_types.specs.promise.Value.{is_null}
use Rattle.tree_model.specs.promise.TreeParts.{children_of}
use Rattle.raw_array.specs.promise.Members.{ArrayTree}
use Rattle.layout_rules.specs.declared.rule.Numbers.{Numbers}
use Rattle.layout_rules.specs.promise.Rules.{fault_if, first_below, window_limit}
use Rattle.layout_rules.specs.promise.Walk.{first_some}
use Rattle.root_check.specs.declared.own.OwnFault.{OwnFault}
use Rattle.root_check.specs.promise.Children.{ChildFault, children_fault}
use Rattle.root_check.specs.promise.Found.{RuleFound, by, by_child, by_own}
use Rattle.run_ends.specs.promise.Runs.{RunTree, Ends, run_end, end_before}
use Rattle.run_ends.specs.promise.RunRules.{Rule, Own, Child, EndsNull, EndsFall, ValuesShort, EndsShort, WindowTooLong, runs_fault}

-- ---- the parts of the rules

abbrev pub RunsFound : Type 0
RunsFound = RuleFound Rule

-- an end that is null
abbrev pub null_end : Ends → ℕ → Option Numbers
null_end ends k = fault_if (is_null (ends k)) k (pos 0) (pos 0)

-- an end that isn't above the one before it, or the first one that isn't above 0
abbrev pub end_falls : Ends → ℕ → Option Numbers
end_falls ends k = fault_if (not (int_lt (end_before ends k) (run_end ends k))) k (end_before ends k) (run_end ends k)

abbrev pub own_of : OwnFault → RunsFound
own_of fault = record { rule = Own fault.rule; numbers = fault.numbers }

abbrev pub own_rule : Option OwnFault → Option RunsFound
own_rule found = by_own Own found

abbrev pub child_rule : Option ChildFault → Option RunsFound
child_rule found = by_child Child found

-- the first child at fault
abbrev pub kids_fault : RunTree → ArrayTree → Option ChildFault
kids_fault u array = children_fault (u.ends ∷ u.values ∷ []) 0 (children_of array)

-- What the last rules say of this many ends, this many values and the place behind the window's last item: on the ends, and on what
-- the array needs of its children.
abbrev pub end_answers : Ends → ℕ → ℕ → ℕ → List (Option RunsFound)
end_answers ends runs values stop =
    by EndsNull (first_below (null_end ends) runs) ∷
    by EndsFall (first_below (end_falls ends) runs) ∷
    by ValuesShort (fault_if (nat_lt values runs) 0 (pos values) (pos runs)) ∷
    by EndsShort (fault_if (int_lt (end_before ends runs) (pos stop)) 0 (end_before ends runs) (pos stop)) ∷
    by WindowTooLong (fault_if (nat_lt window_limit stop) 0 (pos stop) (pos window_limit)) ∷
    []

abbrev pub first_answer : List (Option RunsFound) → Option RunsFound
first_answer found = first_some (λ answer. answer) found

-- ---- the rules in order

-- No rule fails.
abbrev pub RunsOk : RunTree → ArrayTree → Type 0
RunsOk u array = runs_fault u array ≡ None
