-- What a run-end encoded array must meet ("Arrow Columnar Format", "Run-End Encoded Layout"; "The Arrow C Data Interface", "The
-- ArrowArray structure"). Such an array has no buffers, and two children: the ends of its runs, and their values.
use Rattle.std.specs.Prelude.{pos, not, nat_lt, int_lt, [], ◌∷◌, Option}
use Rattle.data_types.specs.promise.Value.{is_null}
use Rattle.tree_model.specs.promise.TreeParts.{child_at, children_of}
use Rattle.raw_array.specs.promise.Members.{ArrayTree, members_of}
use Rattle.layout_rules.specs.promise.Layout.{end}
use Rattle.layout_rules.specs.promise.Rules.{fault_if, first_below, window_limit}
use Rattle.layout_rules.specs.promise.Values.{tree_items}
use Rattle.layout_rules.specs.promise.Walk.{Fault, first_some}
use Rattle.root_check.specs.declared.own.OwnRule.{OwnRule}
use Rattle.root_check.specs.promise.OwnRules.{own_fault}
use Rattle.root_check.specs.promise.Children.{children_fault}
use Rattle.root_check.specs.promise.Found.{RuleFound, by, by_child, by_own}
use Rattle.run_ends.specs.promise.Runs.{RunTree, ends_in, run_count, run_end, end_before}

-- a rule; that on the children has the child's own first fault, whose way begins at the child
pub data Rule : Type 0 where
  Own : OwnRule → Rule
  Child : Fault → Rule
  EndsNull : Rule
  EndsFall : Rule
  ValuesShort : Rule
  EndsShort : Rule
  WindowTooLong : Rule

-- ---- the rules in order

-- The first rule that fails, with its place and its two numbers, in the order in which they are tried. A rule is read where no rule before
-- it fails. An end may not be null, and is above the one before it, the first one above 0. There are as many values as ends, and the last
-- end reaches the window's: it is that before a run behind all others, and so 0 where there are none.
abbrev pub runs_fault : RunTree → ArrayTree → Option (RuleFound Rule)
runs_fault u array =
    let ends = ends_in u array in
    let runs = run_count array in
    let values = tree_items (child_at array 1) in
    let stop = end (members_of array) in
    first_some (λ answer. answer)
    (by_own Own (own_fault 0 2 array) ∷
    by_child Child (children_fault (u.ends ∷ u.values ∷ []) 0 (children_of array)) ∷
    by EndsNull (first_below (λ k. fault_if (is_null (ends k)) k (pos 0) (pos 0)) runs) ∷
    by EndsFall (first_below (λ k. fault_if (not (int_lt (end_before ends k) (run_end ends k))) k (end_before ends k) (run_end ends k)) runs) ∷
    by ValuesShort (fault_if (nat_lt values runs) 0 (pos values) (pos runs)) ∷
    by EndsShort (fault_if (int_lt (end_before ends runs) (pos stop)) 0 (end_before ends runs) (pos stop)) ∷
    by WindowTooLong (fault_if (nat_lt window_limit stop) 0 (pos stop) (pos window_limit)) ∷
    [])
