-- What a union's array must meet ("Arrow Columnar Format", "Union Layout"; "The Arrow C Data Interface", "The ArrowArray structure").
-- A union has no validity bitmap: buffer 0 is its types buffer.
use Rattle.std.specs.Prelude.{◌≡◌, ℕ, pos, Bool, nat_lt, if◌then◌else◌, List, [], ◌∷◌, Option, None}
use Rattle.tree_model.specs.promise.TreeParts.{children_of}
use Rattle.raw_array.specs.promise.Members.{ArrayMembers, ArrayTree, members_of}
use Rattle.layout_rules.specs.declared.rule.Numbers.{Numbers}
use Rattle.layout_rules.specs.promise.Layout.{items, end}
use Rattle.layout_rules.specs.promise.Rules.{fault_if, missing, too_short, first_below, child_short, window_limit}
use Rattle.layout_rules.specs.promise.Walk.{first_some}
use Rattle.root_check.specs.declared.own.OwnFault.{OwnFault}
use Rattle.root_check.specs.promise.Children.{ChildFault}
use Rattle.root_check.specs.promise.Found.{RuleFound, by, by_child, by_own}
use Rattle.union_cols.specs.promise.Unions.{UnionTree}
use Rattle.union_cols.specs.promise.UnionRules.{Rule, Own, Child, ChildShort, OffsetRange, WindowTooLong, bad_start, need, union_fault}

-- ---- the parts of the rules

abbrev pub UnionFound : Type 0
UnionFound = RuleFound Rule

abbrev pub buffer_count : Bool → ℕ
buffer_count dense = if dense then 2 else 1

abbrev pub buffer_absent : ArrayMembers → ℕ → Option Numbers
buffer_absent own k = missing (need own k) own k

abbrev pub buffer_short : ArrayMembers → ℕ → Option Numbers
buffer_short own k = too_short (need own k) own k

abbrev pub own_of : OwnFault → UnionFound
own_of fault = record { rule = Own fault.rule; numbers = fault.numbers }

abbrev pub faulty_of : ChildFault → UnionFound
faulty_of fault = record { rule = Child fault.fault; numbers = record { place = fault.child; left = pos 0; right = pos 0 } }

abbrev pub own_rule : Option OwnFault → Option UnionFound
own_rule found = by_own Own found

abbrev pub child_rule : Option ChildFault → Option UnionFound
child_rule found = by_child Child found

-- What the last rules say: what the items need of the children, and how long a window may be.
abbrev pub place_answers : Bool → List ℕ → ArrayTree → List (Option UnionFound)
place_answers dense ids array =
    let own = members_of array in
    by ChildShort (if dense then None else child_short (end own) 0 (children_of array)) ∷
    by OffsetRange (if dense then first_below (bad_start ids array) (items own) else None) ∷
    by WindowTooLong (fault_if (nat_lt window_limit (end own)) 0 (pos (end own)) (pos window_limit)) ∷
    []

abbrev pub first_answer : List (Option UnionFound) → Option UnionFound
first_answer found = first_some (λ answer. answer) found

-- ---- the rules in order

-- No rule fails.
abbrev pub UnionOk : UnionTree → ArrayTree → Type 0
UnionOk u array = union_fault u array ≡ None
