-- What a union's array must meet ("Arrow Columnar Format", "Union Layout"; "The Arrow C Data Interface", "The ArrowArray structure").
-- A union has no validity bitmap: buffer 0 is its types buffer.
use Rattle.std.specs.Prelude.{ℕ, zero, suc, ◌*◌, pos, nat_lt, is_none, if◌then◌else◌, List, [], ◌∷◌, length, Option, None}
use Rattle.tree_model.specs.promise.TreeParts.{children_of, child_at}
use Rattle.raw_array.specs.promise.Members.{ArrayMembers, ArrayTree, members_of}
use Rattle.layout_rules.specs.declared.rule.Numbers.{Numbers}
use Rattle.layout_rules.specs.promise.Layout.{items, end}
use Rattle.layout_rules.specs.promise.Rules.{fault_if, missing, too_short, first_below, child_short, is_outside, window_limit}
use Rattle.layout_rules.specs.promise.Walk.{Fault, first_some}
use Rattle.root_check.specs.declared.own.OwnRule.{OwnRule}
use Rattle.root_check.specs.promise.OwnRules.{own_fault}
use Rattle.root_check.specs.promise.Children.{children_fault}
use Rattle.root_check.specs.promise.Found.{RuleFound, by, by_child, by_own}
use Rattle.union_cols.specs.promise.Unions.{UnionTree, id_at, start_at, child_of, child_number}

-- a rule; that on the children has the child's own first fault, whose way begins at the child
pub data Rule : Type 0 where
  Own : OwnRule → Rule
  BufferAbsent : Rule
  BufferShort : Rule
  BadTypeId : Rule
  Child : Fault → Rule
  ChildShort : Rule
  OffsetRange : Rule
  WindowTooLong : Rule

-- ---- the rules

-- how many bytes of its k-th buffer an array needs: an id of one byte, and an offset of four, for each place up to the window's end
abbrev pub need : ArrayMembers → ℕ → ℕ
need own zero = end own
need own (suc k) = 4 * end own

-- an item whose id no child has
abbrev pub bad_id : List ℕ → ArrayMembers → ℕ → Option Numbers
bad_id ids own i = fault_if (is_none (child_of ids (id_at own i))) i (id_at own i) (pos 0)

-- an item of a dense union whose offset is no place of its child
abbrev pub bad_start : List ℕ → ArrayTree → ℕ → Option Numbers
bad_start ids array i =
    let own = members_of array in
    let total = (members_of (child_at array (child_number ids own i))).length in
    fault_if (is_outside total (start_at own i)) i (start_at own i) total

-- ---- the rules in order

-- The first rule that fails, with its place and its two numbers, in the order in which they are tried. A rule is read where no rule before
-- it fails. The last ones say what the items need of the children, and how long a window may be.
abbrev pub union_fault : UnionTree → ArrayTree → Option (RuleFound Rule)
union_fault u array =
    let own = members_of array in
    let buffers = if u.dense then 2 else 1 in
    first_some (λ answer. answer)
    (by_own Own (own_fault buffers (length u.kids) array) ∷
    by BufferAbsent (first_below (λ k. missing (need own k) own k) buffers) ∷
    by BufferShort (first_below (λ k. too_short (need own k) own k) buffers) ∷
    by BadTypeId (first_below (bad_id u.ids own) (items own)) ∷
    by_child Child (children_fault u.kids 0 (children_of array)) ∷
    by ChildShort (if u.dense then None else child_short (end own) 0 (children_of array)) ∷
    by OffsetRange (if u.dense then first_below (bad_start u.ids array) (items own) else None) ∷
    by WindowTooLong (fault_if (nat_lt window_limit (end own)) 0 (pos (end own)) (pos window_limit)) ∷
    [])
