-- What a root must meet whose type has no validity bitmap and no dictionary ("The Arrow C Data Interface", "The ArrowArray
-- structure"): the rules on its own numbers, and on how many parts it has.
use Rattle.std.specs.Prelude.{ℕ, pos, negsuc, not, ◌&&◌, List, [], ◌∷◌, length, Option, None, option_map}
use Rattle.std.specs.Ordering.{int_eq}
use Rattle.tree_model.specs.promise.TreeData.{Released, Live}
use Rattle.tree_model.specs.promise.TreeParts.{children_of, dictionary_of}
use Rattle.raw_array.specs.promise.Members.{ArrayTree, members_of}
use Rattle.layout_rules.specs.declared.rule.Numbers.{Numbers}
use Rattle.layout_rules.specs.promise.Rules.{fault, fault_if, is_negative, count_wrong, one_if}
use Rattle.layout_rules.specs.promise.Walk.{first_some}
use Rattle.root_check.specs.declared.own.OwnFault.{OwnFault}
use Rattle.root_check.specs.declared.own.OwnRule.{OwnRule}
use Rattle.root_check.specs.declared.own.OwnRule.TheVariants as rules

abbrev pub released : ArrayTree → Option Numbers
released Released = fault 0 (pos 0) (pos 0)
released (Live own children dictionary) = None

-- What each rule says of an array that should have this many buffers and this many children. A rule is read where no rule before
-- it fails.
abbrev pub own_fails : ℕ → ℕ → ArrayTree → OwnRule → Option Numbers
own_fails buffers children array rules.Released = released array
own_fails buffers children array rules.NegativeLength = fault_if (is_negative (members_of array).length) 0 (members_of array).length (pos 0)
own_fails buffers children array rules.NegativeOffset = fault_if (is_negative (members_of array).offset) 0 (members_of array).offset (pos 0)
own_fails buffers children array rules.BufferCount = count_wrong (length (members_of array).buffers) buffers
own_fails buffers children array rules.ChildCount = count_wrong (length (children_of array)) children
own_fails buffers children array rules.Dictionary = count_wrong (one_if (dictionary_of array)) 0
own_fails buffers children array rules.NullCount =
    let nulls = (members_of array).null_count in
    fault_if (not (int_eq nulls (pos 0)) && not (int_eq nulls (negsuc 0))) 0 nulls (pos 0)

-- the order in which they are tried: first whether there is an array, then its numbers, then its parts and its nulls
abbrev pub own_rules : List OwnRule
own_rules =
    rules.Released ∷
    rules.NegativeLength ∷
    rules.NegativeOffset ∷
    rules.BufferCount ∷
    rules.ChildCount ∷
    rules.Dictionary ∷
    rules.NullCount ∷
    []

-- the first of them that fails, with its numbers
abbrev pub own_fault : ℕ → ℕ → ArrayTree → Option OwnFault
own_fault buffers children array =
    first_some (λ rule. option_map (λ numbers. record { rule = rule; numbers = numbers }) (own_fails buffers children array rule)) own_rules
