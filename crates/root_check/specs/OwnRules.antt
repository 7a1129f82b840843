-- What a root must meet whose type has no validity bitmap and no dictionary ("The Arrow C Data Interface", "The ArrowArray
-- structure"): the rules on its own numbers, and on how many parts it has.
use Rattle.std.specs.Prelude.{◌≡◌, ℕ, pos, ◌≤ℤ◌, List, [], ◌∷◌, length, Option, option_map}
use Rattle.tree_model.specs.promise.TreeParts.{IsLive, children_of, dictionary_of}
use Rattle.raw_array.specs.promise.Members.{ArrayTree, members_of}
use Rattle.layout_rules.specs.declared.rule.Numbers.{Numbers}
use Rattle.layout_rules.specs.promise.Rules.{one_if}
use Rattle.layout_rules.specs.promise.Walk.{first_some}
use Rattle.root_check.specs.declared.own.OwnFault.{OwnFault}
use Rattle.root_check.specs.declared.own.OwnRule.{OwnRule}
use Rattle.root_check.specs.declared.own.OwnRule.TheVariants as rules
use Rattle.root_check.specs.promise.OwnRules.{own_fails}

-- what holds of an array at which none fails
pub record OwnHolds (buffers children : ℕ) (array : ArrayTree) : Type 0 where
  pub live : IsLive array
  pub sized : pos 0 ≤ℤ (members_of array).length
  pub placed : pos 0 ≤ℤ (members_of array).offset
  pub buffers_are : length (members_of array).buffers ≡ buffers
  pub children_are : length (children_of array) ≡ children
  pub plain : one_if (dictionary_of array) ≡ 0

-- ---- the rules in order

abbrev pub number_rules : List OwnRule
number_rules = rules.NegativeLength ∷ rules.NegativeOffset ∷ []

abbrev pub part_rules : List OwnRule
part_rules = rules.BufferCount ∷ rules.ChildCount ∷ rules.Dictionary ∷ rules.NullCount ∷ []

abbrev pub own_found : OwnRule → Option Numbers → Option OwnFault
own_found rule found = option_map (λ numbers. record { rule = rule; numbers = numbers }) found

-- the first of some rules that fails, with its numbers
abbrev pub fault_among : List OwnRule → ℕ → ℕ → ArrayTree → Option OwnFault
fault_among some buffers children array = first_some (λ rule. own_found rule (own_fails buffers children array rule)) some
