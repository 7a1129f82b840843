-- The first rule of a root that fails, for each kind of root: its own rules are `R`, of which one is on the root's own numbers and parts,
-- and one on its children.
use Rattle.std.specs.Prelude.{pos, Option, option_map}
use Rattle.layout_rules.specs.declared.rule.Numbers.{Numbers}
use Rattle.layout_rules.specs.promise.Walk.{Fault}
use Rattle.root_check.specs.declared.own.OwnFault.{OwnFault}
use Rattle.root_check.specs.declared.own.OwnRule.{OwnRule}
use Rattle.root_check.specs.promise.Children.{ChildFault}

-- a rule that fails, with its place and its two numbers
pub record RuleFound (R : Type 0) : Type 0 where
  pub rule : R
  pub numbers : Numbers

-- a rule fails with these numbers, where there are any
abbrev pub by : {R : Type 0} → R → Option Numbers → Option (RuleFound R)
by rule found = option_map (λ numbers. record { rule = rule; numbers = numbers }) found

-- the rule on the root's own numbers and parts fails with the first fault of these
abbrev pub by_own : {R : Type 0} → (OwnRule → R) → Option OwnFault → Option (RuleFound R)
by_own rule_of found = option_map (λ (fault : OwnFault). record { rule = rule_of fault.rule; numbers = fault.numbers }) found

-- the rule on the children fails at the first child at fault, with its number
abbrev pub by_child : {R : Type 0} → (Fault → R) → Option ChildFault → Option (RuleFound R)
by_child rule_of found =
    option_map (λ (child : ChildFault). record {
      rule = rule_of child.fault;
      numbers = record { place = child.child; left = pos 0; right = pos 0 };
    }) found
