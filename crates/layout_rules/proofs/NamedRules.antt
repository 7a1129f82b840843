-- The rules of a node by name.
use Rattle.std.proofs.Common.{◌≡◌, ◌∙◌, List, [], ◌∷◌, Option, None, Some, refl, ap}
use Rattle.std.specs.Option.{option_or}
use Rattle.layout_rules.specs.declared.rule.LayoutRule.{LayoutRule}
use Rattle.layout_rules.specs.declared.rule.LayoutRule.TheVariants as rules
use Rattle.layout_rules.specs.declared.rule.Numbers.{Numbers}
use Rattle.layout_rules.specs.promise.Rules.{Node, fails, in_order}
use Rattle.layout_rules.specs.promise.Walk.{fault_at}
use Rattle.layout_rules.specs.Walk.{fault_by, rules_fault}
use Rattle.layout_rules.proofs.Lawful.{left-none, right-none}
use Rattle.data_types.specs.promise.Ways.{Steps}

-- no rule fails at the node
abbrev pub AreMet : Node → Type 0
AreMet node = (rule : LayoutRule) → fails rule node ≡ None

abbrev Passes : Node → List LayoutRule → Type 0
Passes node [] = Unit {0}
Passes node (rule ∷ others) = (fails rule node ≡ None) × Passes node others

no-fault : (path : Steps) (rule : LayoutRule) (found : Option Numbers) → fault_at path rule found ≡ None → found ≡ None
no-fault path rule None e = refl
no-fault path rule (Some numbers) e = absurd (cc)

passed : (path : Steps) (node : Node) (others : List LayoutRule) → rules_fault others path node ≡ None → Passes node others
passed path node [] e = tt
passed path node (rule ∷ others) e =
    let head = left-none (fault_by path node rule) (rules_fault others path node) e in
    (no-fault path rule (fails rule node) head, passed path node others (right-none (fault_by path node rule) (rules_fault others path node) head e))

by-name : (node : Node) → Passes node in_order → AreMet node
by-name node (length, (offset, (buffers, (children, (dictionary, (absent, (short, (fall, (child, (nulls, (place, (prefix, (text, (index, (window, end))))))))))))))) = by
  where
    by : AreMet node
    by rules.Released = refl
    by rules.NegativeLength = length
    by rules.NegativeOffset = offset
    by rules.BufferCount = buffers
    by rules.ChildCount = children
    by rules.Dictionary = dictionary
    by rules.BufferAbsent = absent
    by rules.BufferShort = short
    by rules.OffsetsFall = fall
    by rules.ChildShort = child
    by rules.NullCount = nulls
    by rules.ViewPlace = place
    by rules.ViewPrefix = prefix
    by rules.NotText = text
    by rules.IndexRange = index
    by rules.WindowTooLong = window
    by rules.TopKind = refl
    by rules.TopNulls = refl

pub are-met : (path : Steps) (node : Node) → rules_fault in_order path node ≡ None → AreMet node
are-met path node e = by-name node (passed path node in_order e)

pub none-fails : (path : Steps) (node : Node) (some : List LayoutRule) → AreMet node → rules_fault some path node ≡ None
none-fails path node [] met = refl
none-fails path node (rule ∷ others) met =
    ap (λ found. option_or (fault_at path rule found) (rules_fault others path node)) (met rule) ∙ none-fails path node others met
