-- Names for the tests of one item, and the rules in three groups.
use Rattle.std.specs.Prelude.{ℕ, Bool, if◌then◌else◌, List, [], ◌∷◌, Option, None}
use Rattle.raw_array.specs.promise.Members.{ArrayMembers}
use Rattle.layout_rules.specs.declared.rule.LayoutRule.{LayoutRule}
use Rattle.layout_rules.specs.declared.rule.LayoutRule.TheVariants as rules
use Rattle.layout_rules.specs.declared.rule.Numbers.{Numbers}
use Rattle.layout_rules.specs.promise.Layout.{is_valid, bytes, first, data_of, need}
use Rattle.layout_rules.specs.promise.Views.{view_data}
use Rattle.layout_rules.specs.promise.Rules.{bad_text, falls_in, view_outside, too_short}
use Rattle.layout_rules.specs.declared.layout.Layout.{Layout}

abbrev pub offset_falls : Bool → ArrayMembers → ℕ → Option Numbers
offset_falls wide own = falls_in wide (bytes own 1) (first own)

abbrev pub not_text : Bool → ArrayMembers → ℕ → Option Numbers
not_text wide own i = bad_text own i (data_of wide own i)

abbrev pub view_not_text : ArrayMembers → ℕ → Option Numbers
view_not_text own i = bad_text own i (view_data own i)

abbrev pub misplaced : ArrayMembers → ℕ → Option Numbers
misplaced own i = if is_valid own i then view_outside own i else None

abbrev pub form_rules : List LayoutRule
form_rules =
    rules.NegativeLength ∷ rules.NegativeOffset ∷ rules.BufferCount ∷ rules.ChildCount ∷ rules.Dictionary ∷ []

abbrev pub buffer_rules : List LayoutRule
buffer_rules = rules.BufferAbsent ∷ rules.BufferShort ∷ rules.OffsetsFall ∷ []

abbrev pub item_rules : List LayoutRule
item_rules =
    rules.ChildShort ∷ rules.NullCount ∷ rules.ViewPlace ∷ rules.ViewPrefix ∷ rules.NotText ∷ rules.IndexRange ∷ rules.WindowTooLong ∷ []

-- a present buffer that is shorter than its need
abbrev pub buffer_short : Layout → ArrayMembers → ℕ → Option Numbers
buffer_short layout own k = too_short (need layout own k) own k
