-- The children that are too short, one by one.
use Rattle.std.proofs.Common.{◌≡◌, ℕ, ◌+◌, ◌<◌, ◌≤◌, List, length, None, get_or, drop, ap, ◌∙◌, arith}
use Rattle.std.specs.Option.{option_or}
use Rattle.std.proofs.lemmas.List.{drop_more, drop_all}
use Rattle.tree_model.specs.promise.TreeData.{Released}
use Rattle.raw_array.specs.promise.Members.{ArrayTree}
use Rattle.layout_rules.specs.promise.Rules.{child_short, short_child, live_length}

pub child_short-step : (needed i : ℕ) (children : List ArrayTree) → i < length children
    → child_short needed i (drop i children)
    ≡ option_or (short_child needed i (live_length (get_or children i Released))) (child_short needed (i + 1) (drop (i + 1) children))
child_short-step needed i children h =
    ap (child_short needed i) (drop_more children i Released (omega arith))
    ∙ ap (λ k. option_or (short_child needed i (live_length (get_or children i Released))) (child_short needed k (drop (i + 1) children))) (omega arith)

pub child_short-end : (needed i : ℕ) (children : List ArrayTree) → length children ≤ i → child_short needed i (drop i children) ≡ None
child_short-end needed i children h = ap (child_short needed i) (drop_all i children h)

pub ruleset steps = (child_short-step, child_short-end)
