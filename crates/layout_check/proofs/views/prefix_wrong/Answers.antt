use Rattle.std.proofs.Common.{◌≡◌, ◌+◌, ◌≤◌, ◌&&◌, ◌==◌, ℕ, ℤ, pos, not, Bool, true, ap, subst, sym, ◌∙◌, arith}
use Rattle.raw_array.specs.promise.Members.{members_of}
use Rattle.layout_rules.specs.promise.Views.{view_length, view_data, is_long}
use Rattle.layout_rules.specs.Views.{view_prefix}
use Rattle.layout_rules.specs.promise.Rules.{fault_if}
use Rattle.layout_check.proofs.Casts.{is_longer-gt}
use Rattle.data_types.specs.promise.Packed.{number_at}
use Rattle.layout_check.proofs.views.prefix_wrong.Goals as goal

four_within : (n : ℕ) (y : ℤ) → is_long y ≡ true → pos n ≡ y → 0 + 4 ≤ n
four_within n y l e = longer (subst (λ z. is_long z ≡ true) (sym e) l)
  where
    longer : is_long (pos n) ≡ true → 0 + 4 ≤ n
    longer h = grind arith

wrong_of : (valid long other : Bool) (i : ℕ) (x y : ℤ) → valid ≡ true → long ≡ true → fault_if other i x y ≡ fault_if (valid && long && other) i x y
wrong_of valid long other i x y v l = ap (λ b. fault_if (b && other) i x y) (sym l) ∙ ap (λ b. fault_if (b && long && other) i x y) (sym v)

pub view_data-requires-clause-within : goal.view_data-requires-clause-within
view_data-requires-clause-within c = c.requires.within (sym c.is_valid.ensures ∙ c.if-is_valid.true)

pub unsigned_at-begin-requires-clause-within : goal.unsigned_at-begin-requires-clause-within
unsigned_at-begin-requires-clause-within c =
    let size = view_length (members_of c.args.node.now.array.now) c.args.i in
    four_within _ size (is_longer-gt c.view_length.result size c.view_length.type_inv c.view_length.ensures c.if-view_length-gt-MOST_IN_VIEW.true)
    c.view_data.ensures.size

pub returns-then-view_length-gt-MOST_IN_VIEW : goal.returns-then-view_length-gt-MOST_IN_VIEW
returns-then-view_length-gt-MOST_IN_VIEW c =
    let own = members_of c.args.node.now.array.now in
    let i = c.args.i in
    let size = view_length own i in
    let long = is_longer-gt c.view_length.result size c.view_length.type_inv c.view_length.ensures c.if-view_length-gt-MOST_IN_VIEW.true in
    let begin = c.unsigned_at-begin.ensures ∙ ap (λ d. number_at d 0 4) c.view_data.ensures.bytes in
    let begins = number_at (view_data own i) 0 4 in
    c.other_prefix.ensures
    ∙ ap (λ n. fault_if (not (n == c.unsigned_at-begin.result)) i (pos n) (pos c.unsigned_at-begin.result)) c.view_prefix.ensures
    ∙ ap (λ n. fault_if (not (view_prefix own i == n)) i (pos (view_prefix own i)) (pos n)) begin
    ∙ wrong_of _ (is_long size) (not (view_prefix own i == begins)) i (pos (view_prefix own i)) (pos begins) (sym c.is_valid.ensures ∙ c.if-is_valid.true) long
