use Rattle.std.proofs.Common.{◌≡◌, ◌∙◌, ◌<◌, [], ◌∷◌, ◌++◌, Some, None, length, ap, sym, arith, rules}
use Rattle.raw_array.specs.View.{buffers_of}
use Rattle.union_cols.proofs.TagSteps.{buffers-push, holds-push, no-block, whole-block}
use Rattle.union_cols.proofs.tag_tops.push_block.Goals as goal

pub returns-then-is_empty-clause-views : goal.returns-then-is_empty-clause-views
returns-then-is_empty-clause-views c =
    let vs = c.args.views.now.items in
    let none : length c.args.bytes.items ≡ 0 = search rules in
    ap buffers_of c.push_reserved.ensures.items ∙ buffers-push vs None
    ∙ ap (λ b. buffers_of vs ++ b ∷ []) (sym (no-block c.args.bytes.items none))

pub returns-then-is_empty-clause-units : goal.returns-then-is_empty-clause-units
returns-then-is_empty-clause-units c =
    let vs = c.args.views.now.items in
    let views = ap buffers_of c.push_reserved.ensures.items ∙ buffers-push vs None in
    omega (arith, holds-push vs c.push_reserved.new.self.items None views)

pub returns-in-Ok-clause-views : goal.returns-in-Ok-clause-views
returns-in-Ok-clause-views c =
    let vs = c.args.views.now.items in
    let bytes = c.args.bytes.items in
    let some : 0 < length bytes = search rules in
    let made = whole-block c.whole.result bytes some (search rules) (search rules) c.whole.ensures.start (search rules) in
    ap buffers_of c.push_reserved-in-Ok.ensures.items ∙ buffers-push vs (Some c.whole.result) ∙ ap (λ b. buffers_of vs ++ b ∷ []) made

pub returns-in-Ok-clause-units : goal.returns-in-Ok-clause-units
returns-in-Ok-clause-units c =
    let vs = c.args.views.now.items in
    let views = ap buffers_of c.push_reserved-in-Ok.ensures.items ∙ buffers-push vs (Some c.whole.result) in
    omega (arith, holds-push vs c.push_reserved-in-Ok.new.self.items _ views, c.in-Ok.ensures.drawn)
