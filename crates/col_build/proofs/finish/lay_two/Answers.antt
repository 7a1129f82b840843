use Rattle.std.proofs.Common.{List, Option, refl, sym, subst, arith}
use Rattle.buf_block.specs.declared.hold.BufView.{BufView}
use Rattle.col_build.specs.Blocks.{IsAdded}
use Rattle.col_build.specs.promise.Encoding.{if_some}
use Rattle.col_build.proofs.finish.lay_two.Goals as goal

-- ---- the second block wasn't made, and the first is taken back

pub returns-clause-kept : goal.returns-clause-kept
returns-clause-kept c same =
    let first = c.args.buffers.now.items in
    let content = c.args.kept.now.items in
    let stayed = c.if-add_block.ensures.kept refl in
    let Added : List (Option BufView) → Type 0 = λ bs. IsAdded first (if_some content) bs in
    let added : Added c.add_block.new.buffers.items = subst Added (sym stayed.1) (c.if-not-add_kept_block.ensures.added refl) in
    (c.take_back.ensures.bytes first content added, stayed.0)

pub returns-clause-refused : goal.returns-clause-refused
returns-clause-refused c same =
    let first = c.args.buffers.now.items in
    let content = c.args.kept.now.items in
    let stayed = c.if-add_block.ensures.kept refl in
    let Added : List (Option BufView) → Type 0 = λ bs. IsAdded first (if_some content) bs in
    let added : Added c.add_block.new.buffers.items = subst Added (sym stayed.1) (c.if-not-add_kept_block.ensures.added refl) in
    c.take_back.ensures.buffers first content added

pub returns-clause-units : goal.returns-clause-units
returns-clause-units c =
    let first = c.args.buffers.now.items in
    let content = c.args.kept.now.items in
    let stayed = c.if-add_block.ensures.kept refl in
    let Added : List (Option BufView) → Type 0 = λ bs. IsAdded first (if_some content) bs in
    let added : Added c.add_block.new.buffers.items = subst Added (sym stayed.1) (c.if-not-add_kept_block.ensures.added refl) in
    omega (arith, c.take_back.ensures.units first content added, c.if-add_block.ensures.units, c.if-not-add_kept_block.ensures.units)
