use Rattle.std.proofs.Common.{◌∙◌, List, Option, refl, sym, subst, arith}
use Rattle.buf_block.specs.declared.hold.BufView.{BufView}
use Rattle.col_build.specs.Blocks.{IsAdded}
use Rattle.col_build.specs.promise.Encoding.{if_some}
use Rattle.col_build.proofs.finish.lay_three.Goals as goal

-- ---- the others weren't made, and the first is taken back

pub returns-clause-kept : goal.returns-clause-kept
returns-clause-kept c same =
    let first = c.args.buffers.now.items in
    let content = c.args.builder.now.validity.items in
    let stayed = c.if-lay_two.ensures.refused refl in
    let Added : List (Option BufView) → Type 0 = λ bs. IsAdded first (if_some content) bs in
    let added : Added c.lay_two.new.buffers.items = subst Added (sym stayed) (c.if-not-add_kept_block.ensures.added refl) in
    record {
      is_kind = refl;
      shape = refl;
      count = refl;
      nulls = refl;
      validity = c.take_back.ensures.bytes first content added;
      offsets = (c.if-lay_two.ensures.kept refl).0;
      bytes = (c.if-lay_two.ensures.kept refl).1;
    }

pub returns-clause-refused : goal.returns-clause-refused
returns-clause-refused c same =
    let first = c.args.buffers.now.items in
    let content = c.args.builder.now.validity.items in
    let stayed = c.if-lay_two.ensures.refused refl in
    let Added : List (Option BufView) → Type 0 = λ bs. IsAdded first (if_some content) bs in
    let added : Added c.lay_two.new.buffers.items = subst Added (sym stayed) (c.if-not-add_kept_block.ensures.added refl) in
    c.take_back.ensures.buffers first content added ∙ c.requires.none

pub returns-clause-units : goal.returns-clause-units
returns-clause-units c =
    let first = c.args.buffers.now.items in
    let content = c.args.builder.now.validity.items in
    let stayed = c.if-lay_two.ensures.refused refl in
    let Added : List (Option BufView) → Type 0 = λ bs. IsAdded first (if_some content) bs in
    let added : Added c.lay_two.new.buffers.items = subst Added (sym stayed) (c.if-not-add_kept_block.ensures.added refl) in
    omega (arith, c.take_back.ensures.units first content added, c.if-lay_two.ensures.units, c.if-not-add_kept_block.ensures.units)
