use Rattle.std.proofs.Common.{◌≡◌, ◌∙◌, ◌+◌, ◌++◌, ℕ, Bool, List, [], ◌∷◌, refl, sym, ap, subst, inl}
use Rattle.std.specs.Prelude.{if◌then◌else◌, map, Option}
use Rattle.buf_block.specs.declared.hold.BufView.{BufView}
use Rattle.data_types.specs.promise.Value.{bytes_of}
use Rattle.unit_pass.specs.promise.Tally.{risen}
use Rattle.col_build.specs.Blocks.{AreAdded, count_if}
use Rattle.col_build.specs.promise.Encoding.{if_some}
use Rattle.col_build.specs.Finished.{AreMade}
use Rattle.col_build.proofs.FinishFacts.{IsBetween, blocks-between, blocks-in-place, held-between, held-in-place, none-in-place, offsets-held, same-but-holds, same-holds}
use Rattle.col_build.proofs.MadeAhead.{whole_holds}
use Rattle.col_build.proofs.TextBytes.{text-held}
use Rattle.col_build.specs.declared.builder.Builder.{Builder}
use Rattle.col_build.specs.declared.shape.Shape.TheVariants as shapes
use Rattle.col_build.proofs.builder.Builder.lay_out.Goals as goal

-- ---- items between offsets
pub lay_three-requires-clause-text : goal.lay_three-requires-clause-text
lay_three-requires-clause-text c marked =
    let self = c.args.self.now in
    let wide = c.in-Between.wide in
    let Is : Bool → Type 0 = λ text. self.shape ≡ shapes.Between wide text in
    text-held self c.requires.holds.0 c.requires.holds.1 wide c.requires.holds.2 (subst Is marked c.in-Between.is)

pub returns-in-Ok-clause-laid : goal.returns-in-Ok-clause-laid
returns-in-Ok-clause-laid c laid kind values holds =
    let self = c.args.self.now in
    let wide = c.in-Between.wide in
    let items = map bytes_of values in
    let begun = c.in-Ok.ensures.begun items (offsets-held self kind values wide c.in-Between.text holds c.in-Between.is) in
    let Made : List (Option (List ℕ)) → Type 0 = λ bs. AreMade c.lay_three.new.buffers.items bs in
    subst Made (sym (held-between self kind values wide c.in-Between.text holds c.in-Between.is c.begin_offsets.new.offsets.items begun))
    (c.lay_three.ensures.laid laid)

pub returns-in-Ok-clause-kept : goal.returns-in-Ok-clause-kept
returns-in-Ok-clause-kept c none kind values holds =
    let self = c.args.self.now in
    let wide = c.in-Between.wide in
    let items = map bytes_of values in
    let begun = c.in-Ok.ensures.begun items (offsets-held self kind values wide c.in-Between.text holds c.in-Between.is) in
    let same = c.lay_three.ensures.kept none in
    whole_holds c.lay_three.new.builder kind values
    (same-but-holds self c.lay_three.new.builder kind values wide c.in-Between.text c.in-Between.is
    (record {
      is_kind = same.is_kind;
      shape = same.shape;
      count = same.count;
      nulls = same.nulls;
      validity = same.validity;
      offsets = inl (same.offsets ∙ begun);
      bytes = same.bytes;
    })
    holds)

pub returns-in-Ok-clause-units : goal.returns-in-Ok-clause-units
returns-in-Ok-clause-units c kind values holds =
    let self = c.args.self.now in
    let wide = c.in-Between.wide in
    let items = map bytes_of values in
    let begun = c.in-Ok.ensures.begun items (offsets-held self kind values wide c.in-Between.text holds c.in-Between.is) in
    let counted = blocks-between self kind values wide c.in-Between.text holds c.in-Between.is in
    let Left : ℕ → Type 0 = λ n. c.lay_three.new.pass.units + (if c.lay_three.result then n else 0) ≡ c.args.pass.now.units in
    subst Left (ap (λ o. count_if self.validity.items + count_if o + count_if self.bytes.items) begun ∙ counted) c.lay_three.ensures.units

pub returns-in-Ok-clause-blocks : goal.returns-in-Ok-clause-blocks
returns-in-Ok-clause-blocks c laid kind values holds =
    let self = c.args.self.now in
    let wide = c.in-Between.wide in
    let items = map bytes_of values in
    let begun = c.in-Ok.ensures.begun items (offsets-held self kind values wide c.in-Between.text holds c.in-Between.is) in
    let counted = blocks-between self kind values wide c.in-Between.text holds c.in-Between.is in
    let Risen : ℕ → Type 0 = λ n. c.lay_three.new.pass.blocks ≡ risen c.args.pass.now.blocks n in
    subst Risen (ap (λ o. count_if self.validity.items + count_if o + count_if self.bytes.items) begun ∙ counted) (c.lay_three.ensures.blocks laid)

pub returns-in-Err-clause-kept : goal.returns-in-Err-clause-kept
returns-in-Err-clause-kept c none kind values holds =
    let self = c.args.self.now in
    let new : Builder =
    record {
      kind = self.kind;
      shape = self.shape;
      count = self.count;
      nulls = self.nulls;
      validity = self.validity;
      offsets = c.begin_offsets.new.offsets;
      bytes = self.bytes;
    } in
    whole_holds new kind values
    (same-holds self new kind values
    (record { is_kind = refl; shape = refl; count = refl; nulls = refl; validity = refl; offsets = c.in-Err.ensures.kept; bytes = refl })
    holds)

-- ---- items in place
all-added : (first bytes : List ℕ) (old new : List (Option BufView)) → old ≡ [] → AreAdded old (if_some first ∷ if_some bytes ∷ []) new
    → AreMade new (if_some first ∷ if_some bytes ∷ [])
all-added first bytes old new none added =
    let Made : List (Option BufView) → Type 0 = λ views. AreMade views (if_some first ∷ if_some bytes ∷ []) in
    subst Made (sym (added.2 ∙ ap (λ xs. xs ++ added.0) none)) added.1

pub returns-in_default : goal.returns-in_default
returns-in_default c =
    let self = c.args.self.now in
    let result = c.lay_two.result in
    let other : IsBetween self.shape → ⊥ = λ between. c.in_default.not-Between between.0 between.1 between.2 in
    let Made : List (Option (List ℕ)) → Type 0 = λ bs. AreMade c.lay_two.new.buffers.items bs in
    let Left : ℕ → Type 0 = λ n. c.lay_two.new.pass.units + (if result then n else 0) ≡ c.args.pass.now.units in
    let Risen : ℕ → Type 0 = λ n. c.lay_two.new.pass.blocks ≡ risen c.args.pass.now.blocks n in
    let new : Builder =
    record {
      kind = self.kind;
      shape = self.shape;
      count = self.count;
      nulls = self.nulls;
      validity = c.lay_two.new.kept;
      offsets = self.offsets;
      bytes = c.lay_two.new.bytes;
    } in
    record {
      laid = λ laid kind values holds.
          subst Made (sym (held-in-place self kind values holds other))
          (all-added self.validity.items self.bytes.items c.args.buffers.now.items c.lay_two.new.buffers.items c.requires.none (c.lay_two.ensures.added laid));
      emptied = λ laid.
          record {
            is_kind = refl;
            shape = refl;
            count = refl;
            nulls = refl;
            validity = (c.lay_two.ensures.moved laid).0;
            bytes = none-in-place self.shape self.offsets.items c.lay_two.new.bytes.items other (c.lay_two.ensures.moved laid).1;
          };
      kept = λ none kind values holds.
          whole_holds new kind values
          (same-holds self new kind values
          (record {
            is_kind = refl;
            shape = refl;
            count = refl;
            nulls = refl;
            validity = (c.lay_two.ensures.kept none).0;
            offsets = refl;
            bytes = (c.lay_two.ensures.kept none).1;
          })
          holds);
      refused = λ none. c.lay_two.ensures.refused none ∙ c.requires.none;
      units = λ kind values holds. subst Left (blocks-in-place self kind values holds other) c.lay_two.ensures.units;
      blocks = λ laid kind values holds. subst Risen (blocks-in-place self kind values holds other) (c.lay_two.ensures.blocks laid);
      nodes = c.lay_two.ensures.nodes;
    }
