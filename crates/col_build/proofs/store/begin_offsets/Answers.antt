use Rattle.std.proofs.Common.{◌≡◌, ◌∙◌, [], sym}
use Rattle.std.specs.Prelude.{None}
use Rattle.data_types.specs.promise.Packed.{le_bytes, offset_width}
use Rattle.col_build.proofs.OffsetBytes.{offsets-first}
use Rattle.col_build.proofs.StoredFacts.{no-items, where-stored}
use Rattle.col_build.proofs.store.begin_offsets.Goals as goal

pub returns-then-is_empty-clause-begun : goal.returns-then-is_empty-clause-begun
returns-then-is_empty-clause-begun c =
    let none : c.args.offsets.now.items ≡ [] = no-items c.args.offsets.now.items _ c.args.offsets.now.ok.0 (sym c.is_empty.ensures ∙ c.if-is_empty.true) in
    where-stored c.append_offset.result _ c.append_offset.new.offsets.items (le_bytes (offset_width c.args.wide) 0) None _ c.append_offset.ensures
    (λ is items has. offsets-first c.args.wide items c.args.offsets.now.items c.append_offset.new.offsets.items none is has)
