use Rattle.std.proofs.Common.{◌∙◌, ◌++◌, List, ℕ, ap, sym, inl}
use Rattle.std.specs.Prelude.{None}
use Rattle.data_types.specs.promise.Packed.{le_bytes, offset_width}
use Rattle.col_build.proofs.OffsetBytes.{offsets-push}
use Rattle.col_build.proofs.StoredFacts.{where-stored}
use Rattle.col_build.proofs.store.end_item.Goals as goal

pub returns-clause-added : goal.returns-clause-added
returns-clause-added c =
    where-stored c.append_offset.result _ c.append_offset.new.offsets.items (le_bytes (offset_width c.args.wide) c.args.end) None _ c.append_offset.ensures
    (λ is items item has size. inl (
    is ∙ ap (λ (xs : List ℕ). xs ++ le_bytes (offset_width c.args.wide) c.args.end) (c.in_ok-begin_offsets.ensures.begun items has)
    ∙ sym (offsets-push c.args.wide items item c.args.end size)
    ))
