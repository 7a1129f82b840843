use Rattle.std.proofs.Common.{List, subst, sym}
use Rattle.std.specs.Prelude.{Vec}
use Rattle.std.specs.Global.{Global}
use Rattle.data_types.specs.promise.TypedView.{typed_of}
use Rattle.layout_rules.specs.promise.Values.{rows_of}
use Rattle.total_stage.specs.Sums.{AreParts}
use Rattle.total_stage.specs.declared.numbers.Totals.{Totals}
use Rattle.total_stage.proofs.sums.add_chunk.Goals as goal

pub fan_out-requires-clause-types : goal.fan_out-requires-clause-types
fan_out-requires-clause-types g c = λ _ _. c.requires.chunk.types

pub fan_out-requires-clause-chunk : goal.fan_out-requires-clause-chunk
fan_out-requires-clause-chunk g c = λ _ _. c.requires.chunk.ok

pub fan_out-requires-clause-fits : goal.fan_out-requires-clause-fits
fan_out-requires-clause-fits g c = λ _ _. c.requires.chunk.sum

pub join_parts-requires-clause-few : goal.join_parts-requires-clause-few
join_parts-requires-clause-few g c =
    let few = c.requires.few in
    let rows = rows_of (typed_of c.args.typed.now) c.args.chunk.now in (
      c.args.picks.now,
      few.0,
      rows,
      few.1,
      subst (λ (parts : List (Vec Totals Global)). AreParts c.args.picks.now rows c.piece_count-pieces.result.count parts) (sym c.as_slice.ensures.value)
          c.in_ok-parts.ensures.answers,
      few.2,
    )

pub returns-clause-sums : goal.returns-clause-sums
returns-clause-sums g c = λ before are.
    let rows = rows_of (typed_of c.args.typed.now) c.args.chunk.now in
    c.join_parts.ensures c.args.picks.now before rows are
    (subst (λ (parts : List (Vec Totals Global)). AreParts c.args.picks.now rows c.piece_count-pieces.result.count parts) (sym c.as_slice.ensures.value)
    c.in_ok-parts.ensures.answers)
