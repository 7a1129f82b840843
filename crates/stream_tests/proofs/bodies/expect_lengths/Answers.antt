use Rattle.std.proofs.Common.{List, [], sym, subst, arith}
use Rattle.col_build.specs.Holding.{HoldsSome}
use Rattle.col_build.specs.declared.builder.Builder.{Builder}
use Rattle.data_types.specs.promise.Table.{Column, Columns, Dict, Flat, Kind, no_members}
use Rattle.data_types.specs.promise.Value.{Value}
use Rattle.csv_read.specs.Body.{HoldsKind}
use Rattle.stream_tests.proofs.bodies.expect_lengths.Goals as goal

no_column : Column
no_column = record { name = []; kind = Columns no_members }

holds-some : (builder : Builder) (kind : Kind) (values : List Value) → HoldsKind builder kind values → HoldsSome builder
holds-some builder (Flat kind) values holds = (kind, values, holds)
holds-some builder (Dict kind) values holds = absurd holds
holds-some builder (Columns shape) values holds = absurd holds

pub len-requires : goal.len-requires
len-requires g c =
    let all = c.requires.2 in
    let j = c.loop-builder.builder-index in
    let here = all.each j c.builder-item.result no_column (omega (arith, all.count, c.loop-builder-test.true)) in
    record { holds = subst HoldsSome (sym c.builder-item.is) (holds-some _ _ _ here) }
