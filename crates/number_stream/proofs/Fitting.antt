-- The numbers fit their type, so that a builder takes them and the chunk is lawful; and what a call for it counts.
use Rattle.std.proofs.Common.{◌≡◌, ◌<◌, ◌^◌, ℕ, pos, List, [], ◌∷◌, All, None, codes, length, refl, subst, sym, rules, arith}
use Rattle.std.proofs.lemmas.List.Elements.{All-from_recursion}
use Rattle.col_build.specs.Encoding.{push_fault}
use Rattle.col_build.specs.Holding.{Holds, Takes}
use Rattle.col_build.specs.declared.builder.Builder.{Builder}
use Rattle.column_fill.specs.Tables.{FitsRows, rows_with}
use Rattle.data_types.specs.FieldText.{IsValueOf}
use Rattle.data_types.specs.promise.Value.{Value, Whole}
use Rattle.raw_array.specs.promise.Members.{ArrayTree}
use Rattle.stream_face.proofs.Producers.{counts-nothing}
use Rattle.stream_face.specs.Calls.{Counts}
use Rattle.stream_face.specs.Lawful.{IsTable, LawfulTables}
use Rattle.stream_face.specs.Raw.{raw_joints}
use Rattle.stream_face.specs.Streams.{Stream}
use Rattle.unit_pass.specs.promise.Tally.{risen}
use Rattle.unit_pass.specs.Tally.{Tally}
use Rattle.number_stream.specs.Numbers.{ahead_at, due_at, number_columns, number_values, numbers}
use Rattle.number_stream.specs.declared.numbers.Next.{Next}
use Rattle.number_stream.specs.declared.numbers.Next.TheVariants as next

n-fits : FitsRows 3 (record { name = codes "n"; values = record { own = numbers; dictionary = None } })
n-fits = record {
  kind = search (rules);
  count = refl;
  items = (All-from_recursion (IsValueOf numbers.kind) numbers.values (refl, (refl, (refl, tt))), omega arith);
  dictionary = tt;
}

pub fit : All (FitsRows 3) number_values
fit = All-from_recursion (FitsRows 3) number_values (n-fits, tt)

pub takes : (n : ℕ) (values : List Value) (builder : Builder) → length values < 2 ^ 40 → push_fault numbers.kind values (Whole (pos n)) ≡ None
    → Holds builder numbers.kind values → Takes builder (Whole (pos n))
takes n values builder few fits holds = (numbers.kind, values, holds, few, fits)

pub tables : IsTable number_columns (rows_with 3 number_values) → (at : Next) → LawfulTables number_columns (ahead_at at)
tables table next.Chunk = record { tables = (table, tt); rows = omega arith }
tables table next.End = record { tables = tt; rows = omega arith }
tables table next.NoMemory = record { tables = tt; rows = omega arith }

-- what is counted for the chunk, and at the end
pub counts-chunk : (at : Next) (before after : Tally) (out : ArrayTree) → at ≡ next.Chunk → after.blocks ≡ risen before.blocks 1
    → after.nodes ≡ risen before.nodes 2 → Counts (due_at at) (due_at next.End) before after out
counts-chunk at before after out is blocks nodes =
    subst (λ (n : Next). Counts (due_at n) (due_at next.End) before after out) (sym is) (record {
      made = record { blocks = 1; nodes = 2 };
      blocks = blocks;
      nodes = nodes;
      fewer_blocks = refl;
      fewer_nodes = refl;
      no_blocks = λ _. refl;
      no_nodes = λ _. refl;
    })

pub counts-end : (at : Next) (t : Tally) (out : ArrayTree) → at ≡ next.End → Counts (due_at at) (due_at at) t t out
counts-end at t out is =
    subst (λ (n : Next). Counts (due_at n) (due_at n) t t out) (sym is)
    (counts-nothing (due_at next.End) t t out refl refl (omega (arith, t.most_blocks)) (omega (arith, t.most_nodes)) (λ _. refl) (λ _. refl))

-- a link shows nothing of another, where the stream below shows nothing
pub joints-beside : (own : ℕ) (inner : Stream) → own ≡ 0 → inner.joints 1 ≡ [] → raw_joints own inner 1 ≡ []
joints-beside own inner is none = subst (λ (n : ℕ). raw_joints n inner 1 ≡ []) (sym is) none
