-- What the example's calls answer and count.
use Rattle.std.proofs.Common.{◌≡◌, ◌≢◌, ◌∙◌, ℤ, pos, Bool, true, false, Option, None, Some, Result, Err, refl, subst, sym, arith}
use Rattle.std.proofs.lemmas.Bool.{false≢true}
use Rattle.raw_array.specs.promise.Members.{ArrayTree}
use Rattle.stream_face.proofs.Producers.{counts-nothing, given-answers, not-released, row-answers, wanting-answers}
use Rattle.stream_face.specs.Calls.{Answers, Counts}
use Rattle.stream_face.specs.Codes.{enomem}
use Rattle.stream_face.specs.Lawful.{IsChunkOf, IsTable, LawfulTables}
use Rattle.tree_model.specs.promise.TreeParts.{IsLive}
use Rattle.tree_model.specs.promise.TreeData.{Released}
use Rattle.unit_pass.specs.promise.Tally.{risen}
use Rattle.unit_pass.specs.Tally.{Tally}
use Rattle.run_tests.specs.Own.{IsNext, IsWhy, ahead_unless, due_unless, own_chunk, own_columns, own_rows, own_stream, refusal_of}
use Rattle.run_tests.specs.declared.refused.Refused.{Refused}
use Rattle.run_tests.specs.declared.refused.Refused.TheVariants as refused

pub tables : IsTable own_columns own_rows → (given : Bool) → LawfulTables own_columns (ahead_unless given)
tables table true = record { tables = tt; rows = omega arith }
tables table false = record { tables = (table, tt); rows = omega arith }

live-chunk : own_chunk ≡ Released → ⊥
live-chunk e = subst IsLive e tt

module _ (failure said : Option Refused) (released : Bool) where
  -- the chunk, or the end
  pub given : (bad given : Bool) (out : ArrayTree) → IsChunkOf own_columns own_rows own_chunk → IsNext bad given out
      → Answers (own_stream bad given failure said released) (own_stream bad true failure None released) (pos 0) out
  given bad false out chunk is =
      given-answers (own_stream bad false failure said released) (own_stream bad true failure None released) out
      (λ _. (own_rows, refl, subst (IsChunkOf own_columns own_rows) (sym is) chunk)) (λ gone. absurd (live-chunk (sym is ∙ gone)))
  given false true out chunk gone =
      given-answers (own_stream false true failure said released) (own_stream false true failure None released) out
      (λ live. absurd (not-released out live gone)) (λ _. (refl, refl, refl))
  given true true out chunk never = absurd never

  -- the record at fault, or there was no memory
  pub refuses : (bad given : Bool) (why : Refused) (code : ℤ) (out : ArrayTree) → IsWhy bad given why → out ≡ Released → code ≡ (refusal_of why).code
      → Answers (own_stream bad given failure said released) (own_stream bad given (Some why) (Some why) released) code out
  refuses bad false refused.NoMemory code out why gone is =
      wanting-answers (own_stream bad false failure said released)
      (own_stream bad false (Some refused.NoMemory) (Some refused.NoMemory) released) code out gone is refl
  refuses true true refused.Record code out why gone is =
      row-answers (own_stream true true failure said released) (own_stream true true (Some refused.Record) (Some refused.Record) released) _ code out
      gone is (refl, refl, refl) refl refl
  refuses bad false refused.Record code out why gone is = absurd why
  refuses false true refused.Record code out why gone is = absurd why
  refuses false true refused.NoMemory code out why gone is = absurd why
  refuses true true refused.NoMemory code out why gone is = absurd why

-- ---- what is counted

-- the chunk
pub counts-chunk : (given : Bool) (before after : Tally) (out : ArrayTree) → given ≡ false → after.blocks ≡ risen before.blocks 4
    → after.nodes ≡ risen before.nodes 4 → Counts (due_unless given) (due_unless true) before after out
counts-chunk true before after out is blocks nodes = absurd (false≢true (sym is))
counts-chunk false before after out is blocks nodes = record {
  made = record { blocks = 4; nodes = 4 };
  blocks = blocks;
  nodes = nodes;
  fewer_blocks = refl;
  fewer_nodes = refl;
  no_blocks = λ _. refl;
  no_nodes = λ _. refl;
}

-- the end
pub counts-end : (given : Bool) (t : Tally) (out : ArrayTree) → given ≡ true → Counts (due_unless given) (due_unless true) t t out
counts-end false t out is = absurd (false≢true is)
counts-end true t out is =
    counts-nothing (due_unless true) t t out refl refl (omega (arith, t.most_blocks)) (omega (arith, t.most_nodes)) (λ _. refl) (λ _. refl)

-- the record at fault
pub counts-record : (given : Bool) (t : Tally) (out : ArrayTree) → given ≡ true → Counts (due_unless given) (due_unless given) t t out
counts-record false t out is = absurd (false≢true is)
counts-record true t out is = counts-end true t out is

pub only-record : (why : Refused) (code : ℤ) → code ≡ (refusal_of why).code → code ≢ enomem → ◌≡◌ {A = Result (Unit {0}) Refused} (Err why) (Err refused.Record)
only-record refused.Record code is had = refl
only-record refused.NoMemory code is had = absurd (had is)
