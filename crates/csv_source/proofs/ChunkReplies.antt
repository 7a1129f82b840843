-- What a call that refuses answers.
use Rattle.std.proofs.Common.{◌≡◌, ℤ, [], Option, None, Some, refl}
use Rattle.data_types.specs.declared.row_fault.RowFault.{RowFault}
use Rattle.raw_array.specs.promise.Members.{ArrayTree}
use Rattle.stream_face.specs.Calls.{Answers}
use Rattle.stream_face.specs.Streams.{Stream}
use Rattle.stream_face.specs.Texts.{Refusal}
use Rattle.tree_model.specs.promise.TreeData.{Released}
use Rattle.csv_source.specs.Refusals.{refusal_in, refusal_of, row_of}
use Rattle.csv_source.specs.declared.refused.Refused.{Refused}
use Rattle.csv_source.specs.declared.refused.Refused.TheVariants as refused
use Rattle.stream_face.proofs.Producers.{row-answers, wanting-answers}

pub no-refusal : (o : Option Refused) → refusal_in o ≡ None → o ≡ None
no-refusal None is = refl
no-refusal (Some why) is = let never : ◌≡◌ {A = Option Refusal} (Some (refusal_of why)) None = is in cc

-- where a record is at fault, the stream ends there
abbrev pub Stops : Refused → Stream → Stream → Type 0
Stops why s n = (row : RowFault) → row_of why ≡ Some row → (s.ahead ≡ []) × (n.ahead ≡ []) × (s.ending ≡ Some row)

pub refused-answers : (s n : Stream) (why : Refused) (code : ℤ) (out : ArrayTree) → out ≡ Released → code ≡ (refusal_of why).code
    → n.said ≡ Some (refusal_of why) → n.fault ≡ row_of why → Stops why s n → Answers s n code out
refused-answers s n (refused.Row row) code out gone is said fault stops = row-answers s n row.fault code out gone is (stops row.fault refl) fault said
refused-answers s n refused.NoMemory code out gone is said fault stops = wanting-answers s n code out gone is said
