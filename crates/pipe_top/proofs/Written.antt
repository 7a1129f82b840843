-- What the answer to a task is for the input that was read.
use Rattle.std.proofs.Common.{◌≡◌, ◌≤◌, ◌+◌, ◌∙◌, ℕ, false, List, [], Option, Some, None, Result, Ok, nat_lt, length, take, ap, refl, sym, subst, arith}
use Rattle.std.proofs.lemmas.Bool.Decides.{nat_tests}
use Rattle.std.proofs.lemmas.List.{length-append}
use Rattle.edge_io.specs.promise.Edge.{LosesCount}
use Rattle.std.specs.Io.KnownBytes.{Appends}
use Rattle.stage_chain.specs.promise.Chains.{ShowsFirst}
use Rattle.stream_face.specs.promise.Shown.{Seen}
use Rattle.csv_model.specs.promise.Reading.{records_of}
use Rattle.run_model.specs.promise.Answer.{Answer, Request, Table, Task, Text}
use Rattle.run_model.specs.declared.fault.RunFault.{RunFault}
use Rattle.tree_check.specs.promise.Runs.{input_limit, GotFirst, GotText}
use Rattle.run_model.specs.promise.RunAnswer.{AnswersTask, AnswersWithin, IsAnswerTo}
use Rattle.run_model.specs.RunAnswer.{AnswersBytes, AreBytes, IsTooLong}
use Rattle.pipe_top.specs.promise.Traffic.{ShowsAsked, links_of}
use Rattle.pipe_top.specs.Traffic.{links_within}

pub not-long : (n : ℕ) → n ≤ input_limit → nat_lt input_limit n ≡ false
not-long n fits = grind (arith, nat_tests)

module _ (bytes : List ℕ) (fits : length bytes ≤ input_limit) where
  -- the input isn't too long, so the task's answer is the answer
  pub within : (task : Task) (answer : Answer) → AnswersTask task bytes answer → AnswersBytes task bytes answer
  within task answer is = subst (λ long. AnswersWithin long task bytes answer) (sym (not-long (length bytes) fits)) is

  -- and its links are those of its records
  pub shown-within : (request : Request) (old new : Option (List Seen)) → ShowsFirst (links_of request (records_of bytes)) old new
      → ShowsAsked (Ok (Table request)) bytes old new
  shown-within request old new shows =
      subst (λ long. ShowsFirst (links_within long request bytes) old new) (sym (not-long (length bytes) fits)) shows

-- there are bytes that may be an input's
pub some-bytes : (told : Option (List ℕ)) → (bytes : List ℕ) × AreBytes told bytes
some-bytes None = ([], tt)
some-bytes (Some l) = (l, refl)

-- a source that gave one byte more than are read has too many
pub too-many : (old new : Option (List ℕ)) → LosesCount old new (input_limit + 1) → IsTooLong old
too-many None new (bytes, gave, n) = (bytes, tt, omega (arith, n))
too-many (Some l) None (bytes, gave, n) = absurd gave
too-many (Some l) (Some rest) (bytes, gave, n) =
    let all : length l ≡ length bytes + length rest = ap length gave ∙ length-append bytes rest in
    (l, refl, omega (arith, n, all))

module _ (asked : Result Task RunFault) (task : Task) (bytes : List ℕ) (is : asked ≡ Ok task) where
  pub answered : (answer : Answer) → AnswersBytes task bytes answer → IsAnswerTo asked bytes answer
  answered answer answers = subst (λ a. IsAnswerTo a bytes answer) (sym is) answers

  pub all-written : (old new : Option (List ℕ)) (text : List ℕ) → AnswersBytes task bytes (Text text) → Appends old new text
      → GotText (λ t. IsAnswerTo asked bytes (Text t)) old new
  all-written old new text answers wrote = (text, answered (Text text) answers, wrote)

  pub first-written : (old new : Option (List ℕ)) (text : List ℕ) (taken : ℕ) → AnswersBytes task bytes (Text text) → taken ≤ length text
      → Appends old new (take taken text) → GotFirst (λ t. IsAnswerTo asked bytes (Text t)) old new taken
  first-written old new text taken answers within wrote = (text, answered (Text text) answers, within, wrote)

  pub shown-for : (old new : Option (List Seen)) → ShowsAsked (Ok task) bytes old new → ShowsAsked asked bytes old new
  shown-for old new shows = subst (λ a. ShowsAsked a bytes old new) (sym is) shows
