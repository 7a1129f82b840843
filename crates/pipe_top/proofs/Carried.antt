-- What a run that ends in a fault says of its result, and which faults an answer may have.
use Rattle.std.proofs.Common.{◌≡◌, ◌∙◌, ◌+◌, ◌≤◌, ◌<◌, ◌⊎◌, inl, inr, ℕ, true, false, nat_lt, List, [], length, Option, Some, None, IfSome, Result, Ok, Err}
use Rattle.std.proofs.Common.{IfErr, IfOk, IsErrAnd, OnOk, ap, arith, refl, subst, sym}
use Rattle.std.proofs.lemmas.Bool.Decides.{nat_tests}
use Rattle.std.proofs.lemmas.List.{append-nil}
use Rattle.std.specs.Io.KnownBytes.{Keeps}
use Rattle.data_types.specs.promise.Table.{Column, Row}
use Rattle.data_types.specs.declared.row_fault.RowFault.{RowFault}
use Rattle.data_types.specs.declared.row_fault.RowFault.TheVariants as row
use Rattle.csv_model.specs.promise.Header.{header_of}
use Rattle.csv_model.specs.promise.Reading.{Record, behind_header, body, records_of}
use Rattle.csv_model.specs.declared.fault.HeaderFault.{HeaderFault}
use Rattle.csv_model.specs.declared.fault.HeaderFault.TheVariants as header
use Rattle.stage_plan.specs.promise.Entries.{entries_of}
use Rattle.stage_model.specs.promise.Typing.{Stage, plan_of}
use Rattle.stage_model.specs.declared.fault.PlanFault.{PlanFault}
use Rattle.stage_model.specs.declared.fault.PlanFault.TheVariants as plan
use Rattle.edge_io.specs.promise.Edge.{LosesWithin}
use Rattle.stream_face.specs.promise.Shown.{Seen, of_link}
use Rattle.tree_check.specs.promise.Checks.{Checked}
use Rattle.tree_check.specs.promise.Runs.{Cause, OfWords, OfTexts, OfPlan, OfRecords, OfTree, OfLength, Reading}
use Rattle.tree_check.specs.promise.Runs.{Writing, Memory, AtWriting, decides_early, is_writing, input_limit, IsRead, ReadFor}
use Rattle.run_model.specs.promise.Answer.{Answer, Text, Fault, Request, Task, Table, Tree}
use Rattle.run_model.specs.promise.Answer.{cause_of, fault_of_header, fault_of_plan}
use Rattle.run_model.specs.Outcomes.{AtWriteFault, is_decided, is_early, is_write_fault}
use Rattle.run_model.specs.declared.fault.RunFault.{RunFault}
use Rattle.run_model.specs.declared.fault.RunFault.TheVariants as run
use Rattle.run_model.specs.promise.RunAnswer.{AnswersWithin}
use Rattle.run_model.specs.RunAnswer.{AnswersBytes, AreBytes, answer_of_check, answer_of_columns, answer_of_plan}
use Rattle.run_model.specs.RunAnswer.{IsTooLong}
use Rattle.run_model.specs.promise.RunAnswer.{IsAnswerTo}
use Rattle.run_model.specs.RunAnswer.{answer_of_rows}
use Rattle.pipe_top.specs.promise.Over.{is_behind_records}
use Rattle.pipe_top.specs.Over.{CarriedOver}
use Rattle.pipe_top.specs.promise.Traffic.{CountsTask, ShowsAsked, ShowsTask}
use Rattle.pipe_top.proofs.Written.{answered, not-long, shown-within, some-bytes}

-- ---- a result that is known
pub at-ok : {T E : Type 0} (P : T → Type 0) (r : Result T E) (t : T) → r ≡ Ok t → P t → IfOk r P
at-ok P r t is holds = subst (λ s. IfOk s P) (sym is) holds

pub at-err : {T E : Type 0} (P : E → Type 0) (r : Result T E) (e : E) → r ≡ Err e → P e → IfErr r P
at-err P r e is holds = subst (λ s. IfErr s P) (sym is) holds

pub no-err : {T E : Type 0} (P : E → Type 0) (r : Result T E) (t : T) → r ≡ Ok t → IfErr r P
no-err P r t is = subst (λ s. IfErr s P) (sym is) tt

pub no-ok : {T E : Type 0} (P : Type 0) (r : Result T E) (e : E) → r ≡ Err e → OnOk r P
no-ok P r e is = subst (λ s. OnOk s P) (sym is) tt

-- what holds of the error of a result
pub of-err : {T E : Type 0} (P : E → Type 0) (r : Result T E) (e : E) → r ≡ Err e → IfErr r P → P e
of-err P r e is holds = subst (λ s. IfErr s P) is holds

-- what holds holds of any value
pub if-some : {T : Type 0} (P : Type 0) (o : Option T) → P → IfSome o (λ _. P)
if-some P None holds = tt
if-some P (Some t) holds = holds

-- the error of a result, which is this one
pub the-error : {T E : Type 0} (r : Result T E) (e : E) → IsErrAnd r (λ x. x ≡ e) → r ≡ Err e
the-error (Ok t) e is = absurd is
the-error (Err x) e is = ap Err is

pub one-error : {T E : Type 0} (r : Result T E) (one other : E) → r ≡ Err one → r ≡ Err other → one ≡ other
one-error r one other is also = cc

pub untrue : false ≡ true → ⊥
untrue e = cc

-- ---- what stays as it was
pub keeps-same : (bytes : Option (List ℕ)) → Keeps bytes bytes
keeps-same None = tt
keeps-same (Some bytes) = refl

pub loses-nothing : (bytes : Option (List ℕ)) → LosesWithin bytes bytes (input_limit + 1)
loses-nothing None = ([], tt, omega (arith))
loses-nothing (Some bytes) = ([], refl, omega (arith))

-- ---- the faults that an answer may have
-- neither the words nor the length of the input decide it, and neither the source nor the sink failed
abbrev pub IsLate : Cause → Type 0
IsLate OfWords = ⊥
IsLate OfTexts = ⊥
IsLate OfLength = ⊥
IsLate Reading = ⊥
IsLate (Writing taken) = ⊥
IsLate _ = Unit {0}

abbrev LateAnswer : Answer → Type 0
LateAnswer (Text text) = Unit {0}
LateAnswer (Fault fault) = IsLate (cause_of fault)

late-header : (fault : HeaderFault) → IsLate (cause_of (fault_of_header fault))
late-header header.NoHeader = tt
late-header (header.TooManyColumns count) = tt
late-header (header.NotText column) = tt
late-header (header.Twice column) = tt
late-header (header.Unknown entry) = tt
late-header header.NoMemory = tt

late-plan : (fault : PlanFault) → IsLate (cause_of (fault_of_plan fault))
late-plan (plan.At stage rule) = tt
late-plan plan.NoMemory = tt

late-rows : (mark : List ℕ) (columns : List Column) (stages : List Stage) (rows : Result (List Row) RowFault)
    → LateAnswer (answer_of_rows mark columns stages rows)
late-rows mark columns stages (Ok rows) = tt
late-rows mark columns stages (Err (row.Ragged number found)) = tt
late-rows mark columns stages (Err (row.Field number column)) = tt

late-planned : (mark : List ℕ) (columns : List Column) (stages : Result (List Stage) PlanFault) (records : List Record)
    → LateAnswer (answer_of_plan mark columns stages records)
late-planned mark columns (Ok stages) records = late-rows mark columns stages (body mark columns records)
late-planned mark columns (Err fault) records = late-plan fault

late-columns : (request : Request) (columns : Result (List Column) HeaderFault) (records : List Record)
    → LateAnswer (answer_of_columns request columns records)
late-columns request (Ok columns) records = late-planned request.mark columns (plan_of columns request.stages) records
late-columns request (Err fault) records = late-header fault

late-check : (checked : Checked) → LateAnswer (answer_of_check checked)
late-check (Ok report) = tt
late-check (Err fault) = tt

late-task : (task : Task) (bytes : List ℕ) (answer : Answer) → AnswersWithin false task bytes answer → LateAnswer answer
late-task (Table request) bytes answer is =
    subst LateAnswer (sym is) (late-columns request (header_of (entries_of request.entries) (records_of bytes)) (behind_header (records_of bytes)))
late-task Tree bytes answer is = subst LateAnswer (sym is.2) (late-check is.0)

-- the fault of a task is late, where the input isn't too long
pub late : (task : Task) (bytes : List ℕ) → length bytes ≤ input_limit → (fault : RunFault)
    → (fault ≡ run.NoMemory) ⊎ AnswersBytes task bytes (Fault fault) → IsLate (cause_of fault)
late task bytes fits fault (inl none) = subst (λ f. IsLate (cause_of f)) (sym none) tt
late task bytes fits fault (inr is) =
    late-task task bytes (Fault fault) (subst (λ long. AnswersWithin long task bytes (Fault fault)) (not-long (length bytes) fits) is)

-- so it is found once the source was read
pub late-read : (cause : Cause) → IsLate cause → (rows : Option ℕ) (before after : Option (List ℕ)) → IsRead rows before after
    → ReadFor cause rows before after
late-read OfWords l rows before after read = tt
late-read OfTexts l rows before after read = tt
late-read OfPlan l rows before after read = read
late-read OfRecords l rows before after read = read
late-read OfTree l rows before after read = read
late-read OfLength l rows before after read = absurd l
late-read Reading l rows before after read = tt
late-read (Writing taken) l rows before after read = read
late-read Memory l rows before after read = tt

-- what isn't late
pub late-not_early : (cause : Cause) → IsLate cause → decides_early cause ≡ true → ⊥
late-not_early OfWords l e = l
late-not_early OfTexts l e = l
late-not_early OfPlan l e = cc
late-not_early OfRecords l e = cc
late-not_early OfTree l e = cc
late-not_early OfLength l e = l
late-not_early Reading l e = l
late-not_early (Writing taken) l e = l
late-not_early Memory l e = cc

pub late-not_writing : (cause : Cause) → IsLate cause → is_writing cause ≡ false
late-not_writing OfWords l = refl
late-not_writing OfTexts l = refl
late-not_writing OfPlan l = refl
late-not_writing OfRecords l = refl
late-not_writing OfTree l = refl
late-not_writing OfLength l = refl
late-not_writing Reading l = refl
late-not_writing (Writing taken) l = absurd l
late-not_writing Memory l = refl

-- a source that failed isn't
pub late-not_reading : (X : Type 0) (fault : RunFault) → IsLate (cause_of fault) → fault ≡ run.ReadFault → X
late-not_reading X fault l e = absurd (subst (λ f. IsLate (cause_of f)) e l)

-- ---- the faults that are no write's
not-writing : (P : ℕ → Type 0) (cause : Cause) → is_writing cause ≡ false → AtWriting cause P
not-writing P OfWords none = tt
not-writing P OfTexts none = tt
not-writing P OfPlan none = tt
not-writing P OfRecords none = tt
not-writing P OfTree none = tt
not-writing P OfLength none = tt
not-writing P Reading none = tt
not-writing P (Writing taken) none = absurd (cc)
not-writing P Memory none = tt

pub no-write : (P : ℕ → Type 0) (r : Result (Unit {0}) RunFault) (fault : RunFault) → r ≡ Err fault → is_write_fault fault ≡ false
    → IfErr r (λ f. AtWriteFault f P)
no-write P r fault is none = at-err (λ f. AtWriteFault f P) r fault is (not-writing P (cause_of fault) none)

-- ---- a task that is refused
early-writing : (cause : Cause) → decides_early cause ≡ true → is_writing cause ≡ false
early-writing OfWords early = refl
early-writing OfTexts early = refl
early-writing OfPlan early = refl
early-writing OfRecords early = refl
early-writing OfTree early = refl
early-writing OfLength early = refl
early-writing Reading early = refl
early-writing (Writing taken) early = absurd (cc)
early-writing Memory early = refl

pub early-not_writing : (fault : RunFault) → (is_early fault ≡ true) ⊎ (fault ≡ run.NoMemory) → is_write_fault fault ≡ false
early-not_writing fault (inl early) = early-writing (cause_of fault) early
early-not_writing fault (inr none) = subst (λ f. is_write_fault f ≡ false) (sym none) refl

pub early-not_reading : (X : Type 0) (fault : RunFault) → (is_early fault ≡ true) ⊎ (fault ≡ run.NoMemory) → fault ≡ run.ReadFault → X
early-not_reading X fault (inl early) read = let e : false ≡ true = subst (λ f. is_early f ≡ true) read early in absurd (cc)
early-not_reading X fault (inr none) read = absurd (cc)

-- ---- the faults that aren't behind all records
before-early : (fault : RunFault) → is_early fault ≡ true → is_behind_records fault ≡ true → ⊥
before-early (run.Words fault) early behind = cc
before-early (run.Stage number fault) early behind = cc
before-early (run.Schema entry rule) early behind = cc
before-early (run.Plan number rule) early behind = cc
before-early run.NoHeader early behind = cc
before-early (run.TooManyColumns count) early behind = cc
before-early (run.HeaderText column) early behind = cc
before-early (run.HeaderTwice column) early behind = cc
before-early (run.HeaderUnknown entry) early behind = cc
before-early (run.Ragged number found) early behind = cc
before-early (run.Field number column) early behind = cc
before-early (run.Tree fault) early behind = cc
before-early run.InputTooLong early behind = cc
before-early run.ReadFault early behind = cc
before-early (run.WriteFault taken) early behind = cc
before-early run.NoMemory early behind = cc

pub early-not_behind : (X : Type 0) (fault : RunFault) → (is_early fault ≡ true) ⊎ (fault ≡ run.NoMemory) → is_behind_records fault ≡ true → X
early-not_behind X fault (inl early) behind = absurd (before-early fault early behind)
early-not_behind X fault (inr none) behind = absurd (untrue (subst (λ f. is_behind_records f ≡ true) none behind))

-- of the source it says nothing
early-cause : (cause : Cause) → decides_early cause ≡ true → (rows : Option ℕ) (before after : Option (List ℕ)) → ReadFor cause rows before after
early-cause OfWords early rows before after = tt
early-cause OfTexts early rows before after = tt
early-cause OfPlan early rows before after = absurd (cc)
early-cause OfRecords early rows before after = absurd (cc)
early-cause OfTree early rows before after = absurd (cc)
early-cause OfLength early rows before after = absurd (cc)
early-cause Reading early rows before after = absurd (cc)
early-cause (Writing taken) early rows before after = absurd (cc)
early-cause Memory early rows before after = absurd (cc)

pub early-read : (fault : RunFault) → (is_early fault ≡ true) ⊎ (fault ≡ run.NoMemory) → (rows : Option ℕ) (before after : Option (List ℕ))
    → ReadFor (cause_of fault) rows before after
early-read fault (inl early) rows before after = early-cause (cause_of fault) early rows before after
early-read fault (inr none) rows before after = subst (λ f. ReadFor (cause_of f) rows before after) (sym none) tt

-- ---- the outcome of a task

-- a fault that the words and the bytes decide is the answer
pub refused-with : (asked : Result Task RunFault) (task : Task) (bytes : List ℕ) → asked ≡ Ok task → (fault : RunFault)
    → (fault ≡ run.NoMemory) ⊎ AnswersBytes task bytes (Fault fault) → is_decided fault ≡ true → IsAnswerTo asked bytes (Fault fault)
refused-with asked task bytes is fault (inl none) decided = let e : false ≡ true = subst (λ f. is_decided f ≡ true) none decided in absurd (cc)
refused-with asked task bytes is fault (inr answers) decided = answered asked task bytes is (Fault fault) answers

-- a run that ends in a fault, but for that of a write
pub over-fault : (asked : Result Task RunFault) (bytes : List ℕ) (result : Result (Unit {0}) RunFault) (taken got : Option (List ℕ))
    (seen shown : Option (List Seen)) (old_blocks old_nodes blocks nodes : ℕ) (fault : RunFault) → result ≡ Err fault → is_write_fault fault ≡ false
    → (is_decided fault ≡ true → IsAnswerTo asked bytes (Fault fault))
    → (is_behind_records fault ≡ true → (task : Task) × (asked ≡ Ok task)
    × CountsTask task bytes old_blocks old_nodes blocks nodes × ShowsTask task bytes seen shown)
    → ShowsAsked asked bytes seen shown
    → CarriedOver asked bytes result taken got seen shown old_blocks old_nodes blocks nodes
over-fault asked bytes result taken got seen shown old_blocks old_nodes blocks nodes fault same unwritten refused behind shows = record {
  text = no-ok _ _ _ same;
  refused = at-err (λ f. is_decided f ≡ true → IsAnswerTo asked bytes (Fault f)) result fault same refused;
  first = no-write _ _ fault same unwritten;
  counts = no-ok _ _ _ same;
  shows = no-ok _ _ _ same;
  behind = at-err (λ f. is_behind_records f ≡ true → (task : Task) × (asked ≡ Ok task)
      × CountsTask task bytes old_blocks old_nodes blocks nodes × ShowsTask task bytes seen shown) result fault same behind;
  shows_some = at-err (λ f. ShowsAsked asked bytes seen shown) result fault same shows;
}

-- where all was shown, the first chunks were
pub all-asked : (task : Task) (bytes : List ℕ) (old new : Option (List Seen)) → length bytes ≤ input_limit → ShowsTask task bytes old new
    → ShowsAsked (Ok task) bytes old new
all-asked (Table request) bytes old new fits shows = shown-within bytes fits request old new record {
  shown = shows.shown;
  told = shows.told;
  begins = λ link. ([], sym (shows.all link) ∙ sym (append-nil (of_link link shows.shown)));
  in_order = shows.in_order;
}
all-asked Tree bytes old new fits shows = shows

-- ---- the fault of what is read
too-long : (task : Task) (bytes : List ℕ) → input_limit < length bytes → AnswersBytes task bytes (Fault run.InputTooLong)
too-long task bytes more = let long : nat_lt input_limit (length bytes) ≡ true = grind (arith, nat_tests) in
    subst (λ l. AnswersWithin l task bytes (Fault run.InputTooLong)) (sym long) refl

-- it is none, it is that of the source, or that of the length
abbrev pub Unread : Option ℕ → Type 0 → Option (List ℕ) → RunFault → Type 0
Unread rows Rises told fault = (fault ≡ run.NoMemory) ⊎ (fault ≡ run.ReadFault) × (rows ≡ None) × Rises ⊎ (fault ≡ run.InputTooLong) × IsTooLong told

-- the bytes of an input that wasn't read whole, over which its fault is the answer where it is decided
abbrev pub RefusedOver : Option (List ℕ) → Result Task RunFault → RunFault → Type 0
RefusedOver told asked fault = (bytes : List ℕ) × AreBytes told bytes × (is_decided fault ≡ true → IsAnswerTo asked bytes (Fault fault))

undecided : (told : Option (List ℕ)) (asked : Result Task RunFault) (fault : RunFault) → is_decided fault ≡ false → RefusedOver told asked fault
undecided told asked fault none =
    let some = some-bytes told in
    (some.0, some.1, λ decided. absurd (untrue (sym none ∙ decided)))

module _ (rows : Option ℕ) (Rises : Type 0) where
  pub unread-refused : (told : Option (List ℕ)) (asked : Result Task RunFault) (task : Task) (fault : RunFault) → asked ≡ Ok task
      → Unread rows Rises told fault → RefusedOver told asked fault
  unread-refused told asked task fault is (inl none) = undecided told asked fault (ap is_decided none)
  unread-refused told asked task fault is (inr (inl read)) = undecided told asked fault (ap is_decided read.0)
  unread-refused told asked task fault is (inr (inr (long, (bytes, are, more)))) =
      let answers : IsAnswerTo asked bytes (Fault run.InputTooLong) = answered asked task bytes is (Fault run.InputTooLong) (too-long task bytes more) in
      (bytes, are, λ decided. subst (λ f. IsAnswerTo asked bytes (Fault f)) (sym long) answers)

  pub unread-late : (left : Option (List ℕ)) (fault : RunFault) → Unread rows Rises left fault → is_early fault ≡ false
  unread-late left fault (inl none) = subst (λ f. is_early f ≡ false) (sym none) refl
  unread-late left fault (inr (inl read)) = subst (λ f. is_early f ≡ false) (sym read.0) refl
  unread-late left fault (inr (inr long)) = subst (λ f. is_early f ≡ false) (sym long.0) refl

  pub unread-not_writing : (left : Option (List ℕ)) (fault : RunFault) → Unread rows Rises left fault → is_write_fault fault ≡ false
  unread-not_writing left fault (inl none) = subst (λ f. is_write_fault f ≡ false) (sym none) refl
  unread-not_writing left fault (inr (inl read)) = subst (λ f. is_write_fault f ≡ false) (sym read.0) refl
  unread-not_writing left fault (inr (inr long)) = subst (λ f. is_write_fault f ≡ false) (sym long.0) refl

  pub unread-not_behind : (X : Type 0) (left : Option (List ℕ)) (fault : RunFault) → Unread rows Rises left fault → is_behind_records fault ≡ true → X
  unread-not_behind X left fault (inl none) behind = absurd (untrue (subst (λ f. is_behind_records f ≡ true) none behind))
  unread-not_behind X left fault (inr (inl read)) behind = absurd (untrue (subst (λ f. is_behind_records f ≡ true) read.0 behind))
  unread-not_behind X left fault (inr (inr long)) behind = absurd (untrue (subst (λ f. is_behind_records f ≡ true) long.0 behind))

  pub unread-failed : (left : Option (List ℕ)) (fault : RunFault) → Unread rows Rises left fault → fault ≡ run.ReadFault → (rows ≡ None) × Rises
  unread-failed left fault (inl none) read = absurd (cc)
  unread-failed left fault (inr (inl failed)) read = (failed.1, failed.2)
  unread-failed left fault (inr (inr long)) read = absurd (cc)
