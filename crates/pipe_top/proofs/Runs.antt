-- What a run comes to, from what its parts come to.
use Rattle.std.proofs.Common.{ℕ, ◌≡◌, ◌⊎◌, ◌++◌, ◌∙◌, Bool, true, false, List, Option, None, Some, IfSome, Result, Ok, Err, IfErr, IfOk, OnErr, OnOk, ap, refl}
use Rattle.std.proofs.Common.{sym, subst}
use Rattle.std.proofs.Common.{append-nil, inl, inr}
use Rattle.std.proofs.lemmas.Bool.{false≢true}
use Rattle.edge_io.specs.declared.edge.WriteFault.{WriteFault}
use Rattle.unit_pass.specs.declared.pass.Audit.{Audit}
use Rattle.stream_face.specs.promise.Shown.{Seen}
use Rattle.tree_check.specs.promise.Runs.{Cause, OfWords, OfTexts, OfPlan, OfRecords, OfTree, OfLength, Reading}
use Rattle.tree_check.specs.promise.Runs.{Writing, Memory, AtWriting, Took, GotFirst, GotText, IsRead, ReadFor}
use Rattle.run_model.specs.promise.Answer.{Answer, Asks, Task, Text, Tree, Fault, cause_of}
use Rattle.run_model.specs.promise.MemoryFaults.{has_memory_inside}
use Rattle.run_model.specs.Outcomes.{AtWriteFault, is_decided, is_early, is_write_fault}
use Rattle.run_model.specs.Outcomes.{asked_of, fault_in, task_of}
use Rattle.run_model.specs.declared.asked.Task.{Task as AsksTask}
use Rattle.run_model.specs.promise.Diagnostics.{Told, audit_if, fault_line}
use Rattle.run_model.specs.Diagnostics.{Says}
use Rattle.run_model.specs.declared.fault.RunFault.{RunFault}
use Rattle.run_model.specs.declared.fault.RunFault.TheVariants as run
use Rattle.pipe_top.specs.promise.Over.{RanOver, is_behind_records}
use Rattle.pipe_top.specs.Over.{CarriedOver}
use Rattle.pipe_top.specs.promise.Traffic.{CountsTask, IsShown, IsShownInPart, IsTraffic, ShowsAsked, ShowsTask}
use Rattle.run_model.specs.promise.Words.{made_of}
use Rattle.pipe_top.proofs.Carried.{over-fault}
use Rattle.pipe_top.proofs.Unshown.{unshown}
use Rattle.pipe_top.proofs.Written.{some-bytes}
use Rattle.run_model.specs.promise.RunAnswer.{AreInput, IsAnswer, IsAnswerTo, input_by}
use Rattle.run_model.specs.RunAnswer.{AreBytes}

-- ---- diagnostics

took : (r : Result (Unit {0}) WriteFault) (old new : Option (List ℕ)) (before now : ℕ) (text : List ℕ) → Says r old new before now text
    → Took old new before now text
took (Ok done) old new before now text says = inl says.0
took (Err fault) old new before now text says = inr says

-- the audit is written where it is asked for, unless memory runs out
pub told-all : (r : Result (Unit {0}) WriteFault) (old new : Option (List ℕ)) (before now : ℕ) (fault : Option RunFault) (audit : Audit) (wanted asked : Bool)
    → ((fault ≡ Some run.NoMemory) × (wanted ≡ false)) ⊎ (wanted ≡ asked)
    → Says r old new before now (fault_line fault ++ audit_if wanted audit) → Told old new before now fault (audit_if asked audit)
told-all r old new before now fault audit wanted asked (inl none) says =
    let alone : fault_line fault ++ audit_if wanted audit ≡ fault_line fault =
    ap (λ w. fault_line fault ++ audit_if w audit) none.1 ∙ append-nil (fault_line fault) in
    inr (none.0, took r old new before now (fault_line fault) (subst (Says r old new before now) alone says))
told-all r old new before now fault audit wanted asked (inr same) says =
    inl (took r old new before now _ (subst (λ w. Says r old new before now (fault_line fault ++ audit_if w audit)) same says))

-- out of memory while the words are read is the run's
pub no-memory : (request : Result AsksTask RunFault) (carried : Result (Unit {0}) RunFault) (fault : Option RunFault)
    → request ≡ Err run.NoMemory → IfErr request (λ f. carried ≡ Err f) → fault ≡ fault_in carried → fault ≡ Some run.NoMemory
no-memory request carried fault is early told = told ∙ ap fault_in (subst (λ e. IfErr e (λ f. carried ≡ Err f)) is early)

pub silent-audit : (request : Result AsksTask RunFault) (carried : Result (Unit {0}) RunFault) (fault : Option RunFault) (wanted asked : Bool)
    → IfErr request (λ f. carried ≡ Err f) → fault ≡ fault_in carried
    → ((request ≡ Err run.NoMemory) × (wanted ≡ false)) ⊎ (wanted ≡ asked) → ((fault ≡ Some run.NoMemory) × (wanted ≡ false)) ⊎ (wanted ≡ asked)
silent-audit request carried fault wanted asked early told (inl none) = inl (no-memory request carried fault none.0 early told, none.1)
silent-audit request carried fault wanted asked early told (inr same) = inr same

-- ---- faults by what they come from

pub fault-cases : (f : RunFault) → (is_decided f ≡ true) ⊎ ((f ≡ run.ReadFault) ⊎ (((taken : ℕ) × (f ≡ run.WriteFault taken)) ⊎ (f ≡ run.NoMemory)))
fault-cases (run.Words fault) = inl refl
fault-cases (run.Stage number fault) = inl refl
fault-cases (run.Schema entry rule) = inl refl
fault-cases (run.Plan number rule) = inl refl
fault-cases run.NoHeader = inl refl
fault-cases (run.TooManyColumns count) = inl refl
fault-cases (run.HeaderText column) = inl refl
fault-cases (run.HeaderTwice column) = inl refl
fault-cases (run.HeaderUnknown entry) = inl refl
fault-cases (run.Ragged number found) = inl refl
fault-cases (run.Field number column) = inl refl
fault-cases (run.Tree fault) = inl refl
fault-cases run.InputTooLong = inl refl
fault-cases run.ReadFault = inr (inl refl)
fault-cases (run.WriteFault taken) = inr (inr (inl (taken, refl)))
fault-cases run.NoMemory = inr (inr (inr refl))

at-writing : (cause : Cause) (P Q : ℕ → Type 0) → ((n : ℕ) → cause ≡ Writing n → P n → Q n) → AtWriting cause P → AtWriting cause Q
at-writing OfWords P Q step holds = tt
at-writing OfTexts P Q step holds = tt
at-writing OfPlan P Q step holds = tt
at-writing OfRecords P Q step holds = tt
at-writing OfTree P Q step holds = tt
at-writing OfLength P Q step holds = tt
at-writing Reading P Q step holds = tt
at-writing (Writing n) P Q step holds = step n refl holds
at-writing Memory P Q step holds = tt

-- ---- what is asked for, and what the words ask for

module _ (words : List (List ℕ)) (request : Result AsksTask RunFault) (carried : Result (Unit {0}) RunFault) (fault : Option RunFault)
    (early : IfErr request (λ f. carried ≡ Err f)) (told : fault ≡ fault_in carried)
    (asks : (request ≡ Err run.NoMemory) ⊎ Asks words (asked_of request)) where
  asked-unless : (request ≡ Err run.NoMemory → ⊥) → Asks words (asked_of request)
  asked-unless never = go asks
    where
      go : (request ≡ Err run.NoMemory) ⊎ Asks words (asked_of request) → Asks words (asked_of request)
      go (inl none) = absurd (never none)
      go (inr asked) = asked

  memory-carried : request ≡ Err run.NoMemory → carried ≡ Err run.NoMemory
  memory-carried none = subst (λ e. IfErr e (λ f. carried ≡ Err f)) none early

  module _ (f : RunFault) (is : carried ≡ Err f) where
    -- out of memory while the words are read is the fault
    fault-of-memory : request ≡ Err run.NoMemory → f ≡ run.NoMemory
    fault-of-memory none =
        let same : ◌≡◌ {A = Result (Unit {0}) RunFault} (Err f) (Err run.NoMemory) = sym is ∙ memory-carried none in
        let one : f ≡ run.NoMemory = cc in
        one

    decided-asked : is_decided f ≡ true → request ≡ Err run.NoMemory → ⊥
    decided-asked decided none = false≢true (subst (λ f. is_decided f ≡ true) (fault-of-memory none) decided)

    writing-asked : (n : ℕ) → cause_of f ≡ Writing n → request ≡ Err run.NoMemory → ⊥
    writing-asked n writes none = let never : ◌≡◌ {A = Cause} Memory (Writing n) = sym (ap cause_of (fault-of-memory none)) ∙ writes in cc

  carried-ok : fault ≡ None → carried ≡ Ok tt
  carried-ok none = go carried (sym told ∙ none)
    where
      go : (r : Result (Unit {0}) RunFault) → fault_in r ≡ None → r ≡ Ok tt
      go (Ok done) is = refl
      go (Err f) is = let never : ◌≡◌ {A = Option RunFault} (Some f) None = is in cc

  carried-err : (f : RunFault) → fault ≡ Some f → carried ≡ Err f
  carried-err f some = go carried (sym told ∙ some)
    where
      go : (r : Result (Unit {0}) RunFault) → fault_in r ≡ Some f → r ≡ Err f
      go (Ok done) is = let never : ◌≡◌ {A = Option RunFault} None (Some f) = is in cc
      go (Err g) is = let same : ◌≡◌ {A = Option RunFault} (Some g) (Some f) = is in let one : g ≡ f = cc in ap Err one

  -- where the run has no fault, the words ask for what was read
  done-asked : fault ≡ None → request ≡ Err run.NoMemory → ⊥
  done-asked none memory =
      let never : ◌≡◌ {A = Result (Unit {0}) RunFault} (Ok tt) (Err run.NoMemory) = sym (carried-ok none) ∙ memory-carried memory in
      cc

  -- what holds of the fault of what was carried out holds of that of the run
  pub of-fault : (P : RunFault → Type 0) → IfErr carried P → IfSome fault P
  of-fault P holds = subst (λ o. IfSome o P) (sym told) (go carried holds)
    where
      go : (r : Result (Unit {0}) RunFault) → IfErr r P → IfSome (fault_in r) P
      go (Ok done) holds = tt
      go (Err f) holds = holds

  -- so does what follows of it
  then-fault : (P Q : RunFault → Type 0) → ((f : RunFault) → carried ≡ Err f → P f → Q f) → IfErr carried P → IfSome fault Q
  then-fault P Q step holds = of-fault Q (go carried refl holds)
    where
      go : (r : Result (Unit {0}) RunFault) → carried ≡ r → IfErr r P → IfErr r Q
      go (Ok done) is holds = tt
      go (Err f) is holds = step f is holds

  -- ---- over the bytes of an input
  module _ (bytes : List ℕ) where
    answer-is : (answer : Answer) → (request ≡ Err run.NoMemory → ⊥) → IsAnswerTo (asked_of request) bytes answer → IsAnswer words bytes answer
    answer-is answer never is = record { asked = asked_of request; asks = asked-unless never; is = is }

    done-for-task : (P : Task → Type 0) → OnOk carried (IfOk (asked_of request) P) → fault ≡ None → (task : Task) × Asks words (Ok task) × P task
    done-for-task P holds none = go request refl (subst (λ r. OnOk r (IfOk (asked_of request) P)) (carried-ok none) holds)
      where
        go : (r : Result AsksTask RunFault) → request ≡ r → IfOk (asked_of r) P → (task : Task) × Asks words (Ok task) × P task
        go (Ok t) at here = (task_of t, subst (λ (r : Result AsksTask RunFault). Asks words (asked_of r)) at (asked-unless (done-asked none)), here)
        go (Err f) at here =
            let never : ◌≡◌ {A = Result (Unit {0}) RunFault} (Ok tt) (Err f) =
            sym (carried-ok none) ∙ subst (λ (r : Result AsksTask RunFault). IfErr r (λ f. carried ≡ Err f)) at early in
            cc

    text-of-answer : (old new : Option (List ℕ)) → OnOk carried (GotText (λ t. IsAnswerTo (asked_of request) bytes (Text t)) old new) → fault ≡ None
        → GotText (λ t. IsAnswer words bytes (Text t)) old new
    text-of-answer old new got none =
        let here = subst (λ r. OnOk r (GotText (λ t. IsAnswerTo (asked_of request) bytes (Text t)) old new)) (carried-ok none) got in
        (here.0, answer-is (Text here.0) (done-asked none) here.1, here.2)

    prefix-of-answer : (old new : Option (List ℕ)) → IfErr carried (λ f. AtWriteFault f (λ n. GotFirst (λ t. IsAnswerTo (asked_of request) bytes (Text t)) old new n))
        → IfSome fault (λ f. AtWriteFault f (λ n. GotFirst (λ t. IsAnswer words bytes (Text t)) old new n))
    prefix-of-answer old new =
        then-fault (λ f. AtWriteFault f (λ n. GotFirst (λ t. IsAnswerTo (asked_of request) bytes (Text t)) old new n))
        (λ f. AtWriteFault f (λ n. GotFirst (λ t. IsAnswer words bytes (Text t)) old new n))
        (λ f is. at-writing (cause_of f) (λ n. GotFirst (λ t. IsAnswerTo (asked_of request) bytes (Text t)) old new n) (λ n. GotFirst (λ t. IsAnswer words bytes (Text t)) old new n)
        (λ n writes first. (first.0, answer-is (Text first.0) (writing-asked f is n writes) first.1, first.2, first.3)))

    refused-by-answer : IfErr carried (λ f. is_decided f ≡ true → IsAnswerTo (asked_of request) bytes (Fault f))
        → IfSome fault (λ f. is_decided f ≡ true → IsAnswer words bytes (Fault f))
    refused-by-answer =
        then-fault (λ f. is_decided f ≡ true → IsAnswerTo (asked_of request) bytes (Fault f)) (λ f. is_decided f ≡ true → IsAnswer words bytes (Fault f))
        (λ f is refused decided. answer-is (Fault f) (decided-asked f is decided) (refused decided))

    shown-in-part : (old new : Option (List Seen)) → IfErr request (λ _. new ≡ old)
        → (request ≡ Err run.NoMemory) ⊎ ((asked : Result Task RunFault) → Asks words asked → asked ≡ asked_of request)
        → OnErr carried (ShowsAsked (asked_of request) bytes old new) → IfSome fault (λ _. IsShownInPart words bytes old new)
    shown-in-part old new none (inl memory) shows =
        of-fault (λ _. IsShownInPart words bytes old new) (subst (λ (r : Result (Unit {0}) RunFault). IfErr r (λ _. IsShownInPart words bytes old new))
        (sym (memory-carried memory))
        (λ asked asks. unshown asked bytes old new (subst (λ (r : Result AsksTask RunFault). IfErr r (λ _. new ≡ old)) memory none)))
    shown-in-part old new none (inr only) shows =
        then-fault (λ _. ShowsAsked (asked_of request) bytes old new) (λ _. IsShownInPart words bytes old new)
        (λ f is all asked asks. subst (λ (a : Result Task RunFault). ShowsAsked a bytes old new) (sym (only asked asks)) all) shows

    -- the counts of a pass that began at none
    counts-of-task : (old_blocks old_nodes new_blocks new_nodes blocks nodes : ℕ) → old_blocks ≡ 0 → old_nodes ≡ 0 → blocks ≡ new_blocks → nodes ≡ new_nodes
        → OnOk carried (IfOk (asked_of request) (λ t. CountsTask t bytes old_blocks old_nodes new_blocks new_nodes))
        → fault ≡ None → IsTraffic words bytes blocks nodes
    counts-of-task old_blocks old_nodes new_blocks new_nodes blocks nodes no-blocks no-nodes same-blocks same-nodes counts none =
        rw (same-blocks, same-nodes)
        (done-for-task (λ task. CountsTask task bytes 0 0 new_blocks new_nodes)
        (subst (λ n. OnOk carried (IfOk (asked_of request) (λ t. CountsTask t bytes 0 n new_blocks new_nodes))) no-nodes
        (subst (λ b. OnOk carried (IfOk (asked_of request) (λ t. CountsTask t bytes b old_nodes new_blocks new_nodes))) no-blocks counts))
        none)

    -- behind all records the words ask for what was read
    behind-for-task : (seen shown : Option (List Seen)) (old_blocks old_nodes new_blocks new_nodes blocks nodes : ℕ) → old_blocks ≡ 0 → old_nodes ≡ 0
        → blocks ≡ new_blocks → nodes ≡ new_nodes
        → IfErr carried (λ f. is_behind_records f ≡ true → (task : Task) × (asked_of request ≡ Ok task)
        × CountsTask task bytes old_blocks old_nodes new_blocks new_nodes × ShowsTask task bytes seen shown)
        → IfSome fault (λ f. is_behind_records f ≡ true → IsTraffic words bytes blocks nodes × IsShown words bytes seen shown)
    behind-for-task seen shown old_blocks old_nodes new_blocks new_nodes blocks nodes no-blocks no-nodes same-blocks same-nodes =
        then-fault
        (λ f. is_behind_records f ≡ true → (task : Task) × (asked_of request ≡ Ok task)
        × CountsTask task bytes old_blocks old_nodes new_blocks new_nodes × ShowsTask task bytes seen shown)
        (λ f. is_behind_records f ≡ true → IsTraffic words bytes blocks nodes × IsShown words bytes seen shown)
        (λ f is holds behind.
        let (task, taken, counts, shows) = holds behind in
        let asks : Asks words (Ok task) = subst (Asks words) taken (asked-unless (λ none.
        let never : ◌≡◌ {A = Result Task RunFault} (Err run.NoMemory) (Ok task) = sym (ap asked_of none) ∙ taken in cc)) in
        let begun : CountsTask task bytes 0 0 new_blocks new_nodes =
        subst (λ n. CountsTask task bytes 0 n new_blocks new_nodes) no-nodes
        (subst (λ b. CountsTask task bytes b old_nodes new_blocks new_nodes) no-blocks counts) in
        ((task, asks, rw (same-blocks, same-nodes) begun), (task, asks, shows)))

    -- ---- which outcome it is
    module _ (alone : (words : List (List ℕ)) (bytes : List ℕ) (one other : Answer) → IsAnswer words bytes one → IsAnswer words bytes other → one ≡ other)
        (ReadRose WriteRose : Type 0) (read : fault ≡ Some run.ReadFault → ReadRose)
        (refused : IfSome fault (λ f. is_decided f ≡ true → IsAnswer words bytes (Fault f))) where
      refused-at : (f : RunFault) → fault ≡ Some f → is_decided f ≡ true → IsAnswer words bytes (Fault f)
      refused-at f is = subst (λ o. IfSome o (λ f. is_decided f ≡ true → IsAnswer words bytes (Fault f))) is refused

      -- where the answer is a fault, it is reported, unless a read fails
      complete-fault : (old new : Option (List ℕ)) → (fault ≡ None → GotText (λ t. IsAnswer words bytes (Text t)) old new)
          → IfSome fault (λ f. AtWriteFault f (λ n. GotFirst (λ t. IsAnswer words bytes (Text t)) old new n))
          → (other : RunFault) → IsAnswer words bytes (Fault other) → (ReadRose → ⊥) → (fault ≡ Some other) ⊎ (fault ≡ Some run.NoMemory)
      complete-fault old new text first other answer no-read = go fault refl
        where
          by-cause : (f : RunFault) → fault ≡ Some f
              → (is_decided f ≡ true) ⊎ ((f ≡ run.ReadFault) ⊎ (((taken : ℕ) × (f ≡ run.WriteFault taken)) ⊎ (f ≡ run.NoMemory)))
              → (fault ≡ Some other) ⊎ (fault ≡ Some run.NoMemory)
          by-cause f is (inl decided) =
              let same : ◌≡◌ {A = Answer} (Fault f) (Fault other) = alone words bytes (Fault f) (Fault other) (refused-at f is decided) answer in
              let one : f ≡ other = cc in
              inl (is ∙ ap Some one)
          by-cause f is (inr (inl reading)) = absurd (no-read (read (is ∙ ap Some reading)))
          by-cause f is (inr (inr (inl (taken, writing)))) =
              let here = subst (λ o. IfSome o (λ f. AtWriteFault f (λ n. GotFirst (λ t. IsAnswer words bytes (Text t)) old new n))) (is ∙ ap Some writing) first in
              let never : ◌≡◌ {A = Answer} (Text here.0) (Fault other) = alone words bytes (Text here.0) (Fault other) here.1 answer in
              cc
          by-cause f is (inr (inr (inr memory))) = inr (is ∙ ap Some memory)

          go : (o : Option RunFault) → fault ≡ o → (fault ≡ Some other) ⊎ (fault ≡ Some run.NoMemory)
          go None is =
              let here = text is in
              let never : ◌≡◌ {A = Answer} (Text here.0) (Fault other) = alone words bytes (Text here.0) (Fault other) here.1 answer in
              cc
          go (Some f) is = by-cause f is (fault-cases f)

      -- where it is a text, nothing is refused, unless a read or a write fails
      complete-text : IfSome fault (λ f. AtWriteFault f (λ taken. WriteRose))
          → (text : List ℕ) → IsAnswer words bytes (Text text) → (ReadRose → ⊥) → (WriteRose → ⊥) → (fault ≡ None) ⊎ (fault ≡ Some run.NoMemory)
      complete-text wrote text answer no-read no-write = go fault refl
        where
          by-cause : (f : RunFault) → fault ≡ Some f
              → (is_decided f ≡ true) ⊎ ((f ≡ run.ReadFault) ⊎ (((taken : ℕ) × (f ≡ run.WriteFault taken)) ⊎ (f ≡ run.NoMemory)))
              → (fault ≡ None) ⊎ (fault ≡ Some run.NoMemory)
          by-cause f is (inl decided) =
              let never : ◌≡◌ {A = Answer} (Fault f) (Text text) = alone words bytes (Fault f) (Text text) (refused-at f is decided) answer in
              cc
          by-cause f is (inr (inl reading)) = absurd (no-read (read (is ∙ ap Some reading)))
          by-cause f is (inr (inr (inl (taken, writing)))) =
              absurd (no-write (subst (λ o. IfSome o (λ f. AtWriteFault f (λ taken. WriteRose))) (is ∙ ap Some writing) wrote))
          by-cause f is (inr (inr (inr memory))) = inr (is ∙ ap Some memory)

          go : (o : Option RunFault) → fault ≡ o → (fault ≡ None) ⊎ (fault ≡ Some run.NoMemory)
          go None is = inl is
          go (Some f) is = by-cause f is (fault-cases f)

  -- ---- the input

  -- what was carried out over the bytes of what was to be read was over those of the words' input; without memory for the words
  -- it is so of any
  module _ (rows : Option ℕ) (left : Option (List ℕ)) (taken got : Option (List ℕ)) (seen shown : Option (List Seen))
      (old_blocks old_nodes blocks nodes : ℕ) (none : IfErr request (λ _. shown ≡ seen)) where
    pub over-input : (request ≡ Err run.NoMemory) ⊎ (rows ≡ made_of words)
        → ((bytes : List ℕ) × AreBytes (input_by rows left) bytes
        × CarriedOver (asked_of request) bytes carried taken got seen shown old_blocks old_nodes blocks nodes)
        → (bytes : List ℕ) × AreInput words left bytes
        × CarriedOver (asked_of request) bytes carried taken got seen shown old_blocks old_nodes blocks nodes
    over-input (inl memory) over =
        let some = some-bytes (input_by (made_of words) left) in
        let same : shown ≡ seen = subst (λ (r : Result AsksTask RunFault). IfErr r (λ _. shown ≡ seen)) memory none in (
          some.0,
          some.1,
          over-fault (asked_of request) some.0 carried taken got seen shown old_blocks old_nodes blocks nodes run.NoMemory
              (memory-carried memory) refl (λ decided. absurd (false≢true decided)) (λ behind. absurd (false≢true behind)) (unshown (asked_of request) some.0 seen shown same),
        )
    over-input (inr same) over = (over.0, subst (λ r. AreBytes (input_by r left) over.0) same over.1, over.2)

  -- ---- what is read

  -- where what the words ask for was carried out without a fault, or to a fault that no refused words have
  pub read-to-end : (rows : Option ℕ) (before after : Option (List ℕ)) → (request ≡ Err run.NoMemory) ⊎ (rows ≡ made_of words)
      → OnOk carried (IsRead rows before after) → fault ≡ None → IsRead (made_of words) before after
  read-to-end rows before after (inl memory) read none = absurd (done-asked none memory)
  read-to-end rows before after (inr same) read none =
      subst (λ (r : Option ℕ). IsRead r before after) same
      (subst (λ (r : Result (Unit {0}) RunFault). OnOk r (IsRead rows before after)) (carried-ok none) read)

  pub fault-read : (rows : Option ℕ) (before after : Option (List ℕ)) → (request ≡ Err run.NoMemory) ⊎ (rows ≡ made_of words)
      → IfErr carried (λ f. ReadFor (cause_of f) rows before after) → IfSome fault (λ f. ReadFor (cause_of f) (made_of words) before after)
  fault-read rows before after (inl memory) read =
      of-fault (λ f. ReadFor (cause_of f) (made_of words) before after)
      (subst (λ (r : Result (Unit {0}) RunFault). IfErr r (λ f. ReadFor (cause_of f) (made_of words) before after)) (sym (memory-carried memory)) tt)
  fault-read rows before after (inr same) read =
      of-fault (λ f. ReadFor (cause_of f) (made_of words) before after)
      (subst (λ (r : Option ℕ). IfErr carried (λ f. ReadFor (cause_of f) r before after)) same read)

  pub read-failed : (rows : Option ℕ) (Rises : Type 0) → (request ≡ Err run.NoMemory) ⊎ (rows ≡ made_of words)
      → (carried ≡ Err run.ReadFault → (rows ≡ None) × Rises) → fault ≡ Some run.ReadFault → (made_of words ≡ None) × Rises
  read-failed rows Rises (inl memory) failed is =
      let never : ◌≡◌ {A = Result (Unit {0}) RunFault} (Err run.NoMemory) (Err run.ReadFault) =
      sym (memory-carried memory) ∙ carried-err run.ReadFault is in
      cc
  read-failed rows Rises (inr same) failed is = let why = failed (carried-err run.ReadFault is) in (sym same ∙ why.0, why.1)

  -- ---- what the words are refused for

  pub refused-for : (request ≡ Err run.NoMemory) ⊎ ((asked : Result Task RunFault) → Asks words asked → asked ≡ asked_of request)
      → (f : RunFault) → Asks words (Err f) → (fault ≡ Some f) ⊎ (fault ≡ Some run.NoMemory)
  refused-for (inl memory) f refuses = inr (told ∙ ap fault_in (memory-carried memory))
  refused-for (inr only) f refuses = go request refl
    where
      go : (r : Result AsksTask RunFault) → request ≡ r → (fault ≡ Some f) ⊎ (fault ≡ Some run.NoMemory)
      go (Ok t) is =
          let never : ◌≡◌ {A = Result Task RunFault} (Err f) (Ok (task_of t)) = only (Err f) refuses ∙ ap asked_of is in
          cc
      go (Err other) is =
          let same : ◌≡◌ {A = Result Task RunFault} (Err f) (Err other) = only (Err f) refuses ∙ ap asked_of is in
          let one : other ≡ f = cc in
          inl (told ∙ ap fault_in (subst (λ (r : Result AsksTask RunFault). IfErr r (λ e. carried ≡ Err e)) is early) ∙ ap Some one)

  pub refused-only : IfErr carried (λ f. is_early f ≡ true → asked_of request ≡ Err f) → IfSome fault (λ f. is_early f ≡ true → Asks words (Err f))
  refused-only =
      then-fault (λ f. is_early f ≡ true → asked_of request ≡ Err f) (λ f. is_early f ≡ true → Asks words (Err f))
      (λ f is asked before. subst (Asks words) (asked before)
      (asked-unless (λ memory. false≢true (subst (λ f. is_early f ≡ true) (fault-of-memory f is memory) before))))

  -- what holds where the words are refused
  pub where-refused : (A : Type 0) → IfErr request (λ _. A)
      → (request ≡ Err run.NoMemory) ⊎ ((asked : Result Task RunFault) → Asks words asked → asked ≡ asked_of request)
      → (f : RunFault) → Asks words (Err f) → A
  where-refused A none (inl memory) f refuses = subst (λ (r : Result AsksTask RunFault). IfErr r (λ _. A)) memory none
  where-refused A none (inr only) f refuses = go request refl none
    where
      go : (r : Result AsksTask RunFault) → request ≡ r → IfErr r (λ _. A) → A
      go (Ok t) is none =
          let never : ◌≡◌ {A = Result Task RunFault} (Err f) (Ok (task_of t)) = only (Err f) refuses ∙ ap asked_of is in
          cc
      go (Err other) is none = none

  -- ---- what the sink didn't get

  pub nothing-written : (A : Type 0) → IfErr carried (λ f. is_write_fault f ≡ false → A) → fault ≡ Some run.NoMemory → A
  nothing-written A holds is =
      subst (λ (r : Result (Unit {0}) RunFault). IfErr r (λ f. is_write_fault f ≡ false → A)) (carried-err run.NoMemory is) holds refl

  -- ---- what the tap didn't see

  pub unshown-check : (bytes : List ℕ) (taken got : Option (List ℕ)) (seen shown : Option (List Seen)) (old_blocks old_nodes blocks nodes : ℕ)
      → CarriedOver (asked_of request) bytes carried taken got seen shown old_blocks old_nodes blocks nodes → IfErr request (λ _. shown ≡ seen)
      → (request ≡ Err run.NoMemory) ⊎ ((asked : Result Task RunFault) → Asks words asked → asked ≡ asked_of request)
      → Asks words (Ok Tree) → shown ≡ seen
  unshown-check bytes taken got seen shown old_blocks old_nodes blocks nodes over none (inl memory) tree =
      subst (λ (r : Result AsksTask RunFault). IfErr r (λ _. shown ≡ seen)) memory none
  unshown-check bytes taken got seen shown old_blocks old_nodes blocks nodes over none (inr only) tree =
      let is = sym (only (Ok Tree) tree) in
      go carried (subst (λ (a : Result Task RunFault). OnOk carried (IfOk a (λ task. ShowsTask task bytes seen shown))) is over.shows)
      (subst (λ (a : Result Task RunFault). OnErr carried (ShowsAsked a bytes seen shown)) is over.shows_some)
    where
      go : (r : Result (Unit {0}) RunFault) → OnOk r (shown ≡ seen) → OnErr r (shown ≡ seen) → shown ≡ seen
      go (Ok done) shows some = shows
      go (Err f) shows some = some

  -- ---- the run
  module _ (bytes : List ℕ) (taken got : Option (List ℕ)) (seen shown : Option (List Seen)) (old_blocks old_nodes new_blocks new_nodes blocks nodes : ℕ)
      (over : CarriedOver (asked_of request) bytes carried taken got seen shown old_blocks old_nodes new_blocks new_nodes)
      (alone : (words : List (List ℕ)) (bytes : List ℕ) (one other : Answer) → IsAnswer words bytes one → IsAnswer words bytes other → one ≡ other)
      (NoneMade ReadRose WriteRose : Type 0) (read : carried ≡ Err run.ReadFault → NoneMade × ReadRose)
      (wrote : IfErr carried (λ f. AtWriteFault f (λ taken. WriteRose))) (none : IfErr request (λ _. shown ≡ seen))
      (only : (request ≡ Err run.NoMemory) ⊎ ((asked : Result Task RunFault) → Asks words asked → asked ≡ asked_of request)) where
    pub ran-over : old_blocks ≡ 0 → old_nodes ≡ 0 → blocks ≡ new_blocks → nodes ≡ new_nodes
        → RanOver words bytes fault taken got seen shown blocks nodes ReadRose WriteRose
    ran-over no-blocks no-nodes same-blocks same-nodes =
        let text = text-of-answer bytes taken got over.text in
        let refused = refused-by-answer bytes over.refused in
        let first = prefix-of-answer bytes taken got over.first in
        let read-rose = (λ (is : fault ≡ Some run.ReadFault). (read (carried-err run.ReadFault is)).1) in
        record {
          text = text;
          refused = refused;
          first = first;
          shows = done-for-task bytes (λ task. ShowsTask task bytes seen shown) over.shows;
          shows_some = shown-in-part bytes seen shown none only over.shows_some;
          behind = behind-for-task bytes seen shown old_blocks old_nodes new_blocks new_nodes blocks nodes no-blocks no-nodes same-blocks same-nodes
              over.behind;
          counts = counts-of-task bytes old_blocks old_nodes new_blocks new_nodes blocks nodes no-blocks no-nodes same-blocks same-nodes over.counts;
          complete = complete-text bytes alone ReadRose WriteRose read-rose refused (of-fault (λ f. AtWriteFault f (λ taken. WriteRose)) wrote);
          complete_fault = complete-fault bytes alone ReadRose WriteRose read-rose refused taken got text first;
        }

-- no fault of a run has an out-of-memory inside it, as none that is an answer has
pub memory-alone : (words : List (List ℕ)) (bytes : List ℕ) (fault : Option RunFault)
    → ((words : List (List ℕ)) (bytes : List ℕ) (f : RunFault) → (is_decided f ≡ true → IsAnswer words bytes (Fault f)) → has_memory_inside f ≡ false)
    → IfSome fault (λ f. is_decided f ≡ true → IsAnswer words bytes (Fault f)) → IfSome fault (λ f. has_memory_inside f ≡ false)
memory-alone words bytes None law refused = tt
memory-alone words bytes (Some f) law refused = law words bytes f refused

-- ---- where rows are made

if-some : {A : Type 0} (o : Option ℕ) → A → IfSome o (λ n. A)
if-some None holds = tt
if-some (Some n) holds = holds

-- what holds where rows are made holds where the words ask for that: out of memory while they are read is a refusal
pub made-keeps : (A : Type 0) (words : List (List ℕ)) (rows : Option ℕ) (request : Result AsksTask RunFault)
    → (request ≡ Err run.NoMemory) ⊎ (rows ≡ made_of words) → IfErr request (λ f. A) → IfSome rows (λ n. A) → IfSome (made_of words) (λ n. A)
made-keeps A words rows request (inl none) early made = if-some (made_of words) (subst (λ r. IfErr r (λ f. A)) none early)
made-keeps A words rows request (inr same) early made = subst (λ r. IfSome r (λ n. A)) same made
