use Rattle.std.proofs.Common.{◌≡◌, ◌⊎◌, ℕ, List, Result, Ok, Err, IfOk, subst, sym, inl, inr}
use Rattle.run_model.specs.promise.Words.{Options, words_of}
use Rattle.run_model.specs.promise.Answer.{Asks, OptionsAsk, Task, TaskIs, meant_by}
use Rattle.run_model.specs.Outcomes.{IfTable, asked_of}
use Rattle.run_model.specs.declared.asked.Task.{Task as AsksTask}
use Rattle.run_model.specs.declared.fault.RunFault.{RunFault}
use Rattle.run_model.specs.declared.fault.RunFault.TheVariants as run
use Rattle.run_model.proofs.asked.read_command_line.Goals as goal

-- what the options alone ask for, the words ask for
only-asked : (words : List (List ℕ)) (options : Options) (r : Result AsksTask RunFault) → words_of words ≡ Ok options
    → (r ≡ Err run.NoMemory) ⊎ ((asked : Result Task RunFault) → TaskIs options.check (meant_by options.selftest options) asked → asked ≡ asked_of r)
    → (r ≡ Err run.NoMemory) ⊎ ((asked : Result Task RunFault) → Asks words asked → asked ≡ asked_of r)
only-asked words options r is (inl none) = inl none
only-asked words options r is (inr only) = inr (λ asked asks. only asked (subst (λ w. OptionsAsk w asked) is asks))

all-asked : (words : List (List ℕ)) (options : Options) (r : Result AsksTask RunFault) → words_of words ≡ Ok options
    → (r ≡ Err run.NoMemory) ⊎ TaskIs options.check (meant_by options.selftest options) (asked_of r) → (r ≡ Err run.NoMemory) ⊎ Asks words (asked_of r)
all-asked words options r is (inl none) = inl none
all-asked words options r is (inr asks) = inr (subst (λ w. OptionsAsk w (asked_of r)) (sym is) asks)

-- as many workers as the options ask for, the words ask for
workers-asked : (words : List (List ℕ)) (options : Options) (r : Result AsksTask RunFault) → words_of words ≡ Ok options
    → IfOk r (λ t. IfTable t (λ q. q.workers.count ≡ options.workers)) → IfOk r (λ t. IfTable t (λ q. IfOk (words_of words) (λ o. q.workers.count ≡ o.workers)))
workers-asked words options r is same = subst (λ w. IfOk r (λ t. IfTable t (λ q. IfOk w (λ o. q.workers.count ≡ o.workers)))) (sym is) same

-- so it is with the batches ahead
ahead-asked : (words : List (List ℕ)) (options : Options) (r : Result AsksTask RunFault) → words_of words ≡ Ok options
    → IfOk r (λ t. IfTable t (λ q. q.ahead ≡ options.ahead)) → IfOk r (λ t. IfTable t (λ q. IfOk (words_of words) (λ o. q.ahead ≡ o.ahead)))
ahead-asked words options r is same = subst (λ w. IfOk r (λ t. IfTable t (λ q. IfOk w (λ o. q.ahead ≡ o.ahead)))) (sym is) same

pub returns-in-Ok-clause-as_asked : goal.returns-in-Ok-clause-as_asked
returns-in-Ok-clause-as_asked c = workers-asked _ _ c.read_task.result c.in-Ok.ensures.taken c.read_task.ensures.as_asked

pub returns-in-Ok-clause-ahead_as_asked : goal.returns-in-Ok-clause-ahead_as_asked
returns-in-Ok-clause-ahead_as_asked c = ahead-asked _ _ c.read_task.result c.in-Ok.ensures.taken c.read_task.ensures.ahead_as_asked

pub returns-in-Ok-clause-asks : goal.returns-in-Ok-clause-asks
returns-in-Ok-clause-asks c = all-asked _ _ c.read_task.result c.in-Ok.ensures.taken c.read_task.ensures.asks

pub returns-in-Ok-clause-only : goal.returns-in-Ok-clause-only
returns-in-Ok-clause-only c = only-asked _ _ c.read_task.result c.in-Ok.ensures.taken c.read_task.ensures.only
