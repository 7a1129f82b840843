-- What the options that are meant ask for, the words ask for: those of the chain where rows are made in place of an input.
use Rattle.std.proofs.Common.{◌≡◌, ◌⊎◌, ℕ, Bool, false, Option, Result, subst, sym, inl, inr}
use Rattle.run_model.specs.promise.Words.{Options}
use Rattle.run_model.specs.promise.Answer.{Task, TaskIs, meant_by}
use Rattle.run_model.specs.declared.fault.RunFault.{RunFault}

pub meant-only : {X : Type 0} (check : Bool) (rows : Option ℕ) (options meant : Options) (asked : Result Task RunFault) → check ≡ false
    → meant ≡ meant_by rows options → X ⊎ ((other : Result Task RunFault) → TaskIs false meant other → other ≡ asked)
    → X ⊎ ((other : Result Task RunFault) → TaskIs check (meant_by rows options) other → other ≡ asked)
meant-only check rows options meant asked unchecked is (inl x) = inl x
meant-only check rows options meant asked unchecked is (inr only) = inr
    (λ other asks. only other (subst (λ b. TaskIs b meant other) unchecked (subst (λ m. TaskIs check m other) (sym is) asks)))
