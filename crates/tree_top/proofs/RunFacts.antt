-- What a run comes to, from what is carried out.
use Rattle.std.proofs.Common.{ℕ, ◌≡◌, ◌∙◌, true, false, List, Option, None, Some, IfSome, Result, Ok, Err, IfErr, OnOk, ap, sym, subst}
use Rattle.tree_top.specs.promise.TextOrFault.{Fault}
use Rattle.tree_top.specs.promise.Answer.{IsAnswerTo}
use Rattle.tree_top.specs.promise.Faults.{has_memory_inside}
use Rattle.tree_top.specs.Faults.{fault_in, is_decided}
use Rattle.tree_top.specs.promise.Over.{RanOver}
use Rattle.tree_top.specs.declared.command.Command.{Command}
use Rattle.tree_top.specs.declared.fault.TreeRunFault.{TreeRunFault}

-- over the command of the words, with the counts of a pass that began at none
pub ran-over : (command asked : Option Command) (bytes : List ℕ) (carried : Result (Unit {0}) TreeRunFault) (fault : Option TreeRunFault)
    (taken got : Option (List ℕ)) (old_blocks old_nodes new_blocks new_nodes blocks nodes : ℕ) (ReadRose WriteRose : Type 0)
    → command ≡ asked → fault ≡ fault_in carried → old_blocks ≡ 0 → old_nodes ≡ 0 → blocks ≡ new_blocks → nodes ≡ new_nodes
    → RanOver command bytes (fault_in carried) taken got old_blocks old_nodes new_blocks new_nodes ReadRose WriteRose
    → RanOver asked bytes fault taken got 0 0 blocks nodes ReadRose WriteRose
ran-over command asked bytes carried fault taken got old_blocks old_nodes new_blocks new_nodes blocks nodes R W is told no-blocks no-nodes more-blocks
    more-nodes over =
    subst (λ c. RanOver c bytes fault taken got 0 0 blocks nodes R W) is
    (subst (λ f. RanOver command bytes f taken got 0 0 blocks nodes R W) (sym told)
    (subst (λ b. RanOver command bytes (fault_in carried) taken got 0 0 b nodes R W) (sym more-blocks)
    (subst (λ n. RanOver command bytes (fault_in carried) taken got 0 0 new_blocks n R W) (sym more-nodes)
    (subst (λ b. RanOver command bytes (fault_in carried) taken got b 0 new_blocks new_nodes R W) no-blocks
    (subst (λ n. RanOver command bytes (fault_in carried) taken got old_blocks n new_blocks new_nodes R W) no-nodes over)))))

module _ (carried : Result (Unit {0}) TreeRunFault) (fault : Option TreeRunFault) (told : fault ≡ fault_in carried) where
  pub carried-err : (f : TreeRunFault) → fault ≡ Some f → carried ≡ Err f
  carried-err f is = go carried (sym told ∙ is)
    where
      go : (r : Result (Unit {0}) TreeRunFault) → fault_in r ≡ Some f → r ≡ Err f
      go (Ok done) same = absurd (cc)
      go (Err e) same = let one : e ≡ f = cc in ap Err one

  pub fault-some : (f : TreeRunFault) → carried ≡ Err f → fault ≡ Some f
  fault-some f is = told ∙ ap fault_in is

  pub on-ok : (P : Type 0) → OnOk carried P → fault ≡ None → P
  on-ok P holds none = go carried holds (sym told ∙ none)
    where
      go : (r : Result (Unit {0}) TreeRunFault) → OnOk r P → fault_in r ≡ None → P
      go (Ok done) holds same = holds
      go (Err e) holds same = absurd (cc)

  pub if-some : (P : TreeRunFault → Type 0) → IfErr carried P → IfSome fault P
  if-some P holds = subst (λ f. IfSome f P) (sym told) (go carried holds)
    where
      go : (r : Result (Unit {0}) TreeRunFault) → IfErr r P → IfSome (fault_in r) P
      go (Ok done) holds = tt
      go (Err e) holds = holds

-- no fault of a run has an out-of-memory inside it, as none that is an answer has
pub memory-alone : (command : Option Command) (bytes : List ℕ) (fault : Option TreeRunFault)
    → ((command : Option Command) (bytes : List ℕ) (f : TreeRunFault) → (is_decided f ≡ true → IsAnswerTo command bytes (Fault f))
    → has_memory_inside f ≡ false)
    → IfSome fault (λ f. is_decided f ≡ true → IsAnswerTo command bytes (Fault f)) → IfSome fault (λ f. has_memory_inside f ≡ false)
memory-alone command bytes None law refused = tt
memory-alone command bytes (Some f) law refused = law command bytes f refused
