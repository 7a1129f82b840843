-- The stages that texts spell, one behind the other.
use Rattle.std.proofs.Common.{◌≡◌, ◌∙◌, ◌<◌, ◌≤◌, ◌+◌, ◌++◌, ◌⊎◌, ℕ, List, [], ◌∷◌, length, map, get_or, drop, Result, Ok, Err, Bor, refl, ap, sym}
use Rattle.std.proofs.Common.{append_assoc}
use Rattle.std.proofs.Common.{append-nil, inl, inr}
use Rattle.std.proofs.lemmas.List.{drop_all, drop_more, length-append}
use Rattle.stage_model.specs.promise.StageGrammar.{stage_of}
use Rattle.stage_model.specs.declared.fault.StageFault.{StageFault}
use Rattle.stage_model.specs.declared.stage.StageText.{StageText}
use Rattle.run_model.specs.promise.Answer.{stage_before, stages_from}
use Rattle.run_model.specs.declared.fault.RunFault.{RunFault}
use Rattle.run_model.specs.declared.fault.RunFault.TheVariants as run

-- ---- stages before others
abbrev Read : Type 0
Read = Result (List StageText) RunFault

-- stages before those of the rest, or the rest's fault
abbrev pub stages_onto : List StageText → Result (List StageText) RunFault → Result (List StageText) RunFault
stages_onto done (Ok rest) = Ok (done ++ rest)
stages_onto done (Err fault) = Err fault

-- the texts, as they are borrowed
abbrev pub spelled : List (Bor (List ℕ)) → List (List ℕ)
spelled texts = map (λ t. t.now) texts

-- the stages of the texts before a place
pub record ReadTo (texts : List (Bor (List ℕ))) (place : ℕ) (stages : List StageText) : Type 0 where
  pub is : stages_from 1 (spelled texts) ≡ stages_onto stages (stages_from (place + 1) (spelled (drop place texts)))
  pub count : length stages ≡ place

onto-none : (rest : Result (List StageText) RunFault) → rest ≡ stages_onto [] rest
onto-none (Ok rest) = refl
onto-none (Err fault) = refl

onto-one-more : (done : List StageText) (number : ℕ) (stage : StageText) (rest : Result (List StageText) RunFault)
    → stages_onto done (stage_before number (Ok stage) rest) ≡ stages_onto (done ++ stage ∷ []) rest
onto-one-more done number stage (Ok rest) = ap (λ (l : List StageText). Ok l) (sym (append_assoc done (stage ∷ []) rest))
onto-one-more done number stage (Err fault) = refl

pub none-read : (texts : List (Bor (List ℕ))) → ReadTo texts 0 []
none-read texts = record { is = onto-none (stages_from 1 (spelled texts)); count = refl }

-- ---- one text before others
-- a stage alone is the first of more
first-of-more : (number : ℕ) (r : Result StageText StageFault) (stage : StageText) (rest : Read)
    → ◌≡◌ {A = Read} (stage_before number r (Ok [])) (Ok (stage ∷ []))
    → stage_before number r rest ≡ stage_before number (Ok stage) rest
first-of-more number (Ok other) stage rest e = let same : other ≡ stage = cc in ap (λ (s : StageText). stage_before number (Ok s) rest) same
first-of-more number (Err fault) stage rest e = let never : ◌≡◌ {A = Read} (Err (run.Stage number fault)) (Ok (stage ∷ [])) = e in absurd cc

-- a text that is no stage is the fault, whatever is behind it
fault-of-more : (number : ℕ) (r : Result StageText StageFault) (fault : RunFault) (rest : Read) → ◌≡◌ {A = Read} (stage_before number r (Ok [])) (Err fault)
    → stage_before number r rest ≡ Err fault
fault-of-more number (Ok other) fault rest e = let never : ◌≡◌ {A = Read} (Ok (other ∷ [])) (Err fault) = e in absurd cc
fault-of-more number (Err rule) fault rest e = e

module _ (texts : List (Bor (List ℕ))) (place : ℕ) (stages : List StageText) (far : ReadTo texts place stages) where
  module _ (d : Bor (List ℕ)) (within : place < length texts) where
    abbrev text : List ℕ
    text = (get_or texts place d).now

    abbrev rest : Read
    rest = stages_from (place + 1 + 1) (spelled (drop (place + 1) texts))

    here : stages_from 1 (spelled texts) ≡ stages_onto stages (stage_before (place + 1) (stage_of text) rest)
    here = far.is ∙ ap (λ (ts : List (Bor (List ℕ))). stages_onto stages (stages_from (place + 1) (spelled ts))) (drop_more texts place d within)

    pub read-more : (stage : StageText) → stages_from (place + 1) (text ∷ []) ≡ Ok (stage ∷ [])
        → ReadTo texts (place + 1) (stages ++ stage ∷ [])
    read-more stage found = record {
      is = here ∙ ap (stages_onto stages) (first-of-more (place + 1) (stage_of text) stage rest found) ∙ onto-one-more stages (place + 1) stage rest;
      count = length-append stages (stage ∷ []) ∙ ap (λ n. n + 1) far.count;
    }

    pub read-fault : (fault : RunFault) → (fault ≡ run.NoMemory) ⊎ (stages_from (place + 1) (text ∷ []) ≡ Err fault)
        → (fault ≡ run.NoMemory) ⊎ (stages_from 1 (spelled texts) ≡ Err fault)
    read-fault fault (inl none) = inl none
    read-fault fault (inr told) = inr (here ∙ ap (stages_onto stages) (fault-of-more (place + 1) (stage_of text) fault rest told))

  pub all-read : length texts ≤ place → stages_from 1 (spelled texts) ≡ Ok stages
  all-read over =
      far.is ∙ ap (λ (ts : List (Bor (List ℕ))). stages_onto stages (stages_from (place + 1) (spelled ts))) (drop_all place texts over)
      ∙ ap (λ (l : List StageText). Ok l) (append-nil stages)
