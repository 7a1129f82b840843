-- What a text is: a stage, or none for a fault.
use Rattle.std.specs.Prelude.{◌≡◌, ℕ, List, Ok, Err, ◌+◌, drop, take, Option}
use Rattle.stage_model.specs.declared.fault.StageFault.{StageFault}
use Rattle.stage_model.specs.declared.stage.StageText.{StageText}
use Rattle.stage_model.specs.promise.StageGrammar.{stage_of, Cut, StageWord}
use Rattle.std.specs.List.{find}
use Rattle.std.specs.Str.{bytes_eq}

-- ---- stages

-- the text is this stage
abbrev pub StageIs : List ℕ → StageText → Type 0
StageIs text stage = stage_of text ≡ Ok stage

-- the text is no stage, for this fault
abbrev pub StageFaultIs : List ℕ → StageFault → Type 0
StageFaultIs text fault = stage_of text ≡ Err fault

-- the text, cut at a place
abbrev pub cut_behind : List ℕ → ℕ → Cut
cut_behind text place = record { front = take place text; behind = drop (place + 1) text }

abbrev pub word_named : List StageWord → List ℕ → Option StageWord
word_named words name = find (λ w. bytes_eq w.word name) words
