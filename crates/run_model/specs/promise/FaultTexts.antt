-- The texts of faults.
use Rattle.std.specs.Prelude.{ℕ, List, codes}
use Rattle.run_model.specs.declared.words.WordsFault.{WordsFault}
use Rattle.run_model.specs.declared.words.WordsFault.TheVariants.{Refused, TooManyStages, UsedWithCheck, UsedWithSelftest}

abbrev pub fault_text : WordsFault → List ℕ
fault_text Refused = codes "words refused"
fault_text TooManyStages = codes "words: more than 16 stages"
fault_text UsedWithCheck = codes "words: --check takes no stage and no --schema"
fault_text UsedWithSelftest = codes "words: --selftest takes no stage, no --schema and no --check"
