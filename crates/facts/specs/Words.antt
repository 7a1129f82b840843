-- Options, and words that are many.
use Rattle.std.specs.Prelude.{false, List, [], ◌∷◌, None, codes, replicate}
use Rattle.clap.specs.Words.{Text}
use Rattle.run_model.specs.promise.Words.{Options}

-- the options of no words
abbrev pub plain : Options
plain = record { schema = None; batch = 1024; workers = 1; audit = false; check = false; selftest = None; null = None; ahead = None; stages = [] }

abbrev pub among : List Text
among =
    codes "--null" ∷ codes "NA" ∷ codes "--selftest" ∷ codes "5" ∷ codes "--batch" ∷ codes "7" ∷ codes "--workers" ∷ codes "4" ∷ codes "--audit" ∷ []

abbrev pub sixteen : List Text
sixteen = replicate 16 (codes "a")
