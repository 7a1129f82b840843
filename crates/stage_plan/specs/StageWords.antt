-- What the code's names of stages stand for.
use Rattle.std.specs.Prelude.{ℕ, Bool, false, List, [], ◌∷◌, codes, Option, None, Some}
use Rattle.std.specs.Char.{is_ascii_digit}
use Rattle.stage_model.specs.promise.StageGrammar.{StageWord, comma, cut_at, names_in, one_name, read_filter, read_pack, read_slice, stage_word}
use Rattle.stage_model.specs.declared.fault.StageFault.{StageFault}
use Rattle.stage_model.specs.declared.fault.StageFault.TheVariants.{UnknownStage, BadArguments}
use Rattle.stage_model.specs.declared.stage.StageText.TheVariants as texts
use Rattle.stage_plan.specs.declared.stages.StageName.{StageName}
use Rattle.stage_plan.specs.declared.stages.StageName.TheVariants as names

-- the word of a stage, and what its arguments spell
abbrev pub word_of : StageName → StageWord
word_of names.Select = stage_word (codes "select") (λ arguments. Some (texts.Select (names_in arguments)))
word_of names.Drop = stage_word (codes "drop") (λ arguments. Some (texts.Drop (names_in arguments)))
word_of names.Slice = stage_word (codes "slice") (λ arguments. read_slice (cut_at comma arguments))
word_of names.Filter = stage_word (codes "filter") (λ arguments. read_filter (cut_at comma arguments))
word_of names.Pack = stage_word (codes "pack") (λ arguments. read_pack (cut_at comma arguments))
word_of names.Unpack = stage_word (codes "unpack") (λ arguments. one_name (λ name. texts.Unpack name) (names_in arguments))
word_of names.Dict = stage_word (codes "dict") (λ arguments. one_name (λ name. texts.Dict name) (names_in arguments))
word_of names.Plain = stage_word (codes "plain") (λ arguments. one_name (λ name. texts.Plain name) (names_in arguments))
word_of names.Totals = stage_word (codes "totals") (λ arguments. Some (texts.Totals (names_in arguments)))

-- the fault of a text without an `=`
abbrev pub lone_fault : Option StageWord → StageFault
lone_fault None = UnknownStage
lone_fault (Some word) = BadArguments

abbrev pub starts_with_digit : List ℕ → Bool
starts_with_digit [] = false
starts_with_digit (first ∷ rest) = is_ascii_digit first
