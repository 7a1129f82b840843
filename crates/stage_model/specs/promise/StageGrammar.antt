-- The grammar of stage texts: a stage's name, `=`, and its arguments, which commas part. A name of a column is any text
-- without a comma; it may be empty.
use Rattle.std.specs.Prelude.{ℕ, ◌+◌, ◌^◌, ◌==◌, ◌&&◌, nat_le, nat_lt, List, [], ◌∷◌, drop, length, take, codes, Option, None, Some, Result, Err}
use Rattle.std.specs.Prelude.{if◌then◌else◌}
use Rattle.std.specs.List.{find, position, slice_split}
use Rattle.std.specs.Option.{ok_or, option_map}
use Rattle.std.specs.Str.{bytes_eq}
use Rattle.std.specs.Str.Parse.{digits_value}
use Rattle.data_types.specs.promise.FieldText.{is_numeral}
use Rattle.stage_model.specs.declared.fault.StageFault.{StageFault}
use Rattle.stage_model.specs.declared.fault.StageFault.TheVariants.{UnknownStage, BadArguments}
use Rattle.stage_model.specs.declared.stage.StageText.{StageText}
use Rattle.stage_model.specs.declared.stage.StageText.TheVariants as texts
use Rattle.stage_model.specs.declared.stage.Test.{Test}
use Rattle.stage_model.specs.declared.stage.Test.TheVariants as tests

abbrev pub equals_sign : ℕ
equals_sign = 61

abbrev pub comma : ℕ
comma = 44

-- what precedes the first such byte of a text, and what follows it
pub record Cut : Type 0 where
  pub front : List ℕ
  pub behind : List ℕ

-- the text, cut at the first such byte, where it has one
abbrev pub cut_at : ℕ → List ℕ → Option Cut
cut_at byte text = option_map (λ place. record { front = take place text; behind = drop (place + 1) text }) (position (λ b. b == byte) text)

-- ---- names

-- the names between the commas, one more than there are of these
abbrev pub names_in : List ℕ → List (List ℕ)
names_in arguments = slice_split (λ b. b == comma) arguments

-- one name
abbrev pub one_name : (List ℕ → StageText) → List (List ℕ) → Option StageText
one_name stage (name ∷ []) = Some (stage name)
one_name stage _ = None

-- a new name, a comma, and one name or more
abbrev pub read_pack : Option Cut → Option StageText
read_pack None = None
read_pack (Some cut) = Some (texts.Pack cut.front (names_in cut.behind))

-- ---- the window of a slice

-- 1 to 19 digits of a number below 2^63
abbrev pub window_number : List ℕ → Option ℕ
window_number digits =
    if is_numeral digits && nat_le (length digits) 19 && nat_lt (digits_value 10 digits) (2 ^ 63) then Some (digits_value 10 digits) else None

abbrev pub slice_if : Option ℕ → Option ℕ → Option StageText
slice_if (Some off) (Some len) = Some (texts.Slice off len)
slice_if _ _ = None

-- two numbers and a comma between them
abbrev pub read_slice : Option Cut → Option StageText
read_slice None = None
read_slice (Some cut) = slice_if (window_number cut.front) (window_number cut.behind)

-- ---- the test of a filter

pub record TestWord : Type 0 where
  pub word : List ℕ
  pub test : Test

abbrev pub test_word : List ℕ → Test → TestWord
test_word word test = record { word = word; test = test }

-- the tests without a constant, and those that a constant follows
abbrev pub lone_tests : List TestWord
lone_tests = test_word (codes "null") tests.Null ∷ test_word (codes "valid") tests.Valid ∷ []

abbrev pub comparisons : List TestWord
comparisons =
    test_word (codes "eq") tests.Eq ∷
    test_word (codes "ne") tests.Ne ∷
    test_word (codes "lt") tests.Lt ∷
    test_word (codes "le") tests.Le ∷
    test_word (codes "gt") tests.Gt ∷
    test_word (codes "ge") tests.Ge ∷
    []

abbrev pub test_named : List TestWord → List ℕ → Option Test
test_named words word = option_map (λ w. w.test) (find (λ w. bytes_eq w.word word) words)

-- a comparison, a comma, and any text, which is the constant
abbrev pub compare_with : List ℕ → Option Cut → Option StageText
compare_with name None = None
compare_with name (Some cut) = option_map (λ test. texts.Filter name test cut.behind) (test_named comparisons cut.front)

-- a test alone, or a comparison
abbrev pub test_if : Option Test → List ℕ → List ℕ → Option StageText
test_if (Some test) name rest = Some (texts.Filter name test [])
test_if None name rest = compare_with name (cut_at comma rest)

-- a name, a comma, and a test
abbrev pub read_filter : Option Cut → Option StageText
read_filter None = None
read_filter (Some cut) = test_if (test_named lone_tests cut.behind) cut.front cut.behind

-- ---- stages

-- a stage's name, and the stage that its arguments spell
pub record StageWord : Type 0 where
  pub word : List ℕ
  pub read : List ℕ → Option StageText

abbrev pub stage_word : List ℕ → (List ℕ → Option StageText) → StageWord
stage_word word read = record { word = word; read = read }

-- the stages
abbrev pub stage_words : List StageWord
stage_words =
    stage_word (codes "select") (λ arguments. Some (texts.Select (names_in arguments))) ∷
    stage_word (codes "drop") (λ arguments. Some (texts.Drop (names_in arguments))) ∷
    stage_word (codes "slice") (λ arguments. read_slice (cut_at comma arguments)) ∷
    stage_word (codes "filter") (λ arguments. read_filter (cut_at comma arguments)) ∷
    stage_word (codes "pack") (λ arguments. read_pack (cut_at comma arguments)) ∷
    stage_word (codes "unpack") (λ arguments. one_name (λ name. texts.Unpack name) (names_in arguments)) ∷
    stage_word (codes "dict") (λ arguments. one_name (λ name. texts.Dict name) (names_in arguments)) ∷
    stage_word (codes "plain") (λ arguments. one_name (λ name. texts.Plain name) (names_in arguments)) ∷
    stage_word (codes "totals") (λ arguments. Some (texts.Totals (names_in arguments))) ∷
    []

-- the stage of a word and of arguments, which are there where the text has an `=`
abbrev pub read_by : Option StageWord → Option (List ℕ) → Result StageText StageFault
read_by None arguments = Err UnknownStage
read_by (Some word) None = Err BadArguments
read_by (Some word) (Some arguments) = ok_or (word.read arguments) BadArguments

-- the stage of a text that is cut at its first `=`, or has none: the name is what precedes it, or the whole text
abbrev pub stage_cut : List StageWord → List ℕ → Option Cut → Result StageText StageFault
stage_cut words text None = read_by (find (λ w. bytes_eq w.word text) words) None
stage_cut words text (Some cut) = read_by (find (λ w. bytes_eq w.word cut.front) words) (Some cut.behind)

-- the stage that a text spells, or its fault
abbrev pub stage_of : List ℕ → Result StageText StageFault
stage_of text = stage_cut stage_words text (cut_at equals_sign text)
