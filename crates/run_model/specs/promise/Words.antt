-- What the words of the command line mean: the matches that `clap` promises for a simple command and the rules on them, or a refusal.
use Rattle.std.specs.Prelude.{◌&&◌, ◌||◌, ℕ, nat_lt, Bool, true, false, List, [], ◌∷◌, length, map, Option, None, Some}
use Rattle.std.specs.Prelude.{option_map, Result, Ok, Err, if◌then◌else◌, codes, String, string_bytes}
use Rattle.std.specs.Option.{is_some, option_and_then, option_map_or, unwrap_or}
use Rattle.std.specs.Str.{bytes_eq}
use Rattle.std.specs.declared.alloc.Global.{Global}
use Rattle.clap.specs.Words.{App, Row, Rule, Text, all_of, first_of, matches_of, new_app, new_rule, takes, with_rule}
use Rattle.clap.specs.Simple.{on_top}
use Rattle.clap.specs.declared.builder.action.ArgAction.TheVariants.{Append, SetTrue}
use Rattle.fan_out.specs.promise.Counts.{most_workers}
use Rattle.stage_plan.specs.promise.PlanWords.{most_stages}
use Rattle.tree_check.specs.promise.Numbers.{number_between}
use Rattle.run_model.specs.declared.words.WordsFault.{WordsFault}
use Rattle.run_model.specs.declared.words.WordsFault.TheVariants.{Refused, TooManyStages, UsedWithCheck, UsedWithSelftest}

-- ---- the command

-- an option that takes a text, once
abbrev pub text_rule : Text → Rule
text_rule name = record (new_rule name) { long = Some name }

-- an option that takes nothing, once
abbrev pub flag_rule : Text → Rule
flag_rule name = record (text_rule name) { action = Some SetTrue }

abbrev pub with_rules : App → List Rule → App
with_rules command [] = command
with_rules command (rule ∷ rules) = with_rules (with_rule command rule) rules

-- the words are those after the program's name, and there is no help flag; words that are no options are stages, as many as there are
abbrev pub arrowpipe : App
arrowpipe =
    with_rules (on_top (λ s. record s { no_binary_name = true; disable_help_flag = true }) (new_app (codes "arrowpipe")))
    (text_rule (codes "schema") ∷
    text_rule (codes "batch") ∷
    text_rule (codes "workers") ∷
    flag_rule (codes "audit") ∷
    flag_rule (codes "check") ∷
    text_rule (codes "selftest") ∷
    text_rule (codes "null") ∷
    text_rule (codes "ahead") ∷
    record (new_rule (codes "stage")) { action = Some Append } ∷
    [])

-- ---- what is asked for

pub record Options : Type 0 where
  -- the text of `--schema`
  pub schema : Option Text
  -- how many records a chunk has at most
  pub batch : ℕ
  -- how many workers share the rows of a chunk
  pub workers : ℕ
  pub audit : Bool
  -- a tree is to be checked, and no table is read
  pub check : Bool
  -- how many rows are made in place of an input, where that is asked for
  pub selftest : Option ℕ
  -- the text of `--null`
  pub null : Option Text
  -- how many batches a round reads in a thread ahead of the stages, where that is asked for
  pub ahead : Option ℕ
  -- the texts of the stages, in order
  pub stages : List Text

abbrev pub default_batch : ℕ
default_batch = 1024

abbrev pub most_batch : ℕ
most_batch = 1000000

abbrev pub default_workers : ℕ
default_workers = 1

abbrev pub most_rows : ℕ
most_rows = 1000000

abbrev pub most_ahead : ℕ
most_ahead = 64

-- the number of an option, from 1 to the most, where its text is one; the usual one where the option isn't given
abbrev pub number_if : ℕ → ℕ → Option Text → Option ℕ
number_if usual most None = Some usual
number_if usual most (Some text) = number_between 1 most text

-- the number of an option, from 1 to the most, where its text is one; none where the option isn't given
abbrev pub choice_if : ℕ → Option Text → Option (Option ℕ)
choice_if most None = Some None
choice_if most (Some text) = option_map (λ n. Some n) (number_between 1 most text)

-- a stage or a schema is asked for
abbrev pub asks_of_table : Options → Bool
asks_of_table options = is_some options.schema || nat_lt 0 (length options.stages)

-- The rules on what is beside the stages, in the order in which they are tried: there are no more stages than may be, a tree is checked
-- without a stage and without a schema, and rows are made without these and without a check. Refused options meet none.
abbrev pub ruled : Option Options → Result Options WordsFault
ruled None = Err Refused
ruled (Some options) =
    if nat_lt most_stages (length options.stages) then Err TooManyStages
    else if options.check && asks_of_table options then Err UsedWithCheck
    else if is_some options.selftest && (options.check || asks_of_table options) then Err UsedWithSelftest
    else Ok options

-- whether a flag is given
abbrev pub flag_in : Text → List Row → Bool
flag_in id rows = option_map_or (λ text. bytes_eq text (codes "true")) (first_of id rows) false

-- what matches ask for, where each of the four numbers is one; without `--selftest` no rows are made, and without `--ahead` no thread
-- reads ahead
abbrev pub options_in : List Row → Option Options
options_in rows =
    option_and_then (λ batch. option_and_then (λ workers. option_and_then (λ selftest. option_map (λ ahead. record {
      schema = first_of (codes "schema") rows;
      batch = batch;
      workers = workers;
      audit = flag_in (codes "audit") rows;
      check = flag_in (codes "check") rows;
      selftest = selftest;
      null = first_of (codes "null") rows;
      ahead = ahead;
      stages = unwrap_or (all_of (codes "stage") rows) [];
    })
    (choice_if most_ahead (first_of (codes "ahead") rows)))
    (choice_if most_rows (first_of (codes "selftest") rows)))
    (number_if default_workers most_workers (first_of (codes "workers") rows)))
    (number_if default_batch most_batch (first_of (codes "batch") rows))

-- ---- the words

-- what the matches that clap promises ask for, where it takes the words and each number is one
unfoldable pub taken_of : List Text → Option Options
taken_of words = if takes arrowpipe words then options_in (matches_of arrowpipe words) else None

-- what the words mean: a number that is none is refused before stages are counted
abbrev pub words_of : List Text → Result Options WordsFault
words_of words = ruled (taken_of words)

-- whether the audit is asked for: refused words alone can't ask for it
abbrev pub audit_of : List Text → Bool
audit_of words = option_map_or (λ o. o.audit) (taken_of words) false

-- how many rows are made in place of an input, where words that are taken ask for that
abbrev pub made_by : Result Options WordsFault → Option ℕ
made_by (Ok options) = options.selftest
made_by (Err fault) = None

abbrev pub made_of : List Text → Option ℕ
made_of words = made_by (words_of words)

-- ---- the program's values

-- the texts of the words
abbrev pub texts_of : List (String Global) → List Text
texts_of = map (λ s. string_bytes s)
