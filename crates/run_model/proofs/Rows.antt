-- What the getters' answers are in the rows of the matches.
use Rattle.std.proofs.Common.{◌≡◌, ◌∙◌, ap, sym, subst, ℕ, false, List, [], Option, Some, None, option_map, map, codes, Result, Ok, Err, IfOk}
use Rattle.std.specs.Option.{option_and_then, unwrap_or}
use Rattle.std.specs.Borrow.{Bor}
use Rattle.clap.specs.Matches.{matched_of, raw_values}
use Rattle.clap.specs.Words.{Row, Text, first_of, first_value, rows_of}
use Rattle.clap.specs.declared.parser.matches.Found.{Found}
use Rattle.clap.proofs.WalkLemmas.{first_value-rows, raw_values-rows}
use Rattle.run_model.specs.declared.words.WordsFault.TheVariants.{Refused}
use Rattle.run_model.specs.declared.words.WordsError.{WordsError}
use Rattle.run_model.specs.declared.words.WordsError.TheVariants as error
use Rattle.run_model.specs.promise.Words.{Options, choice_if, default_batch, default_workers, flag_in, most_ahead, most_batch, most_rows}
use Rattle.run_model.specs.Words.{Explains, asks_audit, texts_in}
use Rattle.run_model.specs.promise.Words.{number_if, options_in, ruled}
use Rattle.fan_out.specs.promise.Counts.{most_workers}

-- the text that `get_str` gave
pub given_text : (f : Found) (id : Text) (o : Option (Bor Text)) → option_map (λ s. s.now) o ≡ first_value f id
    → option_map (λ s. s.now) o ≡ first_of id (rows_of f)
given_text f id o given = given ∙ first_value-rows f id

abbrev pub texts_behind : List (Bor Text) → List Text
texts_behind = map (λ s. s.now)

-- the texts that `get_strs` gave
abbrev GivesTexts : Found → Text → Option (Bor (List (Bor Text))) → Type 0
GivesTexts f id o = option_map (λ s. texts_behind s.now) o ≡ option_map raw_values (matched_of f id)

pub some_texts : (f : Found) (id : Text) (o : Option (Bor (List (Bor Text)))) (texts : Bor (List (Bor Text))) → o ≡ Some texts → GivesTexts f id o
    → texts_behind texts.now ≡ texts_in id (rows_of f)
some_texts f id o texts is given =
    ap (λ (x : Option (List Text)). unwrap_or x []) (ap (option_map (λ s. texts_behind s.now)) (sym is) ∙ given ∙ raw_values-rows f id)

pub no_texts : (f : Found) (id : Text) (o : Option (Bor (List (Bor Text)))) → o ≡ None → GivesTexts f id o → [] ≡ texts_in id (rows_of f)
no_texts f id o is given =
    ap (λ (x : Option (List Text)). unwrap_or x []) (ap (option_map (λ s. texts_behind s.now)) (sym is) ∙ given ∙ raw_values-rows f id)

-- a copy of texts has their texts
pub copied : {V E : Type 0} (items : V → List (Bor Text)) (r : Result V E) (xs : List (Bor Text)) (ys : List Text) → IfOk r (λ v. items v ≡ xs)
    → texts_behind xs ≡ ys → IfOk r (λ v. texts_behind (items v) ≡ ys)
copied items (Ok v) xs ys is e = ap texts_behind is ∙ e
copied items (Err x) xs ys is e = tt

-- ---- what the rows ask for

-- the number of an option, by the text that `get_str` gave
pub number_is : (usual most : ℕ) (name : Text) (f : Found) (o : Option (Bor Text)) (result asked : Option ℕ)
    → option_map (λ s. s.now) o ≡ first_value f name → result ≡ number_if usual most (option_map (λ s. s.now) o) → result ≡ asked
    → number_if usual most (first_of name (rows_of f)) ≡ asked
number_is usual most name f o result asked given read is = ap (number_if usual most) (sym (given_text f name o given)) ∙ sym read ∙ is

-- the number of an option that has no usual one, by the text that `get_str` gave
pub choice_is : (most : ℕ) (name : Text) (f : Found) (o : Option (Bor Text)) (result asked : Option (Option ℕ))
    → option_map (λ s. s.now) o ≡ first_value f name → result ≡ choice_if most (option_map (λ s. s.now) o) → result ≡ asked
    → choice_if most (first_of name (rows_of f)) ≡ asked
choice_is most name f o result asked given read is = ap (choice_if most) (sym (given_text f name o given)) ∙ sym read ∙ is

-- what rows ask for with the four numbers, where each is one
abbrev with_numbers : List Row → Option ℕ → Option ℕ → Option (Option ℕ) → Option (Option ℕ) → Option Options
with_numbers rows batches many made rounds =
    option_and_then (λ batch. option_and_then (λ workers. option_and_then (λ selftest. option_map (λ ahead. record {
      schema = first_of (codes "schema") rows;
      batch = batch;
      workers = workers;
      audit = flag_in (codes "audit") rows;
      check = flag_in (codes "check") rows;
      selftest = selftest;
      null = first_of (codes "null") rows;
      ahead = ahead;
      stages = texts_in (codes "stage") rows;
    })
    rounds) made) many) batches

module _ (rows : List Row) where
  abbrev pub batch_asked : Option ℕ
  batch_asked = number_if default_batch most_batch (first_of (codes "batch") rows)

  abbrev pub workers_asked : Option ℕ
  workers_asked = number_if default_workers most_workers (first_of (codes "workers") rows)

  abbrev pub rows_asked : Option (Option ℕ)
  rows_asked = choice_if most_rows (first_of (codes "selftest") rows)

  abbrev pub ahead_asked : Option (Option ℕ)
  ahead_asked = choice_if most_ahead (first_of (codes "ahead") rows)

  -- options with these numbers
  abbrev options-read : ℕ → ℕ → Option ℕ → Option ℕ → Options
  options-read batch workers selftest ahead = record {
    schema = first_of (codes "schema") rows;
    batch = batch;
    workers = workers;
    audit = flag_in (codes "audit") rows;
    check = flag_in (codes "check") rows;
    selftest = selftest;
    null = first_of (codes "null") rows;
    ahead = ahead;
    stages = texts_in (codes "stage") rows;
  }

  pub no_batch : batch_asked ≡ None → options_in rows ≡ None
  no_batch none = ap (λ b. with_numbers rows b workers_asked rows_asked ahead_asked) none

  module _ (batch : ℕ) (size : batch_asked ≡ Some batch) where
    pub no_workers : workers_asked ≡ None → options_in rows ≡ None
    no_workers none =
        ap (λ b. with_numbers rows b workers_asked rows_asked ahead_asked) size
        ∙ ap (λ w. with_numbers rows (Some batch) w rows_asked ahead_asked) none

    module _ (workers : ℕ) (count : workers_asked ≡ Some workers) where
      -- what is left to the third number
      two : options_in rows ≡ with_numbers rows (Some batch) (Some workers) rows_asked ahead_asked
      two =
          ap (λ b. with_numbers rows b workers_asked rows_asked ahead_asked) size
          ∙ ap (λ w. with_numbers rows (Some batch) w rows_asked ahead_asked) count

      pub no_rows : rows_asked ≡ None → options_in rows ≡ None
      no_rows none = two ∙ ap (λ r. with_numbers rows (Some batch) (Some workers) r ahead_asked) none

      module _ (selftest : Option ℕ) (made : rows_asked ≡ Some selftest) where
        -- what is left to the fourth number
        three : options_in rows ≡ with_numbers rows (Some batch) (Some workers) (Some selftest) ahead_asked
        three = two ∙ ap (λ r. with_numbers rows (Some batch) (Some workers) r ahead_asked) made

        pub no_ahead : ahead_asked ≡ None → options_in rows ≡ None
        no_ahead none = three ∙ ap (with_numbers rows (Some batch) (Some workers) (Some selftest)) none

        -- options whose fields are those of the rows
        pub options_are : (ahead : Option ℕ) → ahead_asked ≡ Some ahead → (o : Options) → o.schema ≡ first_of (codes "schema") rows
            → o.batch ≡ batch → o.workers ≡ workers → o.audit ≡ flag_in (codes "audit") rows → o.check ≡ flag_in (codes "check") rows
            → o.selftest ≡ selftest → o.null ≡ first_of (codes "null") rows → o.ahead ≡ ahead → o.stages ≡ texts_in (codes "stage") rows
            → options_in rows ≡ Some o
        options_are ahead rounds o schema batches many audit check rows_same null ahead_same stages =
            let same : ◌≡◌ {A = Options} o (options-read batch workers selftest ahead) =
            λ i. record {
              schema = schema i;
              batch = batches i;
              workers = many i;
              audit = audit i;
              check = check i;
              selftest = rows_same i;
              null = null i;
              ahead = ahead_same i;
              stages = stages i;
            } in
            three ∙ ap (with_numbers rows (Some batch) (Some workers) (Some selftest)) rounds ∙ ap (λ (x : Options). Some x) (sym same)

-- without options the words are refused, and ask for no audit
pub refused-without : (taken : Option Options) (x : WordsError) → x ≡ error.Words Refused false → taken ≡ None → Explains taken x
refused-without taken x is none = subst (Explains taken) (sym is) (ap ruled none, sym (ap asks_audit none))
