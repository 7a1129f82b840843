-- What clap's promises make of the words.
use Rattle.std.proofs.Common.{◌≡◌, ◌∙◌, ap, sym, subst, refl, Bool, true, false, List, [], Option, None, Some, cond, Result, Ok, Err, IfOk, IfErr}
use Rattle.clap.specs.Words.{App, FailsBy, HasMatchesOf, Text, fault_of, found_of, is_simple, is_simple_and_free, kind_of, matches_of, rows_of, takes}
use Rattle.clap.specs.declared.error.Error.{Error}
use Rattle.clap.specs.declared.error.kind.ErrorKind.TheVariants.{OutOfMemory}
use Rattle.clap.specs.declared.parser.matches.ArgMatches.{ArgMatches}
use Rattle.run_model.specs.promise.Words.{Options, arrowpipe, options_in, ruled, taken_of}
use Rattle.run_model.specs.Words.{ErrorOf, Explains, options_of}
use Rattle.run_model.specs.declared.words.Words.{Words}
use Rattle.run_model.specs.declared.words.WordsFault.{WordsFault}
use Rattle.run_model.specs.declared.words.WordsError.{WordsError}
use Rattle.run_model.specs.declared.words.WordsError.TheVariants as error
use Rattle.run_model.proofs.Taking.{taken}

is_simple_command : is_simple arrowpipe ≡ true
is_simple_command = refl

is_free_command : is_simple_and_free arrowpipe ≡ true
is_free_command = refl

-- matches are those of words that are taken
pub taken_words : (a : App) (ws : List Text) (r : Result ArgMatches Error) (m : ArgMatches) → a ≡ arrowpipe → r ≡ Ok m
    → (is_simple_and_free a ≡ true → FailsBy (fault_of a ws) r) → IfOk r (HasMatchesOf a ws)
    → taken_of ws ≡ options_in (rows_of (found_of m))
unfolding taken_of
taken_words a ws r m is ok fails has =
    let promised : FailsBy (fault_of a ws) (Ok m) = subst (FailsBy (fault_of a ws)) ok (fails (ap is_simple_and_free is ∙ is_free_command)) in
    let none : fault_of arrowpipe ws ≡ [] = sym (ap (λ (x : App). fault_of x ws) is) ∙ promised in
    let matched : HasMatchesOf a ws m = subst (λ (x : Result ArgMatches Error). IfOk x (HasMatchesOf a ws)) ok has in
    let rows : rows_of (found_of m) ≡ matches_of arrowpipe ws = (matched (ap is_simple is ∙ is_simple_command)).0 ∙ ap (λ (x : App). matches_of x ws) is in
    rw (taken ws none, rows) refl

-- an error but out of memory is one of words that are not taken
pub refused_words : (a : App) (ws : List Text) (r : Result ArgMatches Error) (e : Error) (x : WordsError) → a ≡ arrowpipe → r ≡ Err e
    → IfErr r (λ e. takes a ws ≡ true → kind_of e ≡ OutOfMemory) → ErrorOf (kind_of e) x → Explains (taken_of ws) x
unfolding taken_of
refused_words a ws r e x is err passes from =
    go x from (takes arrowpipe ws) (λ takes_words.
    subst (λ (y : Result ArgMatches Error). IfErr y (λ e. takes a ws ≡ true → kind_of e ≡ OutOfMemory)) err passes
    (ap (λ (y : App). takes y ws) is ∙ takes_words))
  where
    go : (x : WordsError) → ErrorOf (kind_of e) x → (b : Bool) → (b ≡ true → kind_of e ≡ OutOfMemory)
        → Explains (cond b (options_in (matches_of arrowpipe ws)) None) x
    go error.NoMemory from b memory = tt
    go (error.Words fault audit) from true memory = absurd (from.0 (memory refl))
    go (error.Words fault audit) from false memory = (ap (λ (f : WordsFault). Err f) (sym from.1), from.2)

-- what the words ask for is what their matches ask for
pub asked_options : (means asked : Option Options) (r : Result Words WordsError) → means ≡ asked → IfOk r (λ w. asked ≡ Some (options_of w))
    → IfOk r (λ w. means ≡ Some (options_of w))
asked_options means asked (Ok w) is e = is ∙ e
asked_options means asked (Err x) is e = tt

pub asked_ruled : (means asked : Option Options) (r : Result Words WordsError) → means ≡ asked → IfOk r (λ w. ruled asked ≡ Ok (options_of w))
    → IfOk r (λ w. ruled means ≡ Ok (options_of w))
asked_ruled means asked (Ok w) is e = ap ruled is ∙ e
asked_ruled means asked (Err x) is e = tt

pub asked_errs : (means asked : Option Options) (r : Result Words WordsError) → means ≡ asked → IfErr r (Explains asked) → IfErr r (Explains means)
asked_errs means asked r is e = subst (λ (m : Option Options). IfErr r (Explains m)) (sym is) e
