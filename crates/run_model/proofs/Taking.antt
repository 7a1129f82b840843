-- Words without a fault are words that clap takes.
use Rattle.std.proofs.Common.{◌≡◌, ◌∙◌, ◌&&◌, ◌||◌, ◌==◌, ℕ, zero, suc, Bool, true, false, not, cond, List, [], ◌∷◌, length, drop, Option, Some, None, is_some}
use Rattle.std.proofs.Common.{sym, refl, arith, codes}
use Rattle.std.specs.Prelude.{nat_le, nat_lt, encode_utf8, slice_get}
use Rattle.std.specs.Option.{option_map_or}
use Rattle.std.specs.Str.{bytes_eq, chars}
use Rattle.std.proofs.lemmas.Bool.{eqb-true, le-leb, ltb-false}
use Rattle.clap.specs.Lexer.{long_of, short_of}
use Rattle.clap.specs.Facts.{unwrap_or_range}
use Rattle.clap.specs.Walk.{Held, Names, Row, Rule, Step, Text, Waiting, Walk, action_of, arg_by_id, arg_by_index, arg_by_long, arg_by_short, attached_value}
use Rattle.clap.specs.Walk.{has_row, is_pending, most_values, next, reacted, settled, subcommand, subcommand_met, takes_several, takes_values, trailing, value}
use Rattle.clap.specs.Walk.{values_or_missing, walked, word_met}
use Rattle.clap.specs.Simple.{Shape}
use Rattle.clap.specs.Kinds.{Kinds, or_else, range_kinds}
use Rattle.clap.specs.Takes.{action_passes, bundle_passes, bundle_step_passes, flag_word_passes, flags_pass, long_passes, option_passes, other_passes}
use Rattle.clap.specs.Takes.{positional_passes, react_passes, set_passes, settle_passes, short_passes, step_passes, turn_passes, use_passes, values_pass}
use Rattle.clap.specs.Takes.{walk_passes, word_passes}
use Rattle.clap.specs.Faults.{action_fault, bundle_fault, bundle_step_fault, flag_word_fault, flags_fault, long_fault, option_fault, other_fault}
use Rattle.clap.specs.Faults.{positional_fault, react_fault, set_fault, settle_fault, short_fault, step_fault, stray_fault, turn_fault, use_fault, values_fault}
use Rattle.clap.specs.Faults.{walk_fault, word_fault}
use Rattle.clap.specs.Walk.{nothing_held, walk, walk_from}
use Rattle.clap.specs.Simple.{built}
use Rattle.clap.specs.Takes.{level_passes, takes}
use Rattle.clap.specs.Faults.{fault_of, level_fault}
use Rattle.clap.proofs.FaultLemmas.{leaf_fault}
use Rattle.clap.proofs.TakesLemmas.{leaf_takes}
use Rattle.run_model.specs.promise.Words.{arrowpipe}
use Rattle.clap.specs.declared.builder.action.ArgAction.{ArgAction}
use Rattle.clap.specs.declared.builder.action.ArgAction.TheVariants as action
use Rattle.clap.specs.declared.error.kind.ErrorKind.{ErrorKind}
use Rattle.clap.specs.declared.error.kind.ErrorKind.TheVariants as kind

-- ---- checks that find nothing, and the values of an argument
-- no kind comes of either step
split : (a b : Kinds) → or_else a b ≡ [] → (a ≡ []) × (b ≡ [])
split [] b e = (refl, e)
split (k ∷ ks) b e = cc

both : (a b : Bool) → a ≡ true → b ≡ true → (a && b) ≡ true
both a b p q = rw (p, q) refl

passed : (b : Bool) (k : ErrorKind) → cond b [] (k ∷ []) ≡ [] → b ≡ true
passed true k e = refl
passed false k e = cc

-- past a subcommand nothing is asked
unless_stopped : (o : Option (Text × List Text)) (a b : Kinds) (x y : Bool) → (a ≡ [] → x ≡ true) → (b ≡ [] → y ≡ true)
    → cond (is_some o) [] (or_else a b) ≡ [] → (is_some o || (x && y)) ≡ true
unless_stopped (Some p) a b x y f g e = refl
unless_stopped None a b x y f g e =
    let p = split a b e in
    both x y (f p.0) (g p.1)

values_passed : (a : Rule) (vs : List Text) → values_fault a vs ≡ [] → values_pass a vs ≡ true
values_passed a [] e = refl
values_passed a (v ∷ vs) e =
    let p = split _ _ e in
    both _ _ (passed _ _ p.0) (values_passed a vs p.1)

in_range : (least most n : ℕ) → range_kinds least most n ≡ [] → (nat_le least n ≡ true) × (nat_le n most ≡ true)
in_range least most n e = go (nat_lt 0 least && n == 0) (least == most) (least == n) (nat_lt n least) (nat_lt most n) refl refl refl refl e
  where
    go : (none one same few many : Bool) → (least == most) ≡ one → (least == n) ≡ same → nat_lt n least ≡ few → nat_lt most n ≡ many
        → cond none (kind.InvalidValue ∷ [])
        (cond one (cond same [] (kind.WrongNumberOfValues ∷ [])) (cond few (kind.TooFewValues ∷ []) (cond many (kind.TooManyValues ∷ []) []))) ≡ []
        → (nat_le least n ≡ true) × (nat_le n most ≡ true)
    go true one same few many o s f m e = cc
    go false true true few many o s f m e =
        let is = eqb-true least most o in
        let at = eqb-true least n s in
        (le-leb least n (omega (arith, at)), le-leb n most (omega (arith, is, at)))
    go false true false few many o s f m e = cc
    go false false same true many o s f m e = cc
    go false false same false true o s f m e = cc
    go false false same false false o s f m e =
        (le-leb least n (ltb-false n least f), le-leb n most (ltb-false most n m))

once : (has again : Bool) (k : ErrorKind) → cond (has && not again) (k ∷ []) [] ≡ [] → (not has || again) ≡ true
once true true k e = refl
once true false k e = cc
once false again k e = refl

set_passed : (again : Bool) (a : Rule) (vs : List Text) (rows : List Row) → set_fault again a vs rows ≡ [] → set_passes again a vs rows ≡ true
set_passed again a vs rows e =
    let p = split _ _ e in
    both _ _ (once (has_row a.id rows) again _ p.0) (values_passed a vs p.1)

action_passed : (x : ArgAction) (again : Bool) (a : Rule) (vs : List Text) (rows : List Row) → action_fault x again a vs rows ≡ []
    → action_passes x again a vs rows ≡ true
action_passed action.Set again a vs rows e = set_passed again a vs rows e
action_passed action.SetTrue again a vs rows e = set_passed again a vs rows e
action_passed action.SetFalse again a vs rows e = set_passed again a vs rows e
action_passed action.Append again a vs rows e = values_passed a vs e
action_passed action.Count again a [] rows e = passed _ _ e
action_passed action.Count again a (v ∷ vs) rows e = values_passed a (v ∷ vs) e
action_passed action.Help again a vs rows e = cc
action_passed action.HelpShort again a vs rows e = cc
action_passed action.HelpLong again a vs rows e = cc
action_passed action.Version again a vs rows e = cc

use_passed : (again : Bool) (a : Rule) (vs : List Text) (rows : List Row) → use_fault again a vs rows ≡ [] → use_passes again a vs rows ≡ true
use_passed again a vs rows e =
    let p = split _ _ e in
    let fits = in_range (unwrap_or_range a.range).start_inclusive (most_values a) (length vs) p.0 in
    both _ _ fits.0 (both _ _ fits.1 (action_passed (action_of a) again a (values_or_missing a vs) rows p.1))

-- ---- options, flags and positional arguments
module _ (c : List Rule) (again : Bool) where
  pub settle_passed : (h : Held) → settle_fault c again h ≡ [] → settle_passes c again h ≡ true
  settle_passed h e = go h.pending e
    where
      of_rule : (o : Option Rule) (vs : List Text) → option_map_or (λ a. use_fault again a vs h.rows) o [] ≡ []
          → option_map_or (λ a. use_passes again a vs h.rows) o true ≡ true
      of_rule None vs e = refl
      of_rule (Some a) vs e = use_passed again a vs h.rows e

      go : (o : Option (Text × List Text)) → option_map_or (λ p. option_map_or (λ a. use_fault again a p.1 h.rows) (arg_by_id c p.0) []) o [] ≡ []
          → option_map_or (λ p. option_map_or (λ a. use_passes again a p.1 h.rows) (arg_by_id c p.0) true) o true ≡ true
      go None e = refl
      go (Some p) e = of_rule (arg_by_id c p.0) p.1 e

  react_passed : (a : Rule) (vs : List Text) (h : Held) → react_fault c again a vs h ≡ [] → react_passes c again a vs h ≡ true
  react_passed a vs h e =
      let p = split _ _ e in
      both _ _ (settle_passed h p.0) (use_passed again a vs (settled c h).rows p.1)

  option_passed : (a : Rule) (v : Option Text) (h : Held) → option_fault c again a v h ≡ [] → option_passes c again a v h ≡ true
  option_passed a None h e = settle_passed h e
  option_passed a (Some v) h e = react_passed a (v ∷ []) h e

  long_passed : (o : Option Rule) (v : Option Text) (h : Held) → long_fault c again o v h ≡ [] → long_passes c again o v h ≡ true
  long_passed None v h e = cc
  long_passed (Some a) v h e = go (takes_values a) v e
    where
      go : (b : Bool) (v : Option Text) → cond b (option_fault c again a v h) (cond (is_some v) (kind.TooManyValues ∷ []) (react_fault c again a [] h)) ≡ []
          → cond b (option_passes c again a v h) (not (is_some v) && react_passes c again a [] h) ≡ true
      go true v e = option_passed a v h e
      go false None e = react_passed a [] h e
      go false (Some v) e = cc

  short_passed : (o : Option Rule) (rest : Text) (h : Held) (more : Held → Kinds) (then : Held → Bool) → ((g : Held) → more g ≡ [] → then g ≡ true)
      → short_fault c again o rest h more ≡ [] → short_passes c again o rest h then ≡ true
  short_passed None rest h more then on e = cc
  short_passed (Some a) rest h more then on e = go (takes_values a) e
    where
      go : (b : Bool) → cond b (option_fault c again a (attached_value rest) h) (or_else (react_fault c again a [] h) (more (reacted c a [] h))) ≡ []
          → cond b (option_passes c again a (attached_value rest) h) (react_passes c again a [] h && then (reacted c a [] h)) ≡ true
      go true e = option_passed a (attached_value rest) h e
      go false e =
          let p = split _ _ e in
          both _ _ (react_passed a [] h p.0) (on _ p.1)

  flags_passed : (k : ℕ) (flags : Text) (skip : ℕ) (h : Held) → flags_fault c again k flags skip h ≡ [] → flags_pass c again k flags skip h ≡ true
  unfolding flags_fault flags_pass
  flags_passed zero flags skip h e = refl
  flags_passed (suc k) flags skip h e = go (flags_passed k) (slice_get (chars flags) 0) skip e
    where
      go : ((flags : Text) (skip : ℕ) (h : Held) → flags_fault c again k flags skip h ≡ [] → flags_pass c again k flags skip h ≡ true)
          → (o : Option ℕ) (skip : ℕ) → bundle_step_fault c again o flags skip h (flags_fault c again k) ≡ []
          → bundle_step_passes c again o flags skip h (flags_pass c again k) ≡ true
      go rec None skip e = refl
      go rec (Some x) zero e =
          let rest = drop (length (encode_utf8 x)) flags in
          short_passed (arg_by_short c x) rest h (flags_fault c again k rest 0) (flags_pass c again k rest 0) (rec rest 0) e
      go rec (Some x) (suc skip) e = rec (drop (length (encode_utf8 x)) flags) skip h e

  flag_word_passed : (o : Option (Text × Option Text)) (word : Text) (h : Held) → flag_word_fault c again o word h ≡ []
      → flag_word_passes c again o word h ≡ true
  flag_word_passed (Some p) word h e = long_passed (arg_by_long c p.0) p.1 h e
  flag_word_passed None word h e = go (short_of word) e
    where
      go : (o : Option Text) → option_map_or (λ flags. bundle_fault c again flags h) o [] ≡ []
          → option_map_or (λ flags. bundle_passes c again flags h) o true ≡ true
      go None e = refl
      go (Some flags) e = flags_passed (length flags) flags h.skip (record h { skip = 0 }) e

  positional_passed : (a : Rule) (h : Held) → positional_fault c again a h ≡ [] → positional_passes c again a h ≡ true
  positional_passed a h e = go (is_pending a h.pending && takes_several a) e
    where
      go : (b : Bool) → cond b [] (settle_fault c again h) ≡ [] → (b || settle_passes c again h) ≡ true
      go true e = refl
      go false e = settle_passed h e

-- ---- words, one after the other
module _ (s : Shape) (names : Names) where
  other_passed : (o : Option Text) (word : Text) (h : Held) → other_fault s o word h ≡ [] → other_passes s o word h ≡ true
  other_passed (Some name) word h e = go (bytes_eq name (codes "help")) s.disable_help_subcommand e
    where
      go : (b d : Bool) → cond (b && not d) (kind.DisplayHelp ∷ kind.InvalidSubcommand ∷ []) [] ≡ [] → (not b || d) ≡ true
      go true true e = refl
      go true false e = cc
      go false d e = refl
  other_passed None word h e = go (bytes_eq word (45 ∷ 45 ∷ [])) e
    where
      go : (b : Bool) → cond b [] (flag_word_fault s.rules s.args_override_self (long_of word) word h) ≡ []
          → (b || flag_word_passes s.rules s.args_override_self (long_of word) word h) ≡ true
      go true e = refl
      go false e = flag_word_passed s.rules s.args_override_self (long_of word) word h e

  word_passed : (is_trailing : Bool) (waiting : Waiting) (word : Text) (h : Held) → word_fault s names is_trailing waiting word h ≡ []
      → word_passes s names is_trailing waiting word h ≡ true
  word_passed true waiting word h e = refl
  word_passed false waiting word h e = other_passed (subcommand_met names waiting word) word h e

  step_passed : (position : ℕ) (h : Held) (step : Step) → step_fault s position h step ≡ [] → step_passes s position h step ≡ true
  step_passed position h value e = go (arg_by_index s.rules position) e
    where
      stray : (leaf : Bool) → cond leaf (kind.UnknownArgument ∷ []) (kind.UnknownArgument ∷ kind.InvalidSubcommand ∷ []) ≡ [] → false ≡ true
      stray true e = cc
      stray false e = cc

      go : (o : Option Rule) → option_map_or (λ a. positional_fault s.rules s.args_override_self a h) o (stray_fault s) ≡ []
          → option_map_or (λ a. positional_passes s.rules s.args_override_self a h) o false ≡ true
      go None e = stray s.is_leaf e
      go (Some a) e = positional_passed s.rules s.args_override_self a h e
  step_passed position h (next waiting) e = refl
  step_passed position h (trailing p) e = refl
  step_passed position h (subcommand name) e = refl

  turn_passed : (w : Walk) (word : Text) → turn_fault s names w word ≡ [] → turn_passes s names w word ≡ true
  turn_passed w word e =
      let met = word_met s.rules names w.is_trailing w.waiting w.position word w.held in
      unless_stopped w.stopped _ _ _ _ (word_passed w.is_trailing w.waiting word w.held) (step_passed w.position met.0 met.1) e

  pub walk_passed : (w : Walk) (words : List Text) → walk_fault s names w words ≡ [] → walk_passes s names w words ≡ true
  unfolding walk_fault walk_passes
  walk_passed w [] e = refl
  walk_passed w (word ∷ rest) e =
      let p = split _ _ e in
      both _ _ (turn_passed w word p.0) (walk_passed (walked s.rules names w word) rest p.1)

-- ---- the command

-- the words without a fault are those that clap takes
pub taken : (words : List Text) → fault_of arrowpipe words ≡ [] → takes arrowpipe words ≡ true
taken words none =
    let s = (built arrowpipe).top in
    let level : level_fault s [] nothing_held words false [] ≡ [] = sym (leaf_fault (built arrowpipe) nothing_held words refl) ∙ none in
    let parts = split _ _ level in
    let settled = split _ _ parts.1 in
    let passes : level_passes s [] nothing_held words false ≡ true =
    both _ _ (walk_passed s [] (walk_from nothing_held) words parts.0)
    (both _ _ (settle_passed s.rules s.args_override_self (walk s.rules [] nothing_held words).held settled.0) refl) in
    leaf_takes (built arrowpipe) nothing_held words refl passes
