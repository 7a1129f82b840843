use Rattle.std.proofs.Common.{◌∙◌, ap, sym, Bool, Option, false, option_map, codes}
use Rattle.std.specs.Option.{option_map_or}
use Rattle.std.specs.Str.{bytes_eq}
use Rattle.clap.specs.Words.{Text, found_of}
use Rattle.run_model.proofs.Rows.{given_text}
use Rattle.run_model.proofs.words.flag.Goals as goal

abbrev is_true : Option Text → Bool
is_true o = option_map_or (λ text. bytes_eq text (codes "true")) o false

pub returns-in-Some : goal.returns-in-Some
returns-in-Some c =
    let given = given_text (found_of c.args.matches.now) c.args.id.now c.get_str.result c.get_str.ensures in
    c.eq.ensures ∙ ap is_true (ap (option_map (λ s. s.now)) (sym c.in-Some.is) ∙ given)

pub returns-in-None : goal.returns-in-None
returns-in-None c =
    let given = given_text (found_of c.args.matches.now) c.args.id.now c.get_str.result c.get_str.ensures in
    ap is_true (ap (option_map (λ s. s.now)) (sym c.in-None.is) ∙ given)
