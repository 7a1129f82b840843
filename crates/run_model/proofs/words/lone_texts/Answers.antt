use Rattle.std.proofs.Common.{◌∙◌, ap}
use Rattle.clap.specs.Words.{found_of}
use Rattle.run_model.proofs.Rows.{copied, no_texts, some_texts, texts_behind}
use Rattle.run_model.proofs.words.lone_texts.Goals as goal

pub returns-in-Some : goal.returns-in-Some
returns-in-Some c =
    copied (λ v. v.items) c.from_slice.result c.in-Some.texts.now _ c.from_slice.ensures.items
    (some_texts (found_of c.args.matches.now) c.args.id.now c.get_strs.result c.in-Some.texts c.in-Some.is c.get_strs.ensures)

pub returns-in-None : goal.returns-in-None
returns-in-None c =
    ap texts_behind c.new.ensures.items ∙ no_texts (found_of c.args.matches.now) c.args.id.now c.get_strs.result c.in-None.is c.get_strs.ensures
