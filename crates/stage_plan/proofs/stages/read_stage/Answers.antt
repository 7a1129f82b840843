use Rattle.std.proofs.Common.{rules, ◌≡◌, ◌∙◌, Option, Some, None, Err, List, ℕ, ap, sym, refl}
use Rattle.stage_model.specs.promise.StageGrammar.{StageWord, cut_at, equals_sign, read_by, stage_cut, stage_words}
use Rattle.stage_model.specs.StageGrammar.{word_named}
use Rattle.stage_plan.specs.StageWords.{lone_fault}
use Rattle.stage_plan.proofs.stages.read_stage.Goals as goal

lone : (word : Option StageWord) → read_by word None ≡ Err (lone_fault word)
lone None = refl
lone (Some word) = refl

-- a text without an `=`
pub returns-in_default-clause-fault : goal.returns-in_default-clause-fault
returns-in_default-clause-fault c = λ _.
    let text = c.args.text.now in
    let none : cut_at equals_sign text ≡ None = search rules in
    let fault : c.fault_of_word.result ≡ lone_fault (word_named stage_words text) = search rules in
    ap (stage_cut stage_words text) none ∙ lone (word_named stage_words text) ∙ ap (λ f. Err f) (sym fault)
