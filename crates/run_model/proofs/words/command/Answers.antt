use Rattle.std.proofs.Common.{◌∙◌, ap₂}
use Rattle.clap.specs.Words.{with_rule}
use Rattle.run_model.proofs.words.command.Goals as goal

pub returns : goal.returns
returns c =
    let schema = c.in_ok-arg.ensures.shape c.text_option.ensures.local ∙ ap₂ with_rule c.bare_command.ensures c.text_option.ensures.rule in
    let batch = c.in_ok-arg-2.ensures.shape c.text_option-2.ensures.local ∙ ap₂ with_rule schema c.text_option-2.ensures.rule in
    let workers = c.in_ok-arg-3.ensures.shape c.text_option-3.ensures.local ∙ ap₂ with_rule batch c.text_option-3.ensures.rule in
    let audit = c.in_ok-arg-4.ensures.shape c.flag_option.ensures.local ∙ ap₂ with_rule workers c.flag_option.ensures.rule in
    let check = c.in_ok-arg-5.ensures.shape c.flag_option-2.ensures.local ∙ ap₂ with_rule audit c.flag_option-2.ensures.rule in
    let selftest = c.in_ok-arg-6.ensures.shape c.text_option-4.ensures.local ∙ ap₂ with_rule check c.text_option-4.ensures.rule in
    let null = c.in_ok-arg-7.ensures.shape c.text_option-5.ensures.local ∙ ap₂ with_rule selftest c.text_option-5.ensures.rule in
    let ahead = c.in_ok-arg-8.ensures.shape c.text_option-6.ensures.local ∙ ap₂ with_rule null c.text_option-6.ensures.rule in
    c.in_ok-command.ensures.shape c.lone_words.ensures.local ∙ ap₂ with_rule ahead c.lone_words.ensures.rule
