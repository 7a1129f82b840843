use Rattle.std.proofs.Common.{◌≡◌, ◌∙◌, pos, to_z, [], ◌∷◌, sym, ap, subst, arith}
use Rattle.std.specs.Int.{w128}
use Rattle.std.proofs.lemmas.Int.{ints}
use Rattle.std.proofs.lemmas.Result.{on_ok_weaker}
use Rattle.col_build.specs.Holding.{Adds}
use Rattle.col_build.specs.Items.{value_of}
use Rattle.data_types.specs.promise.Value.{Value, Whole, Bytes}
use Rattle.stage_model.specs.Dictionary.{has_bytes}
use Rattle.item_keys.specs.Distinct.{Numbers, texts_with}
use Rattle.item_keys.specs.declared.distinct.Distinct.{Distinct}
use Rattle.dict_stage.specs.Texts.{Codes, index_by, texts_after}
use Rattle.dict_stage.proofs.Codes.{codes-new, codes-old, is-false, is-true}
use Rattle.dict_stage.proofs.coder.add_index.Goals as goal
use Rattle.dict_stage.proofs.coder.add_index.Goals.{then-new+in_ok-new_entry-in-Bytes, else-new}

pub returns-after-new-clause-added : goal.returns-after-new-clause-added
returns-after-new-clause-added c =
    let text = c.in-Bytes.text.now in
    let same : to_z w128 c.in_ok-number-in-Bytes.number ≡ pos c.in_ok-number-in-Bytes.number = omega (arith, ints) in
    on_ok_weaker c.add_whole.result
    (λ adds type texts codes.
    subst (λ (v : Value). Adds v c.args.indices.now c.add_whole.new.self)
    (ap Whole same ∙ ap (λ n. Whole (pos n)) (c.in_ok-number-in-Bytes.ensures.number texts codes.numbers)
    ∙ sym (ap (λ i. index_by texts (value_of i)) c.in-Bytes.is)) adds)
    c.add_whole.ensures.added

pub returns-after-new-clause-coded : goal.returns-after-new-clause-coded
returns-after-new-clause-coded c =
    on_ok_weaker c.add_whole.result
    (λ _ type texts codes.
    let text = c.in-Bytes.text.now in
    let coder = c.args.coder.now in
    let found = c.in_ok-number-in-Bytes.ensures in
    subst (λ (v : Value). Codes c.if-new.coder type (texts_after texts (v ∷ []))) (sym (ap value_of c.in-Bytes.is))
    (elim c.if-new.branch [
      | then-new+in_ok-new_entry-in-Bytes w ↦
          codes-new coder c.if-new.coder type texts text codes (is-false (has_bytes texts text) (sym (found.new texts codes.numbers) ∙ w.if-new.true))
          (subst (λ (d : Distinct). Numbers d (texts_with texts text)) (sym (ap (λ d. d.texts) w.coder-is)) (found.texts texts codes.numbers))
          (subst (λ d. Adds (Bytes text) coder.entries d.entries) (sym w.coder-is) w.in_ok-new_entry-in-Bytes.ensures)
      | else-new w ↦
          codes-old coder c.if-new.coder type texts text codes (is-true (has_bytes texts text) (sym (found.new texts codes.numbers) ∙ w.if-new.false))
          (subst (λ (d : Distinct). Numbers d (texts_with texts text)) (sym (ap (λ d. d.texts) w.coder-is)) (found.texts texts codes.numbers)) (ap (λ d. d.entries) w.coder-is)
    ]))
    c.add_whole.ensures.added
