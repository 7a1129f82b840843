use Rattle.std.proofs.Common.{◌≡◌, ◌∙◌, ℕ, List, not, refl, sym, ap, subst, length}
use Rattle.item_keys.specs.Distinct.{Numbers}
use Rattle.item_keys.specs.declared.distinct.Distinct.{Distinct}
use Rattle.item_keys.proofs.Found.{few-texts, lent-number, tree-added}
use Rattle.item_keys.proofs.More.{add-full, full-new}
use Rattle.item_keys.proofs.Texts.{number-none, with-new}
use Rattle.item_keys.proofs.distinct.Distinct.add_beside.Goals as goal

pub returns-in-Ok-insert-clause-number : goal.returns-in-Ok-insert-clause-number
returns-in-Ok-insert-clause-number c = λ texts holds.
    let d = c.args.self.now in
    let new = full-new d texts c.args.text holds (c.requires.full texts holds) c.requires.new in
    lent-number d texts c.len-number.result holds c.len-number.ensures ∙ number-none texts c.args.text.now new

pub returns-in-Ok-insert-clause-new : goal.returns-in-Ok-insert-clause-new
returns-in-Ok-insert-clause-new c = λ texts holds.
    sym (ap not (full-new c.args.self.now texts c.args.text holds (c.requires.full texts holds) c.requires.new))

pub returns-in-Ok-insert-clause-texts : goal.returns-in-Ok-insert-clause-texts
returns-in-Ok-insert-clause-texts c = λ texts holds.
    let d = c.args.self.now in
    let full = c.requires.full texts holds in
    let new = full-new d texts c.args.text holds full c.requires.new in
    let many : c.len-number.result ≡ length texts = lent-number d texts c.len-number.result holds c.len-number.ensures in
    let e : Distinct = record { slots = d.slots; texts = c.push.new.self; beside = c.insert.new.self } in
    subst (λ (ts : List (List ℕ)). Numbers e ts) (with-new texts c.args.text.now new)
    (add-full d e texts c.args.text holds (few-texts d texts c.requires.few holds) full new c.in-Ok.ensures.items refl
    (tree-added d.beside c.insert.new.self c.args.second c.args.text c.len-number.result (length texts) c.requires.second many
    c.in-Ok-insert.ensures.updates))
