use Rattle.std.proofs.Common.{◌≡◌, ◌∙◌, ◌+◌, ℕ, List, refl, ap, subst, length}
use Rattle.std.specs.Prelude.{set}
use Rattle.std.specs.Vec.{with_item}
use Rattle.item_keys.specs.Distinct.{Numbers}
use Rattle.item_keys.specs.declared.distinct.Distinct.{Distinct}
use Rattle.item_keys.proofs.Found.{few-texts, lent-number}
use Rattle.item_keys.proofs.More.{add-free}
use Rattle.item_keys.proofs.Texts.{number-none, with-new}
use Rattle.item_keys.proofs.distinct.Distinct.add_at.Goals as goal

pub returns-in-Ok-clause-number : goal.returns-in-Ok-clause-number
returns-in-Ok-clause-number c = λ texts holds.
    let new = (c.requires.free texts holds).new in
    lent-number c.args.self.now texts c.len-number.result holds c.len-number.ensures ∙ number-none texts c.args.text.now new

pub returns-in-Ok-clause-texts : goal.returns-in-Ok-clause-texts
returns-in-Ok-clause-texts c = λ texts holds.
    let free = c.requires.free texts holds in
    let d = c.args.self.now in
    let many : c.len-number.result ≡ length texts = lent-number d texts c.len-number.result holds c.len-number.ensures in
    let e : Distinct = record { slots = with_item d.slots c.args.at (c.len-number.result + 1); texts = c.push.new.self; beside = d.beside } in
    subst (λ (ts : List (List ℕ)). Numbers e ts) (with-new texts c.args.text.now free.new)
    (add-free d e texts c.args.text c.args.at holds (few-texts d texts c.requires.few holds) free c.in-Ok.ensures.items
    (ap (λ n. set d.slots.items c.args.at (n + 1)) many) refl)
