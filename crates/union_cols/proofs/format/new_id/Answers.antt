use Rattle.std.proofs.Common.{◌≡◌, ◌∙◌, ◌^◌, ◌++◌, ℕ, List, min, take, drop, sym, ap}
use Rattle.std.specs.Prelude.{decimal}
use Rattle.std.specs.Str.Parse.{digits_value}
use Rattle.union_cols.proofs.FormatSteps.{front_id}
use Rattle.union_cols.proofs.format.new_id.Goals as goal

pub returns-clause-split : goal.returns-clause-split
returns-clause-split c =
    let text = c.args.text.now in
    let len = c.in_ok-len.len in
    let value = c.number_value-value.result in
    let is : value ≡ min (digits_value 10 (take len text)) (2 ^ 40) =
    c.number_value-value.ensures ∙ ap (λ (d : List ℕ). min (digits_value 10 d) (2 ^ 40)) c.split_at.ensures.front in
    front_id text (take len text) (drop len text) (digits_value 10 (take len text)) value c.in_ok-len.ensures.found is c.if-value-gt127.false
    ∙ ap (λ (t : List ℕ). decimal value ++ t) (sym c.split_at.ensures.back)
