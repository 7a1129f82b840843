use Rattle.std.proofs.Common.{◌≡◌, ◌∙◌, ◌+◌, ◌-◌, ◌≤◌, ◌++◌, ◌∷◌, [], ℕ, Bool, length, sym, ap, subst, arith, length-append}
use Rattle.std.specs.Prelude.{if◌then◌else◌}
use Rattle.std.proofs.lemmas.Result.{err_from_is_err_and}
use Rattle.data_types.specs.promise.Value.{Value}
use Rattle.layout_rules.specs.promise.Values.{each}
use Rattle.arr_import.specs.Lent.{lent_bytes}
use Rattle.data_types.specs.promise.Groups.{distinct}
use Rattle.row_groups.specs.ItemKeys.{item_of, stored_as}
use Rattle.row_groups.specs.Walk.{IsWalked}
use Rattle.row_groups.proofs.Alike.{refused-more, values-count, values-upto}
use Rattle.row_groups.proofs.Steps.{walked-more}
use Rattle.row_groups.proofs.firsts.walked_firsts.Goals as goal

pub returns-in_err-add_first-clause-fault : goal.returns-in_err-add_first-clause-fault
returns-in_err-add_first-clause-fault c =
    let column = c.args.column.now in
    let item : ℕ → Value = λ i. item_of column (c.args.start + i) in
    let is = c.loop-i.invariant.walked in
    let i = c.loop-i.i in
    let firsts = c.loop-i.firsts.items in
    let more =
    walked-more c.loop-i.numbering c.number.new.self (stored_as column) item i is.0 firsts (lent_bytes c.key-key.result)
    c.in-Ok-number.field-0-0 c.in-Ok-number.new is.1 c.key-key.ensures (c.in-Ok-number.ensures is.1.keys is.1.numbered) in
    let refused = c.in_err-add_first.ensures.fault c.loop-i.invariant.few in
    let count : length (if c.in-Ok-number.new then firsts ++ i ∷ [] else firsts) ≡ length firsts + 1 =
    ap (λ (b : Bool). length (if b then firsts ++ i ∷ [] else firsts)) refused.0 ∙ length-append firsts (i ∷ []) in
    let values = values-count item (i + 1) (is.0 ++ c.in-Ok-number.field-0-0 ∷ []) (if c.in-Ok-number.new then firsts ++ i ∷ [] else firsts) more.grouped in
    let all : i + 1 + (c.args.count - (i + 1)) ≡ c.args.count = omega (arith, c.loop-i-test.true) in
    let upto = values-upto item (i + 1) (c.args.count - (i + 1)) in
    let few : length firsts + 1 ≤ length (distinct (each item 0 c.args.count)) =
    omega (arith, count, values, upto, ap (λ n. length (distinct (each item 0 n))) all) in
    let fault = refused-more c.in_err-add_first.field-0.0 (length firsts + 1) (length (distinct (each item 0 c.args.count))) few refused.1 in
    let p = err_from_is_err_and c.from_residual.result c.from_residual.ensures.1 in
    rw (p.1, p.2) fault

pub loop-i-preserved : goal.loop-i-preserved
loop-i-preserved c =
    let column = c.args.column.now in
    let item : ℕ → Value = λ i. item_of column (c.args.start + i) in
    let is = c.loop-i.invariant.walked in
    let i = c.loop-i.i in
    let more =
    walked-more c.loop-i.numbering c.number.new.self (stored_as column) item i is.0 c.loop-i.firsts.items (lent_bytes c.key-key.result)
    c.in-Ok-number.field-0-0 c.in-Ok-number.new is.1 c.key-key.ensures (c.in-Ok-number.ensures is.1.keys is.1.numbered) in
    record {
      walked = (
        is.0 ++ c.in-Ok-number.field-0-0 ∷ [],
        subst (IsWalked c.number.new.self (stored_as column) item (i + 1) (is.0 ++ c.in-Ok-number.field-0-0 ∷ [])) (sym c.in_ok-add_first.ensures.firsts) more,
      );
      few = c.in_ok-add_first.ensures.few c.loop-i.invariant.few;
    }
