use Rattle.std.proofs.Common.{◌≡◌, ◌∙◌, true, if◌then◌else◌, OnOk, to_z, of_z, rules, sym, ap, subst}
use Rattle.std.specs.Int.{w128}
use Rattle.arr_import.specs.Plain.{is_valid_in, valid_item}
use Rattle.col_build.specs.Holding.{Adds}
use Rattle.data_types.specs.promise.Value.{Value, Null, Whole}
use Rattle.column_fill.proofs.item.push_plain.Goals as goal

pub returns-in-Wholes-eq32-default : goal.returns-in-Wholes-eq32-default
returns-in-Wholes-eq32-default c =
    let items = c.args.items.now in
    let valid : is_valid_in items c.args.i ≡ true = search rules in
    let told : to_z w128 (of_z w128 c.whole.result) ≡ c.whole.result = search rules in
    let added = subst (λ (v : Value). OnOk c.add_whole.result (Adds v c.args.builder.now c.add_whole.new.self)) (ap Whole told ∙ sym c.whole.ensures) c.add_whole.ensures.added in
    subst (λ b. OnOk c.add_whole.result (Adds (if b then valid_item items c.args.i else Null) c.args.builder.now c.add_whole.new.self)) (sym valid) added

pub returns-in-Wholes-eq64-default : goal.returns-in-Wholes-eq64-default
returns-in-Wholes-eq64-default c =
    let items = c.args.items.now in
    let valid : is_valid_in items c.args.i ≡ true = search rules in
    let told : to_z w128 (of_z w128 c.whole-in-Wholes-eq64-default.result) ≡ c.whole-in-Wholes-eq64-default.result = search rules in
    let added = subst (λ (v : Value). OnOk c.add_whole-in-Wholes-eq64-default.result (Adds v c.args.builder.now c.add_whole-in-Wholes-eq64-default.new.self)) (ap Whole told ∙ sym c.whole-in-Wholes-eq64-default.ensures) c.add_whole-in-Wholes-eq64-default.ensures.added in
    subst (λ b. OnOk c.add_whole-in-Wholes-eq64-default.result (Adds (if b then valid_item items c.args.i else Null) c.args.builder.now c.add_whole-in-Wholes-eq64-default.new.self)) (sym valid) added

pub returns-in-Wholes-eq128-default : goal.returns-in-Wholes-eq128-default
returns-in-Wholes-eq128-default c =
    let items = c.args.items.now in
    let valid : is_valid_in items c.args.i ≡ true = search rules in
    let told : to_z w128 (of_z w128 c.whole-in-Wholes-eq128-default.result) ≡ c.whole-in-Wholes-eq128-default.result = search rules in
    let added = subst (λ (v : Value). OnOk c.add_whole-in-Wholes-eq128-default.result (Adds v c.args.builder.now c.add_whole-in-Wholes-eq128-default.new.self)) (ap Whole told ∙ sym c.whole-in-Wholes-eq128-default.ensures) c.add_whole-in-Wholes-eq128-default.ensures.added in
    subst (λ b. OnOk c.add_whole-in-Wholes-eq128-default.result (Adds (if b then valid_item items c.args.i else Null) c.args.builder.now c.add_whole-in-Wholes-eq128-default.new.self)) (sym valid) added
