use Rattle.std.proofs.Common.{rules, ◌≡◌, ◌<◌, ◌++◌, ◌∷◌, [], length, refl}
use Rattle.std.specs.Prelude.{decimal}
use Rattle.fmt_string.specs.promise.FormatString.{StartsWith, StartsWithDigit}
use Rattle.union_cols.specs.promise.UnionFormats.{AreIds}
use Rattle.union_cols.proofs.FormatSteps.{behind_id, last_id}
use Rattle.union_cols.proofs.format.read_ids.Goals as goal

pub returns-then-is_empty-2-clause-spelled : goal.returns-then-is_empty-2-clause-spelled
returns-then-is_empty-2-clause-spelled c =
    let ids = c.loop-id.ids.items in
    let id = c.in-Some.id in
    let rest = c.in-Some.rest.now in
    let front : c.loop-id.left.now ≡ decimal id ++ rest = search rules in
    let none : length rest ≡ 0 = search rules in
    let grown : c.push.new.self.items ≡ ids ++ id ∷ [] = search rules in
    last_id c.args.list.now ids id c.loop-id.left.now rest c.push.new.self.items c.loop-id.invariant.split front none grown

pub returns-in_default-behind_comma-clause-fault : goal.returns-in_default-behind_comma-clause-fault
returns-in_default-behind_comma-clause-fault c =
    let ids = c.loop-id.ids.items in
    let id = c.in-Some.id in
    let rest = c.in-Some.rest.now in
    let front : c.loop-id.left.now ≡ decimal id ++ rest = search rules in
    let are : AreIds (ids ++ id ∷ []) = search rules in
    let some : 0 < length rest = search rules in
    let digit : StartsWithDigit rest → ⊥ = search rules in
    let comma : StartsWith 44 rest → ⊥ = search rules in
    behind_id c.args.list.now ids id c.loop-id.left.now rest _ are c.loop-id.invariant.split front some digit comma refl
