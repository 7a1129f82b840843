use Rattle.std.proofs.Common.{◌≡◌, List, ℕ, [], ◌∷◌, length, ap, refl, arith}
use Rattle.data_types.specs.promise.Value.{Value}
use Rattle.value_text.specs.Lengths.{AreFieldLengths, some_fields}
use Rattle.value_text.proofs.LengthSums.{row-long}
use Rattle.value_text.proofs.lengths.same_row.Goals as goal

no-own : (own : List ℕ) → length own ≡ 0 → own ≡ []
no-own [] none = refl
no-own (k ∷ ks) none = absurd (omega (arith, none))

pub returns : goal.returns
returns c = λ (row : List Value) (place : ℕ) (known : AreFieldLengths c.args.kids.now place row).
    let kids = c.args.kids.now in
    let own = c.args.sums.now.own.items in
    let none = no-own own (omega (arith, c.len.ensures)) in
    omega (arith, c.braced.ensures, ap (some_fields kids place) none, row-long kids row place c.args.sums.now.same own known c.requires)
