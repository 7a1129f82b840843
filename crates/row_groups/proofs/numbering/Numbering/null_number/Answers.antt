use Rattle.std.proofs.Common.{◌++◌, ◌∷◌, [], None, Some, true, ℕ, sym, subst}
use Rattle.std.specs.Prelude.{Option}
use Rattle.row_groups.specs.Numbering.{AreKeys, IsNumber}
use Rattle.row_groups.proofs.Keys.{null-more, null-new, null-number}
use Rattle.row_groups.proofs.numbering.Numbering.null_number.Goals as goal

pub returns-in-Some : goal.returns-in-Some
returns-in-Some c = λ keys holds. record {
  number_is = null-number c.in-Some.number holds.texts keys (subst (λ (o : Option ℕ). AreKeys o holds.texts keys) c.in-Some.is holds.are);
  keys_are = holds;
}

pub returns-in-None : goal.returns-in-None
returns-in-None c = λ keys holds.
    let are = subst (λ (o : Option ℕ). AreKeys o holds.texts keys) c.in-None.is holds.are in
    record {
      number_is = subst (λ n. IsNumber keys None n true) (sym holds.known) (null-new holds.texts keys are);
      keys_are = record {
        texts = holds.texts;
        numbers = holds.numbers;
        known = holds.known;
        are = subst (λ n. AreKeys (Some n) holds.texts (keys ++ None ∷ [])) (sym holds.known) (null-more holds.texts keys are);
      };
    }
