use Rattle.std.proofs.Common.{subst, sym}
use Rattle.std.specs.Prelude.{is_some}
use Rattle.data_types.specs.TypedView.{dict_in}
use Rattle.data_types.specs.declared.typed.Typed.{out-Typed}
use Rattle.arr_import.proofs.Accesses.{Says, says, none-behind, number-own}
use Rattle.arr_import.proofs.col.Col.access_is.Goals as goal

pub returns : goal.returns
returns c =
    let col = c.args.self.now in
    let dict = dict_in (out-Typed col.typed.now).dict in
    let said : Says col.access col.storage (is_some dict) =
    subst (λ a. Says a col.storage (is_some dict)) (sym col.access_ok) (says col.storage (is_some dict)) in
    record {
      truths = λ e. subst (λ a. Says a col.storage (is_some dict)) e said;
      between = λ e. subst (λ a. Says a col.storage (is_some dict)) e said;
      int32 = λ e. (subst (λ a. Says a col.storage (is_some dict)) e said).0;
      int64 = λ e. (subst (λ a. Says a col.storage (is_some dict)) e said).0;
      int128 = λ e. (subst (λ a. Says a col.storage (is_some dict)) e said).0;
      own = λ n. none-behind dict (number-own col.access col.storage (is_some dict) said n);
    }
