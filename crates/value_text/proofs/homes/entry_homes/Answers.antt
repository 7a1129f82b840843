use Rattle.std.proofs.Common.{◌+◌, ◌<◌, ◌∷◌, [], ℕ, List, Option, None, get_or, length, arith, length-append, subst, sym, ap, ◌∙◌}
use Rattle.arr_import.specs.Cols.{window_of}
use Rattle.arr_import.specs.Window.{Window, item_at}
use Rattle.value_text.specs.Homes.{IsAt}
use Rattle.value_text.proofs.Entries.{more-placed}
use Rattle.value_text.proofs.homes.entry_homes.Goals as goal

pub loop-i-preserved : goal.loop-i-preserved
loop-i-preserved c =
    let items = window_of c.args.entries.items in
    let w = window_of c.args.col.now in
    let i = c.loop-i.i in
    let own = c.loop-i.places.items in
    let place = c.entry_place.result in
    let here : IsAt items place (item_at w i) = subst (λ (v : Window). IsAt items place (item_at v i)) c.requires.shown c.entry_place.ensures in
    record {
      many = ap length c.in_ok-push.ensures.items ∙ omega (arith, c.loop-i.invariant.many, length-append own (place ∷ []));
      each = subst (λ (all : List (Option ℕ)). (k : ℕ) → k < i + 1 → IsAt items (get_or all k None) (item_at w k)) (sym c.in_ok-push.ensures.items)
          (more-placed own items w i place c.loop-i.invariant.many c.loop-i.invariant.each here);
    }
