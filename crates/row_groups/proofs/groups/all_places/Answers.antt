use Rattle.std.proofs.Common.{◌≡◌, ◌∙◌, ◌+◌, ◌++◌, ◌∷◌, [], ap, sym, arith}
use Rattle.layout_rules.specs.promise.Values.{each}
use Rattle.row_groups.proofs.Eaches.{each-next}
use Rattle.row_groups.proofs.groups.all_places.Goals as goal

pub loop-i-preserved : goal.loop-i-preserved
loop-i-preserved c =
    let i = c.loop-i.i in
    let here : i ≡ 0 + i = omega arith in
    record {
      places = c.push_reserved.ensures.items ∙ (λ t. c.loop-i.invariant.places t ++ here t ∷ []) ∙ sym (each-next (λ k. k) 0 i);
      len = omega (arith, c.push_reserved.ensures.len, c.loop-i.invariant.len);
      room = omega (arith, c.push_reserved.ensures.capacity, c.loop-i.invariant.room);
    }

pub returns : goal.returns
returns c =
    let end : c.loop-i.i ≡ c.args.count = omega (arith, c.loop-i-test.false, c.loop-i.auto.i-end) in
    c.loop-i.invariant.places ∙ ap (each (λ k. k) 0) end
