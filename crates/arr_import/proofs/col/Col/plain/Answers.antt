use Rattle.std.proofs.Common.{◌+◌, ◌<◌, ◌^◌, ℕ, rules, refl, arith}
use Rattle.std.specs.Prelude.{IsTrue}
use Rattle.raw_array.specs.promise.Members.{members_of}
use Rattle.layout_rules.specs.promise.Layout.{first}
use Rattle.arr_import.specs.declared.plain.Plain.{Plain}
use Rattle.arr_import.specs.Plain.{IsPlainStorage}
use Rattle.arr_import.proofs.PlainColumns.{Keeps, item-at, item-there-at}
use Rattle.arr_import.proofs.col.Col.plain.Goals as goal

pub returns-clause-some : goal.returns-clause-some
returns-clause-some c =
    let col = c.args.self.now in
    let kept = c.items_are_stored.ensures in
    let plain : Plain = record { storage = col.storage; validity = col.validity; stored = col.stored; text = col.text; first = c.first_place.result } in
    let keeps : Keeps plain col = record { storage = refl; validity = refl; stored = refl; text = refl; first = c.first_place.ensures } in
    let so : IsTrue c.is_plain.result = search rules in
    let is_plain : IsPlainStorage col.storage = c.is_plain.ensures.0 so in
    record {
      there = λ (i : ℕ) (h : i < col.count).
          let near : first (members_of col.array.now) + (col.start + i) < 2 ^ 40 = omega (arith, kept.near, h) in
          item-there-at plain col keeps i near (kept.validity i h) (kept.there i h);
      items = λ (i : ℕ) (h : i < col.count). item-at plain col keeps i is_plain (kept.items i h);
    }
