use Rattle.std.proofs.Common.{◌≡◌, ◌+◌, [], length, ap, sym, arith, append-nil}
use Rattle.std.specs.Prelude.{map}
use Rattle.std.specs.List.{concat}
use Rattle.data_types.specs.promise.Value.{bytes_of}
use Rattle.col_build.specs.Items.{value_of}
use Rattle.col_build.proofs.OffsetBytes.{between-push}
use Rattle.col_build.proofs.StoredFacts.{where-both, where-ok}
use Rattle.col_build.proofs.store.store_between.Goals as goal

pub returns-in-Null-clause-added : goal.returns-in-Null-clause-added
returns-in-Null-clause-added c =
    let none : bytes_of (value_of c.args.item) ≡ [] = ap (λ item. bytes_of (value_of item)) c.in-Null.is in
    where-ok c.end_item.result _ _ c.end_item.ensures.added
    (λ added values has.
    let end : length (concat (map bytes_of values)) + 0 ≡ c.len.result = omega (arith, ap length has.1, c.len.ensures, c.args.bytes.now.ok.0) in
    between-push c.args.wide values (value_of c.args.item) [] c.end_item.new.offsets.items c.args.bytes.now.items c.args.bytes.now.items none
    (added (map bytes_of values) [] has.0 end) has.1 (sym (append-nil c.args.bytes.now.items)))

pub returns-in-Bytes-clause-added : goal.returns-in-Bytes-clause-added
returns-in-Bytes-clause-added c =
    let more : bytes_of (value_of c.args.item) ≡ c.in-Bytes.more.now = ap (λ item. bytes_of (value_of item)) c.in-Bytes.is in
    where-both c.append_between.result _ c.append_between.new.bytes.items c.in-Bytes.more.now _ _ _ c.append_between.ensures.added
    c.append_between.ensures.bytes
    (λ added is values has.
    between-push c.args.wide values (value_of c.args.item) c.in-Bytes.more.now c.append_between.new.offsets.items c.args.bytes.now.items
    c.append_between.new.bytes.items more (added (map bytes_of values) has.0 has.1) has.1 is)
