use Rattle.std.proofs.Common.{◌∙◌, ap}
use Rattle.std.specs.declared.hash.DefaultHasher.{DefaultHasher}
use Rattle.std.specs.Hash.DefaultHasher as sipping
use Rattle.item_keys.proofs.hash.second_hash_of.Goals as goal

pub returns : goal.returns
returns c =
    c.finish.ensures
    ∙ ap sipping.finish (c.write.ensures ∙ ap (λ (h : DefaultHasher). sipping.write h c.args.text.now) c.default-hasher.ensures)
