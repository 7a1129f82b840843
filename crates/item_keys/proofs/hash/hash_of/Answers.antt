use Rattle.std.proofs.Common.{◌∙◌, ◌/◌, ◌^◌, ap, FoldHasher}
use Rattle.std.specs.Hash.FoldHasher as folding
use Rattle.item_keys.proofs.hash.hash_of.Goals as goal

pub returns : goal.returns
returns c =
    ap (λ n. n / 2 ^ 32) (
    c.finish.ensures ∙ ap (λ (h : FoldHasher). h.state) (c.write.ensures ∙ ap (λ (h : FoldHasher). folding.write h c.args.text.now) c.default-hasher.ensures)
    )
