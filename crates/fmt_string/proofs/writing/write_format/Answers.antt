use Rattle.std.proofs.Common.{List, ℕ, sym, subst}
use Rattle.std.proofs.lemmas.Result.{IfOk-weaker}
use Rattle.fmt_string.specs.promise.FormatString.{FormatIs}
use Rattle.fmt_string.proofs.Spelled.{spelled}
use Rattle.fmt_string.proofs.writing.write_format.Goals as goal

pub returns-clause-spelled : goal.returns-clause-spelled
returns-clause-spelled c =
    IfOk-weaker c.spelling.result _ (λ text. FormatIs text.items c.args.kind.now)
    (λ text is. subst (λ (t : List ℕ). FormatIs t c.args.kind.now) (sym is) (spelled c.args.kind.now c.requires))
    c.spelling.ensures
