use Rattle.std.proofs.Common.{refl}
use Rattle.std.specs.Str.{chars, is_utf8}
use lib.Utf8.{encode}
use Rattle.facts.proofs.inside.windows.Goals as goal

pub returns-clause-chunk : goal.returns-clause-chunk
unfolding is_utf8 chars encode
returns-clause-chunk c = (refl, refl)

pub returns-clause-window : goal.returns-clause-window
unfolding is_utf8 chars encode
returns-clause-window c = (refl, refl)

pub returns-clause-views : goal.returns-clause-views
returns-clause-views c = refl

pub returns-clause-views_are_lawful : goal.returns-clause-views_are_lawful
unfolding is_utf8 chars encode
returns-clause-views_are_lawful c = refl

pub returns-clause-share : goal.returns-clause-share
unfolding is_utf8 chars encode
returns-clause-share c = (refl, refl)

pub returns-clause-piece : goal.returns-clause-piece
unfolding is_utf8 chars encode
returns-clause-piece c = (refl, refl)

pub returns-clause-pieces : goal.returns-clause-pieces
returns-clause-pieces c = refl

pub returns-clause-nothing : goal.returns-clause-nothing
unfolding is_utf8 chars encode
returns-clause-nothing c = (refl, refl)
