-- The codes with which streams refuse: those of errno ("The Arrow C Stream Interface", "Error handling").
use Rattle.std.specs.Prelude.{ℤ, pos}

-- out of memory
abbrev pub enomem : ℤ
enomem = pos 12

-- a record spells no row, or a chunk breaks a rule
abbrev pub einval : ℤ
einval = pos 22
