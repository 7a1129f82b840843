-- The texts of faults.
use Rattle.std.specs.Prelude.{ℕ, List, codes}
use Rattle.col_build.specs.declared.item.PushFault.{PushFault}
use Rattle.col_build.specs.declared.item.PushFault.TheVariants.{WrongKind, OutOfRange, NotText, NoMemory}

abbrev pub fault_text : PushFault → List ℕ
fault_text WrongKind = codes "not a value of the column's type"
fault_text OutOfRange = codes "out of the column's range"
fault_text NotText = codes "not UTF-8"
fault_text NoMemory = codes "out of memory"
