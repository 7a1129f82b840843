-- Which items are read in a way of their own: those of the common types, without a dictionary.
use Rattle.std.specs.Prelude.{ℕ, ◌==◌, Bool, true, false, if◌then◌else◌}
use Rattle.data_types.specs.declared.storage.Storage.{Storage}
use Rattle.data_types.specs.declared.storage.Storage.TheVariants as storages
use Rattle.arr_import.specs.declared.access.Access.{Access}
use Rattle.arr_import.specs.declared.access.Access.TheVariants.{Truths, Int32, Int64, Int128, Between32, Other}

-- numbers of this many bits, with a sign
abbrev pub access_of_bits : ℕ → Access
access_of_bits bits =
    if bits == 32 then Int32
    else if bits == 64 then Int64
    else if bits == 128 then Int128
    else Other

-- the items that are stored so, and whether they have a dictionary
abbrev pub access_of : Storage → Bool → Access
access_of storages.Truths is_index = Truths
access_of (storages.Between false text) is_index = Between32
access_of (storages.Wholes bits true) false = access_of_bits bits
access_of _ is_index = Other

abbrev pub IsNumber : Access → Type 0
IsNumber Int32 = Unit {0}
IsNumber Int64 = Unit {0}
IsNumber Int128 = Unit {0}
IsNumber _ = ⊥
