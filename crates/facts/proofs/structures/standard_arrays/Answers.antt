use Rattle.std.proofs.Common.{refl}
use Rattle.facts.proofs.structures.standard_arrays.Goals as goal

pub returns : goal.returns
returns c = record {
  numbers = refl;
  numbers_are_lawful = refl;
  names = refl;
  names_are_lawful = refl;
  lists = refl;
  lists_are_lawful = refl;
  addresses = refl;
  addresses_are_lawful = refl;
  people = refl;
  people_are_lawful = refl;
  coded = refl;
  coded_are_lawful = refl;
}
