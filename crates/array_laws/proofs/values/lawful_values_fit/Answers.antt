use Rattle.std.proofs.Common.{◌≡◌}
use Rattle.data_types.specs.promise.FieldText.{form_of}
use Rattle.data_types.specs.declared.kind.DataType.{DataType}
use Rattle.col_build.specs.Encoding.{HasForm}
use Rattle.tree_model.specs.promise.TreeData.{Live, no_trees, absent}
use Rattle.data_types.specs.promise.TypedView.{typed_of}
use Rattle.array_laws.proofs.AllItems.{each-fits, fewer-fit, items-fit, lawful, once-fit, whole-fits}
use Rattle.array_laws.proofs.values.lawful_values_fit.Goals as goal

pub returns : goal.returns
returns c =
    let typed = typed_of c.args.typed.now in
    let array = c.args.array.now in
    let here = λ (kind : DataType) (is : typed ≡ Live kind no_trees absent) (flat : HasForm (form_of kind)).
    lawful kind typed array is flat c.requires.types c.requires.lawful c.lawful_trees.ensures.root c.lawful_trees.ensures.items c.numbers_of_bytes.ensures in
    record {
      each = λ kind i is flat. each-fits kind typed array i (here kind is flat);
      whole = λ kind is flat. whole-fits kind typed array (here kind is flat);
      items = λ kind values is flat. items-fit kind typed array values (here kind is flat);
      once = λ kind start kept is flat. once-fit kind typed array start kept (here kind is flat);
      fewer = λ kind values is flat. fewer-fit kind typed array values (here kind is flat);
    }
