-- The type of a flat column.
use Rattle.std.proofs.Common.{◌≡◌, true, Option, None, Some, refl}
use Rattle.std.specs.Prelude.{is_some}
use Rattle.data_types.specs.promise.FieldText.{Form, form_of}
use Rattle.data_types.specs.Kinds.{KindOk}
use Rattle.tree_model.specs.promise.TreeData.{Released, Live, absent, present}
use Rattle.tree_model.specs.promise.TreeParts.{dictionary_of}
use Rattle.data_types.specs.promise.KindTrees.{KindTree, kind_in}
use Rattle.data_types.specs.KindTrees.{TypedOk}
use Rattle.col_build.specs.Encoding.{HasForm}
use Rattle.column_fill.specs.promise.FlatColumns.{is_flat_column}

form-there : (form : Option Form) → is_some form ≡ true → HasForm form
form-there None e = absurd (cc)
form-there (Some form) e = tt

pub flat-alone : (t : KindTree) → is_flat_column t ≡ true → dictionary_of t ≡ None
flat-alone Released flat = absurd (cc)
flat-alone (Live kind kids absent) flat = refl
flat-alone (Live kind kids (present dict)) flat = absurd (cc)

pub flat-valid : (t : KindTree) → TypedOk t → is_flat_column t ≡ true → KindOk (kind_in t)
flat-valid Released ok flat = absurd (cc)
flat-valid (Live kind kids dict) ok flat = ok.1.0

pub flat-form : (t : KindTree) → is_flat_column t ≡ true → HasForm (form_of (kind_in t))
flat-form Released flat = absurd (cc)
flat-form (Live kind kids absent) flat = form-there (form_of kind) flat
flat-form (Live kind kids (present dict)) flat = absurd (cc)
