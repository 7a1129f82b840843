-- A flat type has no children.
use Rattle.std.proofs.Common.{◌≡◌, ◌∙◌, None, refl, ap, arith}
use Rattle.data_types.specs.ColumnForms.{HasForm}
use Rattle.data_types.specs.promise.FieldText.{form_of}
use Rattle.data_types.specs.declared.kind.DataType.{DataType}
use Rattle.data_types.specs.declared.kind.DataType.TheVariants as kinds
use Rattle.tree_model.specs.promise.TreeData.{Released, Live, Trees, no_trees, more_trees, MaybeTree, absent, present, option_tree}
use Rattle.tree_model.specs.promise.TreeParts.{dictionary_of}
use Rattle.data_types.specs.promise.KindTrees.{KindTree, kind_in}
use Rattle.data_types.specs.KindTrees.{IsNoChild, KidsOk, TypedOk}

none-of : (kids : Trees DataType) → IsNoChild kids → kids ≡ no_trees
none-of no_trees none = refl
none-of (more_trees kid kids) none = absurd none

no-kids : (kind : DataType) (kids : Trees DataType) → HasForm (form_of kind) → KidsOk kind kids → kids ≡ no_trees
no-kids (kinds.List wide) kids flat ok = absurd flat
no-kids (kinds.FixedList size) kids flat ok = absurd flat
no-kids kinds.Map kids flat ok = absurd flat
no-kids kinds.Struct kids flat ok = absurd flat
no-kids _ kids flat ok = none-of kids ok

absent-of : (dict : MaybeTree DataType) → option_tree dict ≡ None → dict ≡ absent
absent-of absent none = refl
absent-of (present type) none = absurd (grind arith)

pub alone : (typed : KindTree) → TypedOk typed → HasForm (form_of (kind_in typed)) → dictionary_of typed ≡ None → typed ≡ Live (kind_in typed) no_trees absent
alone Released ok flat none = absurd flat
alone (Live kind kids dict) ok flat none =
    ap (λ (ks : Trees DataType). Live kind ks dict) (no-kids kind kids flat ok.1.1) ∙ ap (Live kind no_trees) (absent-of dict none)
