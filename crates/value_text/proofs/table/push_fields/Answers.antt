use Rattle.std.proofs.Common.{◌∙◌, ◌<◌, ◌++◌, get_or, length, map, take, ap, arith, subst, sym}
use Rattle.std.proofs.lemmas.List.{get_or-map, length-map}
use Rattle.data_types.specs.promise.Value.{Null}
use Rattle.arr_import.specs.Cols.{window_of}
use Rattle.arr_import.specs.Window.{item_at}
use Rattle.value_text.specs.Behind.{item_text}
use Rattle.value_text.specs.Fields.{IsRead}
use Rattle.value_text.specs.declared.table.Field.{Field}
use Rattle.value_text.proofs.Parts.{appended, parts, row-more}
use Rattle.value_text.proofs.table.push_fields.Goals as goal

pub push_field-requires : goal.push_field-requires
push_field-requires c =
    let field = c.index-fields-k.result in
    record {
      read = subst IsRead (sym c.index-fields-k.is) (c.requires.read c.loop-k.k field c.loop-k-test.true);
      inside = subst (λ (x : Field). c.args.i < (window_of x.items).count) (sym c.index-fields-k.is)
          (c.requires.inside c.loop-k.k field c.loop-k-test.true);
      small = c.requires.small;
    }

pub loop-k-preserved : goal.loop-k-preserved
loop-k-preserved c =
    let fields = c.args.fields.now in
    let field = c.index-fields-k.result in
    let k = c.loop-k.k in
    let f = λ (x : Field). item_at (window_of x.items) c.args.i in
    let row = map f fields in
    let inside : k < length row = omega (arith, length-map fields f, c.loop-k-test.true) in
    let same = get_or-map f fields k field Null c.loop-k-test.true ∙ ap f (sym c.index-fields-k.is) in
    appended c.push.new.self (parts (take k row)) c.loop-k.text c.push_field.new.text (item_text k (get_or row k Null)) _
    (c.in_ok-push_field.ensures ∙ ap (λ v. c.loop-k.text ++ item_text k v) (sym same)) c.loop-k.invariant (sym (row-more row k inside))
