-- Shapes that lay items out alike.
use Rattle.std.proofs.Common.{ℕ, List, subst, sym}
use Rattle.data_types.specs.promise.Value.{Value}
use Rattle.col_build.specs.Holding.{HasBytes, IsLaidAs}
use Rattle.col_build.specs.declared.shape.Shape.{Shape}
use Rattle.col_build.specs.declared.shape.Shape.TheVariants as shapes

-- what one shape has, the other has
pub laid-has : (shape own : Shape) (values : List Value) (offsets bytes : List ℕ) → IsLaidAs shape own → HasBytes own values offsets bytes
    → HasBytes shape values offsets bytes
laid-has shapes.Truths own values offsets bytes laid has = subst (λ s. HasBytes s values offsets bytes) laid has
laid-has (shapes.Wholes width signed) own values offsets bytes laid has = subst (λ s. HasBytes s values offsets bytes) laid has
laid-has (shapes.Floats width) own values offsets bytes laid has = subst (λ s. HasBytes s values offsets bytes) laid has
laid-has (shapes.Sized size) own values offsets bytes laid has = subst (λ s. HasBytes s values offsets bytes) laid has
laid-has (shapes.Between wide text) own values offsets bytes laid has = subst (λ s. HasBytes s values offsets bytes) laid.1 has

-- and back
pub laid-back : (shape own : Shape) (values : List Value) (offsets bytes : List ℕ) → IsLaidAs shape own → HasBytes shape values offsets bytes
    → HasBytes own values offsets bytes
laid-back shapes.Truths own values offsets bytes laid has = subst (λ s. HasBytes s values offsets bytes) (sym laid) has
laid-back (shapes.Wholes width signed) own values offsets bytes laid has = subst (λ s. HasBytes s values offsets bytes) (sym laid) has
laid-back (shapes.Floats width) own values offsets bytes laid has = subst (λ s. HasBytes s values offsets bytes) (sym laid) has
laid-back (shapes.Sized size) own values offsets bytes laid has = subst (λ s. HasBytes s values offsets bytes) (sym laid) has
laid-back (shapes.Between wide text) own values offsets bytes laid has = subst (λ s. HasBytes s values offsets bytes) (sym laid.1) has
