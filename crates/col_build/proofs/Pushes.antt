-- A builder with one more value.
use Rattle.std.proofs.Common.{◌≡◌, ◌∙◌, ℕ, List, length, refl, sym, ap}
use Rattle.data_types.specs.promise.Storage.{storage_of}
use Rattle.data_types.specs.promise.Value.{Value, Null, Truth, Whole, Bits, Bytes, Items, Fields, byte_total}
use Rattle.data_types.specs.declared.kind.DataType.{DataType}
use Rattle.col_build.specs.Encoding.{Fits, push_fault}
use Rattle.col_build.specs.Holding.{HasBytes, HasValidity, ShapeOk}
use Rattle.col_build.specs.Settled.{HoldsWhole}
use Rattle.col_build.specs.Shapes.{shape_fault, shape_in}
use Rattle.col_build.specs.declared.builder.Builder.{Builder}
use Rattle.col_build.specs.declared.shape.Shape.{Shape}
use Rattle.col_build.specs.declared.shape.Shape.TheVariants as shapes
use Rattle.col_build.proofs.ShapeFacts.{fault-is, shape-is}

-- only offsets look at the bytes that are there
shape-total : (shape : Shape) (values : List Value) (value : Value) (offsets bytes : List ℕ) → HasBytes shape values offsets bytes
    → shape_fault shape (byte_total values) value ≡ shape_fault shape (length bytes) value
shape-total shapes.Truths values Null offsets bytes has = refl
shape-total shapes.Truths values (Truth t) offsets bytes has = refl
shape-total shapes.Truths values (Whole n) offsets bytes has = refl
shape-total shapes.Truths values (Bits n) offsets bytes has = refl
shape-total shapes.Truths values (Bytes b) offsets bytes has = refl
shape-total shapes.Truths values (Items vs) offsets bytes has = refl
shape-total shapes.Truths values (Fields vs) offsets bytes has = refl
shape-total (shapes.Wholes width signed) values Null offsets bytes has = refl
shape-total (shapes.Wholes width signed) values (Truth t) offsets bytes has = refl
shape-total (shapes.Wholes width signed) values (Whole n) offsets bytes has = refl
shape-total (shapes.Wholes width signed) values (Bits n) offsets bytes has = refl
shape-total (shapes.Wholes width signed) values (Bytes b) offsets bytes has = refl
shape-total (shapes.Wholes width signed) values (Items vs) offsets bytes has = refl
shape-total (shapes.Wholes width signed) values (Fields vs) offsets bytes has = refl
shape-total (shapes.Floats width) values Null offsets bytes has = refl
shape-total (shapes.Floats width) values (Truth t) offsets bytes has = refl
shape-total (shapes.Floats width) values (Whole n) offsets bytes has = refl
shape-total (shapes.Floats width) values (Bits n) offsets bytes has = refl
shape-total (shapes.Floats width) values (Bytes b) offsets bytes has = refl
shape-total (shapes.Floats width) values (Items vs) offsets bytes has = refl
shape-total (shapes.Floats width) values (Fields vs) offsets bytes has = refl
shape-total (shapes.Sized size) values Null offsets bytes has = refl
shape-total (shapes.Sized size) values (Truth t) offsets bytes has = refl
shape-total (shapes.Sized size) values (Whole n) offsets bytes has = refl
shape-total (shapes.Sized size) values (Bits n) offsets bytes has = refl
shape-total (shapes.Sized size) values (Bytes b) offsets bytes has = refl
shape-total (shapes.Sized size) values (Items vs) offsets bytes has = refl
shape-total (shapes.Sized size) values (Fields vs) offsets bytes has = refl
shape-total (shapes.Between wide text) values value offsets bytes has = ap (λ n. shape_fault (shapes.Between wide text) n value) (sym (ap length has.1))

-- the fault of a value is that which its shape tells
pub fault-of : (shape : Shape) (kind : DataType) (values : List Value) (value : Value) (offsets bytes : List ℕ) → shape ≡ shape_in (storage_of kind)
    → Fits kind values → HasBytes shape values offsets bytes
    → shape_fault shape (length bytes) value ≡ push_fault kind values value
fault-of shape kind values value offsets bytes is fits has =
    sym (
    fault-is kind values value fits.kind_ok fits.flat ∙ ap (λ s. shape_fault s (byte_total values) value) (sym is)
    ∙ shape-total shape values value offsets bytes has
    )

pub fault-held : (builder : Builder) (kind : DataType) (values : List Value) (value : Value) → HoldsWhole builder kind values
    → shape_fault builder.shape (length builder.bytes.items) value ≡ push_fault kind values value
fault-held builder kind values value holds =
    fault-of builder.shape kind values value builder.offsets.items builder.bytes.items holds.shape holds.fits holds.bytes

pub shape-held : (builder : Builder) (kind : DataType) (values : List Value) → HoldsWhole builder kind values → ShapeOk builder.shape
shape-held builder kind values holds = rw holds.shape (shape-is kind holds.fits.kind_ok holds.fits.flat)

pub validity-held : (builder : Builder) (kind : DataType) (values : List Value) → HoldsWhole builder kind values
    → HasValidity builder.validity.items builder.count builder.nulls values
validity-held builder kind values holds = record { counted = holds.count; nulls_counted = holds.nulls; shown = holds.validity }
