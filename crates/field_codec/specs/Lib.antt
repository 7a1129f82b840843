pub mod FieldForms
pub mod Fractions
pub mod TextColumns
