pub mod Fillable
