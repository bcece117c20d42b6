-- `Laws` says which case of each definition of specs/Opaque.antt holds, by plain facts, and how the writes of specs/Put.antt join;
-- `RoundTrip` that opaque data that was written is read back; `Fields` that each reader finds the field that stands at an offset. They serve
-- the crates above too.
pub mod Laws
pub mod RoundTrip
pub mod Fields
