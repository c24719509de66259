-- Laws of the caller: what is seen; an area that is lent as a shared one; then the calls of `look`, to `transform`,
-- `front` and `other`, and its entry and exit.
pub mod SeenLaws
pub mod Sharing
pub mod Parting
pub mod Reading
pub mod Asking
pub mod Edges
