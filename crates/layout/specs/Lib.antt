-- Texts of a layout, and where a text leaves it: 02, request 4.
pub mod Beginnings
pub mod Layouts
pub mod Walking
