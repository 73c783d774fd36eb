pub mod Contouring
