pub mod VisLines
