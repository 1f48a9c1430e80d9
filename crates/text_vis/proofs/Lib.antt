pub mod VisTable
