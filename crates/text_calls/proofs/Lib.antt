pub mod PayloadLaws
pub mod WordLaws
pub mod FormLaws
pub mod FirstBytes
pub mod Runs
pub mod TableLaws
pub mod CallLaws
