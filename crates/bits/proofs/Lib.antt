pub mod BitLaws
