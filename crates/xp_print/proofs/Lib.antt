pub mod PayloadWords
