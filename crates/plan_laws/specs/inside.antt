-- What proofs alone cite.
pub mod Numbers
pub mod Taken
