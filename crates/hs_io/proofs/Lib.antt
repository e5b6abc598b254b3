pub mod BytesLemmas
