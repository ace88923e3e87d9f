pub mod ResultLemmas
pub mod RefusalLemmas
pub mod PackagesLemmas
pub mod SuffixLemmas
