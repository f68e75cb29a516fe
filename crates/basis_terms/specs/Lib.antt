pub mod BasisTerms
