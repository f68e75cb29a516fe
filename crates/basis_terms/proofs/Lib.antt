mod ExactTerms
mod BasisRows
