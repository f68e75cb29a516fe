-- Laws of rules on tilings, with their proofs: those that make tilings a domain.
pub mod Carrying
pub mod RuleCounts
pub mod Domains
