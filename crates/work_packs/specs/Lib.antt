pub mod PackTexts
pub mod KindLines
pub mod RulesMade
