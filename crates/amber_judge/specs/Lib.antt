pub mod LegalTests
pub mod RuleTests
pub mod TestLaws
