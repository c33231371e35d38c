pub mod FindingsPut
pub mod BuildLaws
pub mod MostLaws
pub mod RuleLaws
