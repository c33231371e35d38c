pub mod FourLaws
pub mod RunLaws
pub mod RisingLaws
pub mod WeaveLaws
pub mod RunsWoven
pub mod MarkLaws
pub mod UpdateLaws
pub mod CallLaws
