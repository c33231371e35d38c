pub mod ListsBuilt
pub mod RedoneBuilt
pub mod JointLaws
pub mod TurnLaws
pub mod BoundLaws
pub mod DividedLists
pub mod ListCalls
pub mod ListedSheet
