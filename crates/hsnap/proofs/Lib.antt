pub mod Causes
pub mod ClapMeaning
pub mod ClapReads
pub mod ClapRules
pub mod ClapTurns
pub mod ClapValues
pub mod ClapWords
pub mod Statuses
