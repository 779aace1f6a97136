mod Texts
pub mod Framed
mod Follow
mod Reached
pub mod Counted
mod Atoms
mod Lists
mod Forms
pub mod Patterns
mod Elements
mod Statements
mod Blocks
mod Complete
pub mod Modules
pub mod OneModule
mod Sound
mod SoundLists
mod SoundLevels
mod SoundElements
mod SoundSteps
mod SoundStatements
mod SoundBlocks
mod SoundAtoms
mod SoundLinks
mod SoundCalls
mod SoundNesting
mod SoundModules
mod Raised
mod RaisedForms
mod RaisedStatements
mod TextsRead
