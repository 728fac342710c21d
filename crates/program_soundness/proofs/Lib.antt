pub mod Methods
pub mod ClassNumbers
pub mod InstructionOperands
pub mod Hierarchy
pub mod NamedMembers
pub mod MethodFlags
pub mod ChosenMethods
pub mod LiteralUnits
pub mod AcceptedPrograms
pub mod SoundLemmas
pub mod OrderlyLemmas
pub mod WaitLemmas
pub mod SoundnessLaws
pub mod Rooms
pub mod Programs
pub mod ClassLaws
pub mod BelowClasses
pub mod ThreadLaws
pub mod BuiltInWords
pub mod TypesGoUp
pub mod ElementTypes
pub mod ElementClasses
pub mod ElementWords
pub mod FieldFacts
pub mod FieldWords
pub mod OneContent
pub mod FixedRows
pub mod FixedFit
pub mod ObjectLaws
pub mod FieldConstants
pub mod FirstWords
pub mod Starts
pub mod StartLaws
pub mod TopClasses
mod ThreadClasses
pub mod StepFacts
mod SeenKnow
mod StepsSeen
mod StartsSeen
pub mod PriorityLaws
