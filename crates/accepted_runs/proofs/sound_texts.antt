mod StringClasses
mod TextsKnow
mod Changes
mod PlainSteps
mod Outcomes
mod StepsTexts
mod StartsTexts
mod Values
mod Readings
pub mod Whole
