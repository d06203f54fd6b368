mod LiteralLaws
mod SignLaws
mod Machine
mod Sound
mod Simulated
mod Reached
mod MeasureLaws
pub mod BuildLaws
mod PrintLaws
mod EndLaws
mod ReadLaws
