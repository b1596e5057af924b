pub mod EndSteps
pub mod PeerSteps
pub mod Plan
pub mod Sound
