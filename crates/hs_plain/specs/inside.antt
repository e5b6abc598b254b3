-- For proofs and private contracts alone: no reader need believe what stands here.
pub mod Answers
pub mod Cuts
pub mod Faults
pub mod Ordered
pub mod Places
pub mod PlanCalls
pub mod Ranks
pub mod Ticks
