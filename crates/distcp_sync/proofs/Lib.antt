mod Heard
mod Places
mod Spans
mod Did
mod Begun
mod Unmade
mod Fetches
mod Shown
mod Trees
mod OfTrees
mod Unplanned
mod Entered
mod Wrote
mod Firsts
mod CopiesWrote
mod EnteredMade
mod CopyChain
mod Written
mod WrittenCalls
mod WrittenMade
mod WrittenEnds
mod PlanFiles
mod Carried
mod Runs
mod Queued
pub mod SpanCalls
pub mod SpanOwn
pub mod Premised
pub mod DoneReads
pub mod DonePlan
mod Running
mod Beginnings
pub mod Replied
pub mod Started
pub mod DonePremises
pub mod DoneWorked
pub mod Done
mod EqualEnds
mod EqualStart
mod EqualMade
mod EqualTrees
mod Tries
mod CopiesSoFar
mod PageReplies
mod PageChains
mod PageContents
mod Gots
mod QueueSteps
mod FetchedTrees
mod FetchedParts
pub mod RenamedIds
