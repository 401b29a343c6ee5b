mod Exactly
mod Names
mod Outcomes
mod FaultLemmas
mod GrammarLemmas
mod LayoutNames
mod Refusing
mod WordLists
