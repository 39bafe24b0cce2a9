mod TurnLemmas
mod WorldWalkLemmas
