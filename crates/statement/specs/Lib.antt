-- Definitions: a machine, and what is asked of it.
pub mod Machine
pub mod Demand3
pub mod Companions
pub mod Looks
pub mod Frame
pub mod FreeSlot
pub mod NeverShared
pub mod Quiescent
-- What gives them: an invariant that each step keeps; another machine that is alike.
pub mod KeptInvariant
pub mod Alike
-- Examples that name no kind, and what refutes a store.
pub mod Examples
pub mod Precedence
pub mod DamageCases
pub mod Refute
