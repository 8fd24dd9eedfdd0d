-- What must be believed: the joining of two fragments, what it returns and means, and sentences that are taken apart; and what the inner functions are held to.
pub mod Join
pub mod Outcome
pub mod Bracketing
pub mod Meaning
pub mod Inner
