-- What must be believed of the filled list: a model with rows added, and the filled list itself. Next and Found are cited by the contracts of inner functions alone.
pub mod Added
pub mod Filled
pub mod Next
pub mod Found
