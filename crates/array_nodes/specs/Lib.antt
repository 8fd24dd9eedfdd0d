-- What must be believed of the nodes of a double array. How they are gathered is in Gathering.
pub mod Nodes
pub mod Gathering
