-- How nodes are put in order: only private contracts cite this.
pub mod BreadthFirst
