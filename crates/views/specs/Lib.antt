-- What the evaluators are given, and what they give.
pub mod Numbers
pub mod Scopes
pub mod Evaluated
pub mod Ends
-- rows written behind others
pub mod Copies
-- rows of basic and aggregate views
pub mod Selection
pub mod Grouping
