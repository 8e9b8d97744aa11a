-- What text is a file, and what is answered: in the order of document 01. A reader must believe these definitions.
-- prefix forms, written and read
pub mod Prefix
pub mod Reading
-- frames in turn, to a file or its refusal
pub mod Draft
pub mod Frames
pub mod Check
pub mod FileOf
-- a file written out, and what is asked of it
pub mod Written
pub mod Legal
-- the refusals by their conditions
pub mod Refused
-- what is answered: a look at a text, and the program's output with its reader
pub mod LookOf
pub mod OutputOf
pub mod Told
