-- A refusal as a sentence in English and in French, and back, in the order to read it. A reader must believe these definitions.
pub mod Words
pub mod English
pub mod French
pub mod Sentence
pub mod SheetOf
pub mod Answers
-- the pieces as the code has them
pub mod Pieces
pub mod Languages
