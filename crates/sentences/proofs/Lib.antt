-- The laws of sentences, lowest first.
-- number and line from the sentence alone
pub mod FiguresBack
pub mod SentenceBack
pub mod Examples
-- what is put into buffers
pub mod LineLaws
pub mod PieceLaws
pub mod FigureLaws
pub mod SaidLaws
pub mod RoomLaws
-- the sheet
pub mod SheetLaws
