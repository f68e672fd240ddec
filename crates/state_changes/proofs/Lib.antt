pub mod UndoLaws
pub mod Groups
pub mod JournalLaws
