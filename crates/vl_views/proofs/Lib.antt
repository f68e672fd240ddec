pub mod ItemViews
pub mod PlainItems
