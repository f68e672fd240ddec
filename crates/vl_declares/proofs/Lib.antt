pub mod Adding
mod ItemByItem
mod PlainItems
mod PortByPort
