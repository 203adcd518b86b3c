pub mod Layout
pub mod Numbers
pub mod TzGrammar
pub mod TzSound
pub mod TzComplete
