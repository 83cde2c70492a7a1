-- What a function that writes a text leaves: text's.
pub use Rattle.text.specs.Put.{Put}
