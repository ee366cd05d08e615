pub use Rattle.lister.specs.of_escape as of_escape
pub use Rattle.lister.specs as of_lister
