-- What a test promises: it answers true exactly if the statement holds.
pub use Rattle.std.specs.Prelude.{Decides}
