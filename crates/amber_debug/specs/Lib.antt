pub mod AtHome
pub mod Session
pub use Rattle.amber_home.specs.HomeState
