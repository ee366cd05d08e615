pub mod PublicMachine
