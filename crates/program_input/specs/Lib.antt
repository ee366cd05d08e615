pub use Rattle.list_input.specs as of_list_input
