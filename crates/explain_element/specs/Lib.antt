pub use Rattle.explain_name.specs.of_area as of_area
pub use Rattle.explain_name.specs.of_digits as of_digits
pub use Rattle.explain_name.specs.of_explain_text as of_explain_text
pub use Rattle.explain_name.specs.of_list_text as of_list_text
pub use Rattle.explain_name.specs.of_names as of_names
pub use Rattle.explain_name.specs.of_refusal as of_refusal
