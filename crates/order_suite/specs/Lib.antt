pub use Rattle.order_case.specs.of_order_report as of_order_report
