pub use Rattle.order_suite.specs.of_order_report as of_order_report
