pub use Rattle.order_report.specs as of_order_report
