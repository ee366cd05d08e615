pub use Rattle.order_report.proofs as of_order_report
