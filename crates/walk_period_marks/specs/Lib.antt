pub mod PeriodMarked
