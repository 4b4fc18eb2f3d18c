-- The laws of the calendar, the table of the source, and the Gregorian rule.
pub mod MonthLaws
pub mod MonthTable
pub mod RuleLaws
