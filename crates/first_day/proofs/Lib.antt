-- Laws of first days; the folder holds the proof of the call.
pub mod FirstDayLaws
