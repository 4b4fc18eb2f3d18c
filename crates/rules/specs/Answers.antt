-- The answers of calls as C has them, out of results: on a refusal its number, and the other figures are zero.
use Rattle.std.specs.Prelude.{Bool, cond, Result, Ok, Err, ℕ, ℤ, pos}
use Rattle.case_figures.specs.declared.Month.{Month}
use Rattle.rules.specs.Entry.{record_in}
use Rattle.rules.specs.Refusals.{number_of, answer_of}
use Rattle.rules.specs.Balance.{no_tally}
use Rattle.rules.specs.Book.{no_read, read_of}
use Rattle.rules.specs.Collateral.{refused_collateral}
use Rattle.rules.specs.declared.refusal.Refusal.{Refusal}
use Rattle.rules.specs.declared.Entry.{Entry}
use Rattle.rules.specs.declared.PartyDay.{PartyDay}
use Rattle.rules.specs.declared.Counts.{Counts}
use Rattle.rules.specs.declared.Items.{Items}
use Rattle.rules.specs.declared.Posted.{Posted}
use Rattle.rules.specs.declared.Counted.{Counted}
use Rattle.rules.specs.declared.EntryRead.{EntryRead}
use Rattle.rules.specs.declared.TallyAnswer.{TallyAnswer}
use Rattle.rules.specs.declared.BalanceAnswer.{BalanceAnswer}
use Rattle.rules.specs.declared.MonthAnswer.{MonthAnswer}
use Rattle.rules.specs.declared.CeilingAnswer.{CeilingAnswer}
use Rattle.rules.specs.declared.FirstDayAnswer.{FirstDayAnswer}
use Rattle.rules.specs.declared.Controlled.{Controlled}
use Rattle.rules.specs.declared.FileRead.{FileRead}
use Rattle.rules.specs.declared.Collateral.{Collateral}

-- the figure of a result, or another in its place
abbrev pub figure_or : {A : Type 0} → A → Result A Refusal → A
figure_or other (Ok x) = x
figure_or other (Err e) = other

abbrev pub posted_of : Result ℕ Refusal → Posted
posted_of r = record { answer = answer_of r; number = figure_or 0 r }

abbrev pub counted_of : Result ℕ Refusal → Counted
counted_of r = record { answer = answer_of r; count = figure_or 0 r }

abbrev pub first_day_answer_of : Result ℕ Refusal → FirstDayAnswer
first_day_answer_of r = record { answer = answer_of r; day = figure_or 0 r }

abbrev pub file_read_of : Result ℕ Refusal → FileRead
file_read_of r = record { answer = answer_of r; posted = figure_or 0 r }

abbrev pub balance_answer_of : Result ℤ Refusal → BalanceAnswer
balance_answer_of r = record { answer = answer_of r; balance = figure_or (pos 0) r }

abbrev pub ceiling_answer_of : Result Bool Refusal → CeilingAnswer
ceiling_answer_of (Ok fits) = record { answer = 0; recordable = cond fits 1 0 }
ceiling_answer_of (Err e) = record { answer = number_of e; recordable = 0 }

abbrev pub entry_read_of : Result Entry Refusal → EntryRead
entry_read_of (Ok e) = read_of (record_in e)
entry_read_of (Err e) = no_read (number_of e)

abbrev pub tally_answer_of : Result PartyDay Refusal → TallyAnswer
tally_answer_of (Ok d) = record { answer = 0; tally = d.tally; bought = d.bought }
tally_answer_of (Err e) = record { answer = number_of e; tally = no_tally; bought = 0 }

abbrev pub month_answer_of : Result Month Refusal → MonthAnswer
month_answer_of (Ok m) = record { answer = 0; month = m }
month_answer_of (Err e) = record { answer = number_of e; month = record { aosmf = 0; aedm = pos 0 } }

abbrev pub controlled_of : Result Counts Refusal → Controlled
controlled_of (Ok n) = record { answer = 0; first = n.first; second = n.second; cancelled = n.cancelled }
controlled_of (Err e) = record { answer = number_of e; first = 0; second = 0; cancelled = 0 }

abbrev pub collateral_answer_of : Result Items Refusal → Collateral
collateral_answer_of (Ok i) =
    record { answer = 0; margin = i.margin; trading = i.trading; imbalance = i.imbalance; risk = i.risk; yek = i.yek; total = i.total }
collateral_answer_of (Err e) = refused_collateral (number_of e)
