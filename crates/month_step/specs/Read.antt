-- The tables that lie in words or in bytes (01, 'Month step').
use Rattle.std.specs.Prelude.{List, ℕ, ℤ}
use Rattle.rules.specs.Month.{Tables, tables_of}
use Rattle.month_step.specs.declared.tables.MonthTables.{MonthTables}

abbrev pub read : {P V : Type 0} → (P → List ℕ) → (V → List ℤ) → MonthTables P V → Tables
read p v m = tables_of (p m.prices) (v m.imbalance) m.rows (v m.dm) m.group
