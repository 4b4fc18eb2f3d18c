-- A plain supplier's case, and a case with one figure changed (01, 'Collateral').
use Rattle.std.specs.Prelude.{List, ℕ, pos, replicate}
use Rattle.case_figures.specs.declared.Month.{Month}
use Rattle.case_figures.specs.declared.Asked.{Asked}
use Rattle.case_figures.specs.declared.Margin.{Margin}
use Rattle.case_figures.specs.declared.Trading.{Trading}
use Rattle.case_figures.specs.declared.Group.{Group}
use Rattle.case_figures.specs.declared.Yek.{Yek}
use Rattle.case_figures.specs.declared.Case.{Case}

-- a month answer whose figures are 0
abbrev pub no_month : Month
no_month = record { aosmf = 0; aedm = pos 0 }

-- a plain supplier's case: all figures 0, M 1, k 3, own group
abbrev pub plain_case : Case
plain_case =
    record {
      asked = record { party = 0; day = 0 };
      margin = record { licence = 0; capacity = 0 };
      trading = record { nonbusiness = 0; holiday = 0; defaults = 0 };
      group = record { responsible = 1; months = replicate 3 no_month; used = 0; rk = 0; rt = 0 };
      yek = record { yt = 0; score = 0; best = 1 };
    }

-- one group of figures changed
abbrev pub with_asked : Case → Asked → Case
with_asked c x = record { asked = x; margin = c.margin; trading = c.trading; group = c.group; yek = c.yek }

abbrev pub with_margin : Case → Margin → Case
with_margin c x = record { asked = c.asked; margin = x; trading = c.trading; group = c.group; yek = c.yek }

abbrev pub with_trading : Case → Trading → Case
with_trading c x = record { asked = c.asked; margin = c.margin; trading = x; group = c.group; yek = c.yek }

abbrev pub with_group : Case → Group → Case
with_group c x = record { asked = c.asked; margin = c.margin; trading = c.trading; group = x; yek = c.yek }

abbrev pub with_yek : Case → Yek → Case
with_yek c x = record { asked = c.asked; margin = c.margin; trading = c.trading; group = c.group; yek = x }

-- one figure changed
abbrev pub with_party : Case → ℕ → Case
with_party c x = with_asked c (record { party = x; day = c.asked.day })

abbrev pub with_day : Case → ℕ → Case
with_day c x = with_asked c (record { party = c.asked.party; day = x })

abbrev pub with_licence : Case → ℕ → Case
with_licence c x = with_margin c (record { licence = x; capacity = c.margin.capacity })

abbrev pub with_capacity : Case → ℕ → Case
with_capacity c x = with_margin c (record { licence = c.margin.licence; capacity = x })

abbrev pub with_nonbusiness : Case → ℕ → Case
with_nonbusiness c x = with_trading c (record { nonbusiness = x; holiday = c.trading.holiday; defaults = c.trading.defaults })

abbrev pub with_holiday : Case → ℕ → Case
with_holiday c x = with_trading c (record { nonbusiness = c.trading.nonbusiness; holiday = x; defaults = c.trading.defaults })

abbrev pub with_defaults : Case → ℕ → Case
with_defaults c x = with_trading c (record { nonbusiness = c.trading.nonbusiness; holiday = c.trading.holiday; defaults = x })

abbrev pub with_responsible : Case → ℕ → Case
with_responsible c x = with_group c (record { responsible = x; months = c.group.months; used = c.group.used; rk = c.group.rk; rt = c.group.rt })

abbrev pub with_months : Case → List Month → Case
with_months c x = with_group c (record { responsible = c.group.responsible; months = x; used = c.group.used; rk = c.group.rk; rt = c.group.rt })

abbrev pub with_used : Case → ℕ → Case
with_used c x = with_group c (record { responsible = c.group.responsible; months = c.group.months; used = x; rk = c.group.rk; rt = c.group.rt })

abbrev pub with_rk : Case → ℕ → Case
with_rk c x = with_group c (record { responsible = c.group.responsible; months = c.group.months; used = c.group.used; rk = x; rt = c.group.rt })

abbrev pub with_rt : Case → ℕ → Case
with_rt c x = with_group c (record { responsible = c.group.responsible; months = c.group.months; used = c.group.used; rk = c.group.rk; rt = x })

abbrev pub with_yt : Case → ℕ → Case
with_yt c x = with_yek c (record { yt = x; score = c.yek.score; best = c.yek.best })

abbrev pub with_score : Case → ℕ → Case
with_score c x = with_yek c (record { yt = c.yek.yt; score = x; best = c.yek.best })

abbrev pub with_best : Case → ℕ → Case
with_best c x = with_yek c (record { yt = c.yek.yt; score = c.yek.score; best = x })
