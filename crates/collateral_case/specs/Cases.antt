-- A collateral case by its figures, in the order of the C call (01, 'Collateral').
use Rattle.std.specs.Prelude.{[], ◌∷◌, ℕ, ℤ}
use Rattle.case_figures.specs.declared.Month.{Month}
use Rattle.case_figures.specs.declared.Case.{Case}

abbrev pub month_of : ℕ → ℤ → Month
month_of aosmf aedm = record { aosmf = aosmf; aedm = aedm }

-- party, day; licence, capacity; h, before a holiday, t; responsible, three months (AOSMF, AEDM), latest first, n, RK, RT; YT, T, M
abbrev pub case_of : ℕ → ℕ → ℕ → ℕ → ℕ → ℕ → ℕ → ℕ → ℕ → ℤ → ℕ → ℤ → ℕ → ℤ → ℕ → ℕ → ℕ → ℕ → ℕ → ℕ → Case
case_of party day licence capacity nonbusiness holiday defaults responsible aosmf1 aedm1 aosmf2 aedm2 aosmf3 aedm3 used rk rt yt score best =
    record {
      asked = record { party = party; day = day };
      margin = record { licence = licence; capacity = capacity };
      trading = record { nonbusiness = nonbusiness; holiday = holiday; defaults = defaults };
      group =
          record {
            responsible = responsible;
            months = month_of aosmf1 aedm1 ∷ month_of aosmf2 aedm2 ∷ month_of aosmf3 aedm3 ∷ [];
            used = used;
            rk = rk;
            rt = rt;
          };
      yek = record { yt = yt; score = score; best = best };
    }
