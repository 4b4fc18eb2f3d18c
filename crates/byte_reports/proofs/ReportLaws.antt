-- Collateral and the month report depend on a book's view alone: on the words that the code reads each is that on the bytes. Assumes nothing.
use mathlib.Core.Path.{◌≡◌, refl}
use mathlib.Core.List.{List}
use Prim.Native.Nat.{ℕ}
use Rattle.rules.specs.Refusals.{not_a_book}
use Rattle.rules.specs.Words.{is_book}
use Rattle.rules.specs.Balance.{party_day_cause}
use Rattle.rules.specs.Collateral.{refused_collateral, collateral_cause, collateral_answer}
use Rattle.rules.specs.MonthReport.{refused_report, month_report_cause, month_report}
use Rattle.case_figures.specs.declared.Case.{Case}
use Rattle.rules.proofs.ReadLaws.{same-collateral, same-report}
use Rattle.word_bytes.specs.Bytes.{on_words}
use Rattle.word_bytes.proofs.CallLaws.{words_read, on-view}

module _ (bs : List ℕ) where
  pub on-collateral : (c : Case) → collateral_answer (words_read 0 bs) c ≡ on_words bs (λ us. collateral_answer us c) (refused_collateral not_a_book)
  unfolding is_book party_day_cause collateral_cause collateral_answer
  on-collateral c = on-view 0 bs (λ us. collateral_answer us c) (λ us vs s. same-collateral s c) refl

  pub on-report : (m : ℕ) → month_report (words_read 0 bs) m ≡ on_words bs (λ us. month_report us m) (refused_report not_a_book)
  unfolding is_book month_report_cause month_report
  on-report m = on-view 0 bs (λ us. month_report us m) (λ us vs s. same-report s m) refl
