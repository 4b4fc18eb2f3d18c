-- The calls that only read a book depend on nothing but its view. Assumes nothing.
use mathlib.Core.Path.{◌≡◌, sym, ap, ◌∙◌}
use mathlib.Core.Logic.{inl, inr}
use mathlib.Core.Bool.{true, false}
use mathlib.Core.List.{List, []}
use Prim.Native.Nat.{ℕ, ◌<◌}
use lib.Dec.{ltb}
use lib.ListN.{length, get_or}
use borrow.Author.Tests.{ltb-true}
use Rattle.numbers.proofs.TestLaws.{bool_cases}
use Rattle.rules.specs.Entry.{no_record}
use Rattle.rules.specs.Words.{is_book, count_of}
use Rattle.rules.specs.Book.{entry_at, count_cause, count_answer, read_cause, read_answer}
use Rattle.rules.specs.Balance.{Volume, party_day_cause, balance_answer, tally_answer}
use Rattle.rules.specs.Collateral.{collateral_cause, collateral_answer}
use Rattle.rules.specs.MonthReport.{month_report_cause, month_report}
use Rattle.case_figures.specs.declared.Case.{Case}
use Rattle.rules.proofs.BookLaws.{entry-at}
use Rattle.rules.proofs.LiftLaws.{SameView}
use Rattle.rules.proofs.CallLaws.{entries-count}

module _ {ws vs : List ℕ} (s : SameView ws vs) where
  -- one answer for words that are no book; for a book, its count, figures and entries
  by-book : {A : Type 0} (f : List ℕ → A) → ((us : List ℕ) → is_book us ≡ false → f us ≡ f []) → (is_book ws ≡ true → is_book vs ≡ true → f ws ≡ f vs) → f ws ≡ f vs
  by-book f none some =
      elim (bool_cases (is_book vs)) [
        | inl b ↦ some (s.is-book ∙ b) b
        | inr b ↦ none ws (s.is-book ∙ b) ∙ sym (none vs b)
      ]

  view-count : is_book vs ≡ true → count_of ws ≡ count_of vs
  view-count b = sym (entries-count ws) ∙ ap length (s.holds b) ∙ entries-count vs

  view-entry : is_book vs ≡ true → (n : ℕ) → n < count_of vs → entry_at ws n ≡ entry_at vs n
  view-entry b n h =
      entry-at ws n (rw (view-count b) h) ∙ ap (λ rs. get_or rs n no_record) (s.holds b) ∙ sym (entry-at vs n h)

  pub same_count : count_answer ws ≡ count_answer vs
  unfolding count_answer count_cause is_book
  same_count = by-book count_answer (λ us b. rw b) (λ b c. rw (b, c, view-count c))

  pub same-entry : (n : ℕ) → read_answer ws n ≡ read_answer vs n
  unfolding read_answer read_cause is_book
  same-entry n =
      by-book (λ us. read_answer us n) (λ us b. rw b)
      (λ b c.
      elim (bool_cases (ltb n (count_of vs))) [
        | inl l ↦ rw (b, c, view-count c, view-entry c n (ltb-true n (count_of vs) l))
        | inr l ↦ rw (b, c, view-count c, l)
      ])

  pub same-tally : (p d : ℕ) → tally_answer ws p d ≡ tally_answer vs p d
  unfolding tally_answer party_day_cause is_book
  same-tally p d = by-book (λ us. tally_answer us p d) (λ us b. rw b) (λ b c. rw (b, c, s.holds c))

  pub same-balance : (v : Volume) (p d : ℕ) → balance_answer v ws p d ≡ balance_answer v vs p d
  unfolding balance_answer party_day_cause is_book
  same-balance v p d =
      by-book (λ us. balance_answer v us p d) (λ us b. rw b)
      (λ b c. rw (b, c, s.coefficient c, s.tolerance c, s.holds c))

  pub same-collateral : (k : Case) → collateral_answer ws k ≡ collateral_answer vs k
  unfolding collateral_answer collateral_cause party_day_cause is_book
  same-collateral k = by-book (λ us. collateral_answer us k) (λ us b. rw b) (λ b c. rw (b, c, s.holds c))

  pub same-report : (m : ℕ) → month_report ws m ≡ month_report vs m
  unfolding month_report month_report_cause is_book
  same-report m = by-book (λ us. month_report us m) (λ us b. rw b) (λ b c. rw (b, c, s.holds c))
