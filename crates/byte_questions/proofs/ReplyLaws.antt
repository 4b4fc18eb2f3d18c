-- The answers to questions about a book depend on its view alone: on the words that the code reads each is that on the bytes. Assumes nothing.
use mathlib.Core.Path.{◌≡◌, refl}
use mathlib.Core.Bool.{false}
use mathlib.Core.List.{List}
use Prim.Native.Nat.{ℕ}
use lib.IntN.{pos}
use Rattle.rules.specs.Refusals.{not_a_book}
use Rattle.rules.specs.Words.{is_book}
use Rattle.rules.specs.Book.{count_cause, count_answer, no_read, read_cause, read_answer}
use Rattle.rules.specs.Balance.{Volume, no_tally, party_day_cause, tally_answer, balance_answer}
use Rattle.rules.proofs.ReadLaws.{same_count, same-entry, same-tally, same-balance}
use Rattle.word_bytes.specs.Bytes.{on_words}
use Rattle.word_bytes.proofs.CallLaws.{words_read, on-view}

-- each answer on the words read
pub record OnReply (bs : List ℕ) : Type 0 where
  pub book : is_book (words_read 0 bs) ≡ on_words bs is_book false
  pub count : count_answer (words_read 0 bs) ≡ on_words bs count_answer (record { answer = not_a_book; count = 0 })
  pub entry : (n : ℕ) → read_answer (words_read 0 bs) n ≡ on_words bs (λ ws. read_answer ws n) (no_read not_a_book)
  pub tally : (p d : ℕ) → tally_answer (words_read 0 bs) p d ≡ on_words bs (λ ws. tally_answer ws p d) (record { answer = not_a_book; tally = no_tally; bought = 0 })
  pub balance : (v : Volume) (p d : ℕ) → balance_answer v (words_read 0 bs) p d ≡ on_words bs (λ ws. balance_answer v ws p d) (record { answer = not_a_book; balance = pos 0 })

pub on-reply : (bs : List ℕ) → OnReply bs
unfolding is_book count_cause count_answer read_cause read_answer party_day_cause tally_answer balance_answer
on-reply bs =
    record {
      book = on-view 0 bs is_book (λ us vs s. s.is-book) refl;
      count = on-view 0 bs count_answer (λ us vs s. same_count s) refl;
      entry = λ n. on-view 0 bs (λ ws. read_answer ws n) (λ us vs s. same-entry s n) refl;
      tally = λ p d. on-view 0 bs (λ ws. tally_answer ws p d) (λ us vs s. same-tally s p d) refl;
      balance = λ v p d. on-view 0 bs (λ ws. balance_answer v ws p d) (λ us vs s. same-balance s v p d) refl;
    }
