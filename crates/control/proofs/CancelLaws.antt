-- The cancellations of a pass as changes of status, one number after the other, and their count. Assumes nothing.
use mathlib.Core.Path.{◌≡◌, ap, ◌∙◌}
use mathlib.Core.Bool.{Bool, true, false, cond}
use mathlib.Core.List.{List, [], ◌∷◌}
use Prim.Native.Nat.{ℕ, ◌+◌, ◌≤◌, ◌<◌}
use native.Mathlib.Numerals.{add-one}
use native.Mathlib.Omega.{arith}
use lib.ListN.{length, get_or, take, length-take}
use lib.Seq.{take-suc}
use Rattle.numbers.specs.Sums.{total, count}
use Rattle.numbers.proofs.SumLaws.{total-append, count-le-length}
use Rattle.rules.specs.Entry.{Record, no_record, cancelled, record_in, entry_of}
use Rattle.rules.specs.Words.{is_book, entries, count_of}
use Rattle.rules.specs.Book.{entry_at}
use Rattle.rules.specs.Stores.{restatused}
use Rattle.rules.specs.Control.{Parties, is_to_cancel, cancel_of}
use Rattle.rules.specs.declared.Entry.{Entry}
use Rattle.rules.proofs.StatusLaws as status
use Rattle.rules.proofs.CancelLaws.{cancels}
use Rattle.words.proofs.BookCode.{Placed, book-entry}
use Rattle.control.specs.Passes.{cancelled_words}

pub count-few : (f : Record → Bool) (i : ℕ) (rs : List Record) → count f (take i rs) ≤ i
count-few f i rs = omega (arith, count-le-length f (take i rs), length-take i rs)

-- a book of which the first entries are through
abbrev pub Through : Parties → ℕ → List ℕ → ℕ → List ℕ → Type 0
Through who d = status.Through (is_to_cancel who d) cancelled

module _ (who : Parties) (d : ℕ) where
  pub count-more : (i : ℕ) (rs : List Record) → i < length rs → count (is_to_cancel who d) (take (i + 1) rs) ≡ count (is_to_cancel who d) (take i rs) + cond (is_to_cancel who d (get_or rs i no_record)) 1 0
  unfolding count total
  count-more i rs h =
      rw (add-one i, take-suc rs i no_record h)
      (omega (arith, total-append (λ r. cond (is_to_cancel who d r) 1 0) (take i rs) (get_or rs i no_record ∷ [])))

  module _ (ws : List ℕ) (b : is_book ws ≡ true) where
    pub through-none : Through who d ws 0 ws
    through-none = status.through-none (is_to_cancel who d) cancelled (cancels who d) ws b

    pub through-all : (i : ℕ) (vs : List ℕ) → count_of ws ≤ i → Through who d ws i vs → vs ≡ cancelled_words who d ws
    unfolding cancelled_words cancel_of
    through-all = status.through-all (is_to_cancel who d) cancelled (cancels who d) ws b

    module _ (i : ℕ) (h : i < count_of ws) (vs : List ℕ) (t : Through who d ws i vs) where
      pub through-book : (is_book vs ≡ true) × (i < count_of vs)
      through-book = status.through-book (is_to_cancel who d) cancelled (cancels who d) ws b i h vs t

      pub through-placed : Placed vs i
      through-placed = book-entry vs through-book.0 i through-book.1

      module _ (e : Entry) (q : e ≡ entry_of (entry_at vs i)) where
        pub through_read : record_in e ≡ get_or (entries ws) i no_record
        through_read = ap record_in q ∙ status.through-entry (is_to_cancel who d) cancelled (cancels who d) ws b i h vs t

        pub through-cancelled : {us : List ℕ} → is_to_cancel who d (record_in e) ≡ true → us ≡ restatused cancelled vs i → Through who d ws (i + 1) us
        through-cancelled y u = status.through-changed (is_to_cancel who d) cancelled (cancels who d) ws b i h vs t (rw through_read at y) u

        pub through-kept : is_to_cancel who d (record_in e) ≡ false → Through who d ws (i + 1) vs
        through-kept y = status.through-kept (is_to_cancel who d) cancelled (cancels who d) ws b i h vs t (rw through_read at y)
