-- A change of status where a test holds: on records, and on a book's words as single stores, one number after the other. Assumes nothing.
use mathlib.Core.Path.{◌≡◌, refl, sym, ap, ◌∙◌}
use mathlib.Core.Logic.{inl, inr}
use mathlib.Core.Bool.{Bool, true, false, cond}
use mathlib.Core.List.{List, [], ◌∷◌}
use Prim.Native.Nat.{ℕ, zero, suc, ◌+◌, ◌≤◌, ◌<◌}
use native.Mathlib.Numerals.{add-one}
use native.Mathlib.Omega.{arith}
use lib.ListN.{length, get_or, set}
use lib.Seq.{set-get_or}
use Rattle.numbers.specs.Tests.{all}
use Rattle.numbers.proofs.TestLaws.{bool_cases, and_split, and-join}
use Rattle.rules.specs.Entry.{Record, no_record, with_status, status_where, legal}
use Rattle.rules.specs.Words.{is_book, entries, count_of, coefficient_of, tolerance_of, laid}
use Rattle.rules.specs.Book.{entry_at}
use Rattle.rules.specs.Stores.{restatused}
use Rattle.rules.proofs.WordLaws.{Fits, laid-book, book-facts, book-laid}
use Rattle.rules.proofs.BookLaws.{entry_at-laid, restatused-laid}

-- a change of status is made on standing records, and leaves legal ones legal
pub record Changes (test : Record → Bool) (s : ℕ) : Type 0 where
  pub stands : (r : Record) → test r ≡ true → r.label.status ≡ 0
  pub keeps : (r : Record) → legal r ≡ true → test r ≡ true → legal (with_status s r) ≡ true

-- what one record becomes
abbrev pub change_one : (Record → Bool) → ℕ → Record → Record
change_one test s r = cond (test r) (with_status s r) r

-- the first records as the change leaves them, the others as they were
unfoldable pub partly : (Record → Bool) → ℕ → ℕ → List Record → List Record
partly test s zero rs = rs
partly test s (suc i) [] = []
partly test s (suc i) (r ∷ rs) = change_one test s r ∷ partly test s i rs

-- a book of which the first entries are through
abbrev pub Through : (Record → Bool) → ℕ → List ℕ → ℕ → List ℕ → Type 0
Through test s ws i vs = vs ≡ laid (coefficient_of ws) (tolerance_of ws) (partly test s i (entries ws)) ws

module _ (test : Record → Bool) (s : ℕ) where
  pub where-length : (rs : List Record) → length (status_where test s rs) ≡ length rs
  unfolding status_where
  where-length [] = refl
  where-length (r ∷ rs) = ap suc (where-length rs)

  partly-all : (rs : List Record) (i : ℕ) → length rs ≤ i → partly test s i rs ≡ status_where test s rs
  unfolding partly status_where
  partly-all [] zero h = refl
  partly-all [] (suc i) h = refl
  partly-all (r ∷ rs) zero h = absurd (omega arith)
  partly-all (r ∷ rs) (suc i) h = ap (λ ss. change_one test s r ∷ ss) (partly-all rs i (omega arith))

  partly-length : (i : ℕ) (rs : List Record) → length (partly test s i rs) ≡ length rs
  unfolding partly
  partly-length zero rs = refl
  partly-length (suc i) [] = refl
  partly-length (suc i) (r ∷ rs) = ap suc (partly-length i rs)

  partly-at : (i : ℕ) (rs : List Record) → get_or (partly test s i rs) i no_record ≡ get_or rs i no_record
  unfolding partly
  partly-at zero rs = refl
  partly-at (suc i) [] = refl
  partly-at (suc i) (r ∷ rs) = partly-at i rs

  partly_more : (i : ℕ) (rs : List Record) → i < length rs → partly test s (suc i) rs ≡ set (partly test s i rs) i (change_one test s (get_or rs i no_record))
  unfolding partly
  partly_more i [] h = absurd (omega arith)
  partly_more zero (r ∷ rs) h = refl
  partly_more (suc i) (r ∷ rs) h = ap (λ ss. change_one test s r ∷ ss) (partly_more i rs (omega arith))

  module _ (changes : Changes test s) where
    pub one-legal : (r : Record) → legal r ≡ true → legal (change_one test s r) ≡ true
    one-legal r l = elim (bool_cases (test r)) [ inl e ↦ rw e (changes.keeps r l e) | inr e ↦ rw e l ]

    pub where-legals : (rs : List Record) → all legal rs ≡ true → all legal (status_where test s rs) ≡ true
    unfolding status_where all
    where-legals [] e = refl
    where-legals (r ∷ rs) e =
        let t = and_split (legal r) (all legal rs) e in
        and-join _ _ (one-legal r t.0) (where-legals rs t.1)

    partly-legal : (i : ℕ) (rs : List Record) → all legal rs ≡ true → all legal (partly test s i rs) ≡ true
    unfolding partly all
    partly-legal zero rs e = e
    partly-legal (suc i) [] e = refl
    partly-legal (suc i) (r ∷ rs) e =
        let t = and_split (legal r) (all legal rs) e in
        and-join _ _ (one-legal r t.0) (partly-legal i rs t.1)

    module _ (ws : List ℕ) (b : is_book ws ≡ true) where
      pub partly-fits : (i : ℕ) → Fits (coefficient_of ws) (tolerance_of ws) (partly test s i (entries ws)) ws
      partly-fits i =
          let f = book-facts ws b in
          record {
            legals = partly-legal i (entries ws) f.legals;
            coefficient = f.coefficient;
            tolerance = f.tolerance;
            long = f.long;
            room = rw (partly-length i (entries ws), f.count) f.room;
          }

      pub through-none : Through test s ws 0 ws
      unfolding partly
      through-none = book-laid ws b

      pub through-all : (i : ℕ) (vs : List ℕ) → count_of ws ≤ i → Through test s ws i vs → vs ≡ laid (coefficient_of ws) (tolerance_of ws) (status_where test s (entries ws)) ws
      through-all i vs h t = t ∙ ap (λ rs. laid (coefficient_of ws) (tolerance_of ws) rs ws) (partly-all (entries ws) i (omega (arith, (book-facts ws b).count)))

      pub through-length : (i : ℕ) (vs : List ℕ) → Through test s ws i vs → length vs ≡ length ws
      through-length i vs t = ap length t ∙ (laid-book (partly-fits i)).long

      module _ (i : ℕ) (h : i < count_of ws) (vs : List ℕ) (t : Through test s ws i vs) where
        pub in-entries : i < length (entries ws)
        in-entries = rw (book-facts ws b).count h

        pub through-book : (is_book vs ≡ true) × (i < count_of vs)
        through-book =
            let l = laid-book (partly-fits i) in
            (ap is_book t ∙ l.is-book, rw (ap count_of t ∙ l.count ∙ partly-length i (entries ws)) in-entries)

        -- the next entry is as it was
        pub through-entry : entry_at vs i ≡ get_or (entries ws) i no_record
        through-entry =
            ap (λ us. entry_at us i) t
            ∙ entry_at-laid (partly-fits i) i (rw (partly-length i (entries ws)) in-entries)
            ∙ partly-at i (entries ws)

        pub through-changed : {us : List ℕ} → test (get_or (entries ws) i no_record) ≡ true → us ≡ restatused s vs i → Through test s ws (i + 1) us
        through-changed z u =
            u
            ∙ ap (λ us. restatused s us i) t
            ∙ restatused-laid s (coefficient_of ws) (tolerance_of ws) (partly test s i (entries ws)) ws i
            (rw (partly-length i (entries ws)) in-entries)
            (ap (λ r. r.label.status) (partly-at i (entries ws)) ∙ changes.stands (get_or (entries ws) i no_record) z)
            ∙ ap (λ rs. laid (coefficient_of ws) (tolerance_of ws) rs ws)
            (sym (rw (add-one i) (partly_more i (entries ws) in-entries ∙ rw (z, partly-at i (entries ws)))))

        pub through-kept : test (get_or (entries ws) i no_record) ≡ false → Through test s ws (i + 1) vs
        through-kept z =
            t
            ∙ ap (λ rs. laid (coefficient_of ws) (tolerance_of ws) rs ws)
            (sym (rw (add-one i) (partly_more i (entries ws) in-entries
            ∙ rw (z, ← partly-at i (entries ws)) (set-get_or (partly test s i (entries ws)) i no_record))))
