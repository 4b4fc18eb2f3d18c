-- What a call answers and leaves, by the cause that it found. Assumes nothing.
use mathlib.Core.Path.{◌≡◌, sym, ap, ap₂, ◌∙◌}
use mathlib.Core.Bool.{true}
use mathlib.Core.List.{List}
use Prim.Native.Nat.{ℕ, ◌≤◌, ◌<◌}
use lib.ListN.{length}
use Rattle.rules.specs.Entry.{Key, record_of, legal, standing, withdrawn}
use Rattle.rules.specs.Words.{count_of, room_in}
use Rattle.rules.specs.Stores.{posted, restatused}
use Rattle.rules.specs.Calls.{post, withdraw, figures_on, cause_of, words_after, post_answer}
use Rattle.rules.specs.declared.Posted.{Posted}
use Rattle.rules.proofs.WordLaws.{book-facts}
use Rattle.rules.proofs.BookLaws.{new-legal}
use Rattle.rules.proofs.CallLaws.{entries-count, refused-words, refused-figures, done-figures, post-passes, withdraw-passes, post-stores, withdraw-stores}
use Rattle.words.proofs.BookCode.{Placed, book-entry}

abbrev answered : ℕ → ℕ → Posted
answered cause number = record { answer = cause; number = number }

module _ (ws : List ℕ) (k : Key) (a : ℕ) {cause : ℕ} (e : cause ≡ cause_of ws (post k a)) where
  pub post-refuses : (cause ≡ 0 → ⊥) → (answered cause 0 ≡ post_answer ws k a) × (ws ≡ words_after ws (post k a))
  post-refuses h =
      let n : cause_of ws (post k a) ≡ 0 → ⊥ = λ q. h (e ∙ q) in
      (ap₂ answered e (ap (λ f. f.number) (sym (refused-figures ws (post k a) n))), sym (refused-words ws (post k a) n))

  module _ (z : cause ≡ 0) where
    done : cause_of ws (post k a) ≡ 0
    done = sym e ∙ z

    -- a new entry has a place and may stand there
    pub post-long : 3 ≤ length ws
    post-long = (book-facts ws (post-passes ws k a done).is-book).long

    pub post-room : count_of ws < room_in (length ws)
    post-room = (post-passes ws k a done).room

    pub post-legal : legal (record_of k standing a) ≡ true
    post-legal = new-legal k a (post-passes ws k a done).faultless

    pub post-answers : {n : ℕ} → n ≡ count_of ws → answered 0 n ≡ post_answer ws k a
    unfolding figures_on
    post-answers q =
        ap₂ answered (sym done) (q ∙ sym (entries-count ws) ∙ ap (λ f. f.number) (sym (done-figures ws (post k a) done)))

    pub post-leaves : {vs : List ℕ} → vs ≡ posted ws k a → vs ≡ words_after ws (post k a)
    post-leaves s = s ∙ sym (post-stores ws k a done)

module _ (ws : List ℕ) (n : ℕ) {cause : ℕ} (e : cause ≡ cause_of ws (withdraw n)) where
  pub withdraw-refuses : (cause ≡ 0 → ⊥) → (cause ≡ cause_of ws (withdraw n)) × (ws ≡ words_after ws (withdraw n))
  withdraw-refuses h = (e, sym (refused-words ws (withdraw n) (λ q. h (e ∙ q))))

  pub withdraw-place : cause ≡ 0 → Placed ws n
  withdraw-place z =
      let p = withdraw-passes ws n (sym e ∙ z) in
      book-entry ws p.is-book n p.is-entry

  pub withdraw-leaves : cause ≡ 0 → {vs : List ℕ} → vs ≡ restatused withdrawn ws n → (0 ≡ cause_of ws (withdraw n)) × (vs ≡ words_after ws (withdraw n))
  withdraw-leaves z s = (sym z ∙ e, s ∙ sym (withdraw-stores ws n (sym e ∙ z)))
