-- What is promised of an older copy holds of every copy whose limits are not above today's (02, T-06 and T-02). Assumes nothing.
use mathlib.Core.Path.{◌≡◌, refl, sym, ap, ◌∙◌}
use mathlib.Core.Logic.{inl, inr, ◌≢◌}
use mathlib.Core.Bool.{Bool, true, false, not, ◌&&◌, true≢false}
use mathlib.Core.List.{List, [], ◌∷◌, ◌++◌, map}
use Prim.Native.Nat.{ℕ, zero, suc, ◌+◌, ◌*◌, ◌≤◌, ◌<◌}
use native.Mathlib.Omega.{arith}
use lib.Dec.{eqb}
use lib.ListN.{length, drop}
use lib.Seq.{get_or-drop}
use borrow.Author.Tests.{eqb-true, eqb-false, leb-true, le-leb, le-ltb, ne_eqb, not-true}
use Rattle.numbers.specs.Sums.{total}
use Rattle.numbers.specs.Tests.{all}
use Rattle.numbers.specs.Causes.{first_of, if_done}
use Rattle.numbers.proofs.TestLaws.{bool_cases, and_split, and-join, all_append, all_get_d}
use Rattle.rules.specs.Entry.{Key, Record, key_of, no_record, key, is_money, party_ok, day_ok}
use Rattle.rules.specs.Words.{low_amounts, value_at, decode, is_book, entries, count_of, coefficient_of, tolerance_of}
use Rattle.rules.specs.Book.{place_of, entry_at, count_cause, count_answer, read_cause, read_answer}
use Rattle.rules.specs.Balance.{Volume, day_ahead, delivery, sum_of, bought_by, tally_of, no_tally, acquired, program_used, sale_side, cover_side, balance_of, party_day_cause, balance_answer, tally_answer}
use Rattle.rules.specs.Balance as balances
use Rattle.rules.specs.Collateral.{collateral_cause, collateral_answer}
use Rattle.rules.specs.Control.{detected_in}
use Rattle.rules.specs.DayFile.{Item, line, is_file, items, item_cause}
use Rattle.rules.specs.Machine.{figures_of, leaves_of}
use Rattle.rules.specs.Calls.{Change, post, withdraw, control, file, no_figures, book_machine, cause_of, figures_at, words_after}
use Rattle.rules.specs.declared.Tally.{Tally}
use Rattle.rules.proofs.Limits.{counted-cases}
use Rattle.rules.proofs.BookLaws.{entry-at}
use Rattle.rules.proofs.CallLaws.{entries-count}
use Rattle.former.specs.Former.{Copy, until06, until02, present, limit_by, is_book_by, is_file_by, refusal_by, machine_by, tally_of_by, no_tally_by, cover_side_by, formula_by, balance_on, detected_by, asked_by, balance_by, tally_by, case_cause_by, collateral_by, count_cause_by, count_by, read_cause_by, entry_by}
use Rattle.former.specs.Promise.{known_by, in_item, in_call, type_fits, amount_fits, record_fits, narrow_by, grown, Stays, ReadsAlike, ActsAlike, RefusesAll, Promise}
use Rattle.former.proofs.CopyLaws.{Older, until06-older, until02-older, none_stays, limit-carried, book-by, book-now, file-by, cause-fits, cause-kept, post-unknown, file-unknown, file-faultless, amounts-now, same-book, same-cause, all_known, all_known_lem, present-book, present-cause}

-- sum 22 of records without the type is 0
no-updates : (p d : ℕ) (rs : List Record) → all_known false rs ≡ true → sum_of p d 22 rs ≡ 0
unfolding sum_of total all
no-updates p d [] e = refl
no-updates p d (r ∷ rs) e =
    let s = and_split (known_by false (key r).type) (all_known false rs) e in
    elim (counted-cases p d 22 r) [
      | inl z ↦ rw (z, no-updates p d rs s.1)
      | inr c ↦ absurd (eqb-false (key r).type 22 (not-true _ s.0) c.0.type)
    ]

-- the sums and sides of a copy's balances over records whose types it knows; those of the day-ahead over all
tally-alike : (u : Bool) (p d : ℕ) (rs : List Record) → all_known u rs ≡ true → grown u (tally_of_by u p d rs) ≡ tally_of p d rs
unfolding tally_of_by tally_of
tally-alike true p d rs e = refl
tally-alike false p d rs e = rw (no-updates p d rs e)

sale-alike : (u : Bool) (v : Volume) (p d : ℕ) (rs : List Record) → sale_side v (tally_of_by u p d rs) ≡ sale_side v (tally_of p d rs)
unfolding sale_side tally_of_by tally_of total
sale-alike true v p d rs = refl
sale-alike false delivery p d rs = refl
sale-alike false day_ahead p d rs = refl

cover-ahead : (u : Bool) (p d B : ℕ) (rs : List Record) → cover_side_by u day_ahead (tally_of_by u p d rs) B ≡ cover_side day_ahead (tally_of p d rs) B
unfolding cover_side_by cover_side program_used acquired tally_of_by tally_of total
cover-ahead true p d B rs = refl
cover-ahead false p d B rs = omega arith

cover-alike : (u : Bool) (v : Volume) (p d B : ℕ) (rs : List Record) → all_known u rs ≡ true → cover_side_by u v (tally_of_by u p d rs) B ≡ cover_side v (tally_of p d rs) B
unfolding cover_side_by cover_side program_used acquired tally_of_by tally_of total
cover-alike true v p d B rs e = refl
cover-alike false delivery p d B rs e = omega (arith, no-updates p d rs e)
cover-alike false day_ahead p d B rs e = cover-ahead false p d B rs

balance-of : (u : Bool) (v : Volume) (R TM p d : ℕ) (rs : List Record) → cover_side_by u v (tally_of_by u p d rs) (bought_by p d rs) ≡ cover_side v (tally_of p d rs) (bought_by p d rs) →
    balance_on u v R TM p d rs ≡ balances.balance v R TM p d rs
unfolding balance_on formula_by balances.balance balance_of
balance-of u v R TM p d rs e = rw (sale-alike u v p d rs, e)

-- words that a copy and today's take alike, for a book or for none, are read alike
tally-done : (u : Bool) (k : ℕ) (t : Tally) → grown u (if_done k t (no_tally_by u)) ≡ if_done k (grown u t) no_tally
tally-done u zero t = refl
tally-done true (suc k) t = refl
tally-done false (suc k) t = refl

reads-alike : (c : Copy) (ws : List ℕ) → is_book_by c ws ≡ is_book ws → all_known c.updates (entries ws) ≡ true → ReadsAlike c ws
unfolding count_by count_cause_by count_answer count_cause entry_by read_cause_by read_answer read_cause tally_by tally_answer balance_by balance_answer asked_by party_day_cause collateral_by case_cause_by collateral_answer collateral_cause
reads-alike c ws e k =
    record {
      count = rw e;
      entry = λ n. rw e;
      tally = λ p d. rw (e, tally-done c.updates, tally-alike c.updates p d (entries ws) k);
      balance = λ v p d. rw (e, balance-of c.updates v (coefficient_of ws) (tolerance_of ws) p d (entries ws) (cover-alike c.updates v p d (bought_by p d (entries ws)) (entries ws) k));
      collateral = λ k. rw e;
    }

detects-alike : (c : Copy) (R TM d : ℕ) (rs : List Record) (p : ℕ) → detected_by c R TM d rs p ≡ detected_in R TM d rs p
unfolding detected_by detected_in
detects-alike c R TM d rs p = rw (balance-of c.updates day_ahead R TM p d rs (cover-ahead c.updates p d (bought_by p d rs) rs))

-- a call of one cause has one answer
acts-alike : (c : Copy) (ws : List ℕ) (call : Change) → (machine_by c).cause ws call ≡ cause_of ws call → ActsAlike c ws call
unfolding cause_of figures_at words_after figures_of leaves_of
acts-alike c ws call e =
    record {
      cause = e;
      figures = ap (λ k. if_done k (book_machine.figures ws call) no_figures) e;
      words = ap (λ k. if_done k (book_machine.done ws call) ws) e;
    }

-- the copy with today's figures is today's, call by call
pub present-reads : (ws : List ℕ) → ReadsAlike present ws
present-reads ws = reads-alike present ws (present-book ws) (all_known_lem (entries ws))

pub present-acts : (ws : List ℕ) (call : Change) → ActsAlike present ws call
present-acts ws call = acts-alike present ws call (present-cause ws call)

refuses-all : (c : Copy) (ws : List ℕ) → is_book_by c ws ≡ false → RefusesAll c ws
unfolding count_by count_cause_by entry_by read_cause_by tally_by balance_by asked_by collateral_by case_cause_by
refuses-all c ws e =
    record {
      change = λ call. rw e;
      count = rw e;
      entry = λ n. rw e;
      tally = λ p d. rw e;
      balance = λ v p d. rw e;
      collateral = λ k. rw e;
    }

and-fails : (x y : Bool) → y ≡ false → x && y ≡ false
and-fails true y e = e
and-fails false y e = refl

module _ (c : Copy) (o : Older c) where
  -- an entry with a new bit has an amount above the copy's limit
  above-limit : (a u v l : ℕ) → a ≡ u + v * low_amounts → c.high ≤ v → l < c.high * low_amounts → a ≤ l → ⊥
  above-limit a u v l e h k g = absurd (omega arith)

  -- each entry of a book of the copy is of a type that it knows, its amount within the limit
  entry-fits : (ws : List ℕ) (n : ℕ) → n < count_of ws → is_book_by c ws ≡ true → (known_by c.updates (key (entry_at ws n)).type ≡ true) × ((entry_at ws n).amount ≤ limit_by c (key (entry_at ws n)).type)
  entry-fits ws n h e =
      let r = entry_at ws n in
      let l : n < length (entries ws) = rw (entries-count ws) h in
      let f : record_fits c r ≡ true = ap (record_fits c) (entry-at ws n h) ∙ all_get_d (record_fits c) (entries ws) (book-now c o ws e).1 n no_record l in
      let s = and_split (type_fits c (key r) r.amount) (amount_fits c (key r) r.amount) f in
      (s.0, leb-true _ _ s.1)

  new-bit : (ws : List ℕ) (n : ℕ) → n < count_of ws → c.high ≤ value_at ws (place_of n + 4) → is_book_by c ws ≡ true → ⊥
  unfolding decode entry_at
  new-bit ws n h b e =
      let r = entry_at ws n in
      let us = drop (place_of n) ws in
      let v : c.high ≤ value_at us 4 = rw (get_or-drop (place_of n) ws 4 0) b in
      above-limit r.amount (value_at us 3) (value_at us 4) (limit_by c (key r).type) refl v (limit-carried c o (key r).type) (entry-fits ws n h e).1

  -- what cannot be a book of the copy it refuses
  no-book : (ws : List ℕ) → (is_book_by c ws ≡ true → ⊥) → RefusesAll c ws
  no-book ws h = refuses-all c ws (elim (bool_cases (is_book_by c ws)) [ inl e ↦ absurd (h e) | inr e ↦ e ])

  same-words : (ws : List ℕ) → is_book_by c ws ≡ true → is_book_by c ws ≡ is_book ws
  same-words ws e = e ∙ sym (book-now c o ws e).0

  known-entries : (rs : List Record) → all (record_fits c) rs ≡ true → all_known c.updates rs ≡ true
  unfolding all
  known-entries [] e = refl
  known-entries (r ∷ rs) e =
      let s = and_split (record_fits c r) (all (record_fits c) rs) e in
      and-join _ _ (and_split (type_fits c (key r) r.amount) (amount_fits c (key r) r.amount) s.0).0 (known-entries rs s.1)

  pub promise : Promise c
  unfolding refusal_by
  promise =
      record {
        books = book-by c o;
        files = file-by c o;
        reads = λ ws e. reads-alike c ws (same-words ws e) (known-entries (entries ws) (book-now c o ws e).1);
        detects = detects-alike c;
        acts = λ ws call s. acts-alike c ws call (sym (cause-kept c o ws call s));
        within = λ ws b call e. acts-alike c ws call (cause-fits c o ws call b e);
        new_book = λ ws n h b. no-book ws (new-bit ws n h b);
        new_file = λ ws bs b w. let f : is_file_by c bs ≡ false = file-by c o bs ∙ and-fails (is_file bs) (all (narrow_by c) (items bs)) w in rw (b, f);
        new_type_book = λ ws n h u. no-book ws (λ e. true≢false (sym (entry-fits ws n h e).0 ∙ u));
        new_type_post = λ ws b k a p d u. post-unknown c o ws k a b p d u;
        new_type_file = file-unknown c o;
      }

-- of copies until T-06, and until T-02
pub until06-promise : Promise until06
until06-promise = promise until06 until06-older

pub until02-promise : Promise until02
until02-promise = promise until02 until02-older

-- and in 02's own figures: what the promise must cover, so that none of its conditions may ask for more
pub other-cause : (k : ℕ) → k ≢ 1 → k ≢ 2 → k ≢ 5 → k ≢ 7 → Stays k
other-cause k a b c d = (a, b, c, d)

-- withdrawals and controls have no amount: on the copy's books each is as before, done or refused
pub withdraw-acts : (ws : List ℕ) → is_book_by until06 ws ≡ true → (n : ℕ) → ActsAlike until06 ws (withdraw n)
withdraw-acts ws b n = until06-promise.within ws b (withdraw n) refl

pub control-acts : (ws : List ℕ) → is_book_by until06 ws ≡ true → (d : ℕ) → ActsAlike until06 ws (control d)
control-acts ws b d = until06-promise.within ws b (control d) refl

-- and so is a post of money up to 10^12
pub money-acts : (ws : List ℕ) → is_book_by until06 ws ≡ true → (k : Key) (a : ℕ) → is_money k.type ≡ true → a ≤ 1000000000000 → ActsAlike until06 ws (post k a)
unfolding limit_by
money-acts ws b k a m h = until06-promise.within ws b (post k a) (and-join _ _ (money-known k.type m) (rw m (le-leb a 1000000000000 h)))
  where
    money-known : (t : ℕ) → is_money t ≡ true → not (eqb t 22) ≡ true
    money-known t e = rw (ne_eqb t 22 λ q. true≢false (sym e ∙ ap is_money q))

pub done-acts : (ws : List ℕ) (call : Change) → (machine_by until06).cause ws call ≡ 0 → ActsAlike until06 ws call
done-acts ws call e = until06-promise.acts ws call (rw e none_stays)

-- bit 12 of a kind 5 word, or one above it, in a book and in a file
pub bit-12-book : (ws : List ℕ) (n : ℕ) → n < count_of ws → 4096 ≤ value_at ws (place_of n + 4) → RefusesAll until06 ws
bit-12-book = until06-promise.new_book

pub bit-12-file : (ws bs : List ℕ) (is js : List Item) (k : Key) (a : ℕ) → is_book_by until06 ws ≡ true → items bs ≡ is ++ (line k a ∷ js) → 1099511627776 ≤ a →
    (machine_by until06).cause ws (file bs) ≡ 2
unfolding all
bit-12-file ws bs is js k a b e h =
    until06-promise.new_file ws bs b
    (rw (e, all_append (narrow_by until06) is (line k a ∷ js))
    (and-fails (all (narrow_by until06) is) (all (narrow_by until06) (line k a ∷ js)) (rw (le-ltb a 1099511627776 h))))

-- T-02: words and calls without type 22 are answered by a copy until then as today, be the words a book or none, the call done or refused
abbrev without22 : List Record → Bool
without22 rs = all (λ r. not (eqb (key r).type 22)) rs

pub without-reads : (ws : List ℕ) → without22 (entries ws) ≡ true → ReadsAlike until02 ws
without-reads ws e = reads-alike until02 ws (same-book until02 refl refl ws e) e

pub without-acts : (ws : List ℕ) → without22 (entries ws) ≡ true → (call : Change) → in_call (λ k a. not (eqb k.type 22)) call ≡ true → ActsAlike until02 ws call
without-acts ws e call u = acts-alike until02 ws call (same-cause until02 refl refl ws call e u)

-- a book with an entry of type 22 is 1 in every call, a post of it 5, and a file in which today's copy finds no fault 5 if a line is of it
pub update-book : (ws : List ℕ) (n : ℕ) → n < count_of ws → (key (entry_at ws n)).type ≡ 22 → RefusesAll until02 ws
update-book ws n h e = until02-promise.new_type_book ws n h (rw e)

pub update-post : (ws : List ℕ) → is_book_by until02 ws ≡ true → (p d a : ℕ) → party_ok p ≡ true → day_ok d ≡ true → (machine_by until02).cause ws (post (key_of p d 22 0) a) ≡ 5
update-post ws b p d a hp hd = until02-promise.new_type_post ws b (key_of p d 22 0) a hp hd refl

pub update-file : (ws bs : List ℕ) (is js : List Item) (k : Key) (a : ℕ) → is_book_by until02 ws ≡ true → cause_of ws (file bs) ≡ 0 → items bs ≡ is ++ (line k a ∷ js) → k.type ≡ 22 →
    (machine_by until02).cause ws (file bs) ≡ 5
unfolding all
update-file ws bs is js k a b z e t =
    let f = file-faultless ws bs z in
    let z : first_of (map (item_cause (entries ws)) (items bs)) ≡ 0 = eqb-true _ _ (and_split (is_file bs) _ f).1 in
    until02-promise.new_type_file ws bs b f (amounts-now until02 refl refl (entries ws) (items bs) z)
    (rw (e, all_append (in_item (type_fits until02)) is (line k a ∷ js))
    (and-fails (all (in_item (type_fits until02)) is) (all (in_item (type_fits until02)) (line k a ∷ js)) (rw t)))
