-- Laws of numbers as text, and of text laid over lent bytes. Assumes nothing.
use mathlib.Core.Path.{◌≡◌, refl, sym, ◌∙◌, ap, ap₂}
use mathlib.Core.Bool.{true, false, true≢false}
use mathlib.Core.List.{List, [], ◌∷◌, ◌++◌, append_assoc, append-nil}
use mathlib.Core.Logic.{inl, inr}
use Prim.Native.Nat.{ℕ, zero, suc, ◌+◌, ◌-◌, ◌*◌, ◌/◌, ◌%◌, ◌^◌, min, ◌≤◌, ◌<◌, zero-le}
use native.Mathlib.Nat.{add-zero, zero-add, suc-mul, pow-suc}
use native.Mathlib.Numerals.{add-one}
use native.Mathlib.Omega.{arith}
use lib.IntN.{ℤ, pos, negsuc, nat_abs}
use lib.ListN.{length, take, drop, set, length-append, length-set}
use lib.Seq.{set_out, take_at, drop_at, length-take-le}
use lib.Signed.{mag}
use borrow.Author.Tests.{ltb-true, lt-ltb, le-ltb}
use Rattle.numbers.specs.Signed.{is_negative}
use Rattle.std.specs.Borrow.{MutBor}
use Rattle.std.specs.Fmt.{decimal as decimal-std, signed_decimal as signed-std}
use Rattle.std.proofs.lemmas.Bool.{cases_lt}
use Rattle.std.proofs.lemmas.Fmt.{length-decimal-le, decimal_from_appends}
use Rattle.text.specs.declared.Out.{Out}
use Rattle.text.specs.Text.{digits, decimal, signed, refusal, each_from, over, Wrote, Whole}
use Rattle.text.specs.Written.{Starts, Puts}

-- text after text
pub over-append : (s t out : List ℕ) (at : ℕ) → over out at (s ++ t) ≡ over (over out at s) (at + length s) t
unfolding over
over-append [] t out at = rw (add-zero at)
over-append (b ∷ s) t out at =
    let e : at + suc (length s) ≡ at + 1 + length s = omega arith in
    rw e (over-append s t (set out at b) (at + 1))

pub length_over : (s out : List ℕ) (at : ℕ) → length (over out at s) ≡ length out
unfolding over
length_over [] out at = refl
length_over (b ∷ s) out at = length_over s (set out at b) (at + 1) ∙ length-set out at b

-- past the end nothing is laid
pub over-out : (s out : List ℕ) (at : ℕ) → length out ≤ at → over out at s ≡ out
unfolding over
over-out [] out at h = refl
over-out (b ∷ s) out at h =
    rw (set_out out at b h) (over-out s out (at + 1) (omega arith))

-- laying goes on at the place where it stopped, or at the end
over-from : (t out : List ℕ) (at : ℕ) → over out (min at (length out)) t ≡ over out at t
over-from t out at =
    elim (cases_lt at (length out)) [
      | inl h ↦ (let e : min at (length out) ≡ at = omega arith in rw e)
      | inr h ↦ (let e : min at (length out) ≡ length out = omega arith in rw (e, over-out t out (length out) (omega arith), over-out t out at h))
    ]

module _ {out : List ℕ} {at : ℕ} {s : List ℕ} {next : ℕ} {left : List ℕ} (w : Wrote out at s next left) where
  pub wrote-long : length left ≡ length out
  wrote-long = ap length w.bytes ∙ length_over s out at

  pub wrote-within : next ≤ length left
  wrote-within = rw (wrote-long, w.place) (omega arith)

  pub wrote-over : (t : List ℕ) → over left next t ≡ over out at (s ++ t)
  wrote-over t =
      rw (w.place, ← wrote-long, over-from t left (at + length s), w.bytes, over-append s t out at)

  pub wrote_then : {t : List ℕ} {last : ℕ} {end : List ℕ} → Wrote left next t last end → Wrote out at (s ++ t) last end
  wrote_then {t} v =
      record {
        place = v.place ∙ rw (wrote-long, w.place, length-append s t) (omega arith);
        bytes = v.bytes ∙ wrote-over t;
      }

pub wrote_nothing : (out : List ℕ) (at : ℕ) → at ≤ length out → Wrote out at [] at out
unfolding over
wrote_nothing out at h = record { place = omega arith; bytes = refl }

-- one byte
pub wrote_none : (out : List ℕ) (at b : ℕ) → at ≤ length out → length out ≤ at → Wrote out at (b ∷ []) at out
wrote_none out at b h l = record { place = omega arith; bytes = sym (over-out (b ∷ []) out at l) }

pub wrote_one : (out : List ℕ) (at b : ℕ) → at < length out → Wrote out at (b ∷ []) (at + 1) (set out at b)
unfolding over
wrote_one out at b h = record { place = omega arith; bytes = refl }

-- no text, text after text, and all of it from the start
pub puts_none : (out : Out) → Puts out [] out
puts_none out = record { lent = refl; wrote = wrote_nothing _ _ out.within }

pub puts_then : {a b c : Out} {s t : List ℕ} → Puts a s b → Puts b t c → Puts a (s ++ t) c
puts_then p q = record { lent = q.lent ∙ p.lent; wrote = wrote_then p.wrote q.wrote }

pub puts_all : {bytes : MutBor (List ℕ)} {a b : Out} {s : List ℕ} → Starts bytes a → Puts a s b → Wrote bytes.now 0 s b.at b.bytes.now
puts_all h p = rw (h.same, h.start) at p.wrote

-- digits
one-digit : (n x : ℕ) → x < 10 → digits (suc n) x ≡ (48 + x) ∷ []
unfolding digits
one-digit n x h = rw (lt-ltb x 10 h)

pub small-decimal : (x : ℕ) → x < 10 → decimal x ≡ (48 + x) ∷ []
unfolding decimal
small-decimal x h = one-digit 19 x h

digits_step : (n x : ℕ) → 10 ≤ x → digits (suc n) x ≡ digits n (x / 10) ++ ((48 + x % 10) ∷ [])
unfolding digits
digits_step n x h = rw (le-ltb x 10 h)

-- a number below 2⁶⁴ has the digits that the library prints
pub decimal-printed : (x : ℕ) → x < 2 ^ 64 → decimal-std x ≡ decimal x
unfolding decimal
decimal-printed x h = sym (decimal_from_appends digits (record { one = one-digit; more = digits_step }) 20 x h (length-decimal-le 20 x (omega arith) (omega arith) h))

pub signed-printed : (z : ℤ) → mag z < 2 ^ 63 → signed-std z ≡ signed z
unfolding signed
signed-printed (pos n) h = decimal-printed n (omega arith)
signed-printed (negsuc n) h = ap (λ ds. 45 ∷ ds) (decimal-printed (suc n) (omega arith))

-- a negative number has a minus sign
pub signed-negative : (x : ℤ) → is_negative x ≡ true → signed x ≡ (45 ∷ []) ++ decimal (nat_abs x)
unfolding signed
signed-negative (pos n) e = absurd (omega (arith, ltb-true n 0 e))
signed-negative (negsuc n) e = refl

pub signed-other : (x : ℤ) → is_negative x ≡ false → signed x ≡ decimal (nat_abs x)
unfolding signed
signed-other (pos n) e = refl
signed-other (negsuc n) e = absurd (true≢false e)

-- how long a number's text is: one below a power of ten, any number, and any signed number
digit-more : (n x : ℕ) → length (digits (suc n) x) ≤ length (digits n (x / 10)) + 1
digit-more n x =
    elim (cases_lt x 10) [
      | inl h ↦ rw (one-digit n x h) (omega arith)
      | inr h ↦ rw (digits_step n x h, length-append (digits n (x / 10)) ((48 + x % 10) ∷ [])) (omega arith)
    ]

tenth : (y x : ℕ) → x < y * 10 → x / 10 < y
tenth y x h = omega arith

few-digits : (n k x : ℕ) → x < 10 ^ suc k → length (digits n x) ≤ suc k
unfolding digits
few-digits zero k x h = zero-le
few-digits (suc n) zero x h = rw (one-digit n x h) (omega arith)
few-digits (suc n) (suc k) x h =
    omega (arith, digit-more n x, few-digits n k (x / 10) (tenth (10 ^ suc k) x (rw pow-suc at h)))

pub decimal-below : (k x : ℕ) → x < 10 ^ suc k → length (decimal x) ≤ suc k
unfolding decimal
decimal-below k x h = few-digits 20 k x h

all_digits : (n x : ℕ) → length (digits n x) ≤ n
unfolding digits
all_digits zero x = zero-le
all_digits (suc n) x = omega (arith, digit-more n x, all_digits n (x / 10))

pub decimal-most : (x : ℕ) → length (decimal x) ≤ 20
unfolding decimal
decimal-most x = all_digits 20 x

pub signed-most : (z : ℤ) → length (signed z) ≤ 21
unfolding signed
signed-most (pos n) = omega (arith, decimal-most n)
signed-most (negsuc n) = omega (arith, decimal-most (suc n))

pub refusal-most : (c : ℕ) → length (refusal c) ≤ 29
unfolding refusal
refusal-most c = simp length-append (omega (arith, decimal-most c))

-- a text that a slice has room for stands in it whole
over-later : (s out : List ℕ) (at b : ℕ) → over (b ∷ out) (suc at) s ≡ b ∷ over out at s
unfolding over
over-later [] out at b = refl
over-later (x ∷ s) out at b =
    let e : suc at + 1 ≡ suc (at + 1) = omega arith in
    rw e (over-later s (set out at x) (at + 1) b)

over-start : (s out : List ℕ) → length s ≤ length out → over out 0 s ≡ s ++ drop (length s) out
unfolding over
over-start [] out h = refl
over-start (b ∷ s) [] h = absurd (omega arith)
over-start (b ∷ s) (x ∷ out) h = over-later s out 0 b ∙ ap (λ l. b ∷ l) (over-start s out (omega arith))

pub wrote-whole : {out s : List ℕ} {next : ℕ} {left : List ℕ} → Wrote out 0 s next left → length s ≤ length out → Whole out s next left
wrote-whole {out} {s} w h =
    let all : min (0 + length s) (length out) ≡ length s = omega arith in
    let e = w.place ∙ all in
    record {
      place = e;
      bytes = rw (e, w.bytes, over-start s out h) (take_at s (drop (length s) out) (length s) refl);
      past = rw (e, w.bytes, over-start s out h) (drop_at s (drop (length s) out) (length s) refl);
    }

-- the text of one number more
each_last : (f : ℕ → List ℕ) (n k : ℕ) → each_from f (suc n) k ≡ each_from f n k ++ f (k + n)
unfolding each_from
each_last f zero k = rw (add-zero k) (append-nil (f k))
each_last f (suc n) k =
    let e : k + 1 + n ≡ k + suc n = omega arith in
    ap (λ l. f k ++ l) (each_last f n (k + 1) ∙ ap (λ i. each_from f n (k + 1) ++ f i) e) ∙ sym (append_assoc (f k) (each_from f n (k + 1)) (f (k + suc n)))

pub puts_past : (f : ℕ → List ℕ) (k i : ℕ) {a b c : Out} → k ≤ i → Puts a (each_from f (i - k) k) b → Puts b (f i) c → Puts a (each_from f (i + 1 - k) k) c
puts_past f k i h p q =
    let e : i + 1 - k ≡ suc (i - k) = omega arith in
    let same : k + (i - k) ≡ i = omega arith in
    rw (e, each_last f (i - k) k, same) (puts_then p q)

pub puts_next : (f : ℕ → List ℕ) (i : ℕ) {a b c : Out} → Puts a (each_from f i 0) b → Puts b (f i) c → Puts a (each_from f (i + 1) 0) c
puts_next f i p q = rw (add-one i, each_last f i 0, zero-add i) (puts_then p q)

pub each_same : (f g : ℕ → List ℕ) (n k : ℕ) → ((i : ℕ) → i < k + n → f i ≡ g i) → each_from f n k ≡ each_from g n k
unfolding each_from
each_same f g zero k h = refl
each_same f g (suc n) k h = ap₂ ◌++◌ (h k (omega arith)) (each_same f g n (k + 1) (λ i l. h i (omega arith)))

pub each_none : (f : ℕ → List ℕ) (n k : ℕ) → ((i : ℕ) → f i ≡ []) → each_from f n k ≡ []
unfolding each_from
each_none f zero k h = refl
each_none f (suc n) k h = rw (h k) (each_none f n (k + 1) h)

-- each text within a length
pub each-most : (f : ℕ → List ℕ) (most n k : ℕ) → ((i : ℕ) → i < k + n → length (f i) ≤ most) → length (each_from f n k) ≤ n * most
unfolding each_from
each-most f most zero k h = zero-le
each-most f most (suc n) k h =
    rw (length-append (f k) (each_from f n (k + 1)), suc-mul n most)
    (omega (arith, h k (omega arith), each-most f most n (k + 1) (λ i l. h i (omega arith))))

-- the place after a text counts bytes of the slice
pub wrote-counts : {out : List ℕ} {at : ℕ} {s : List ℕ} {next : ℕ} {left : List ℕ} → Wrote out at s next left → (next ≤ length left) × (next ≡ length (take next left))
wrote-counts {next = next} {left} w = (wrote-within w, sym (length-take-le next left (wrote-within w)))
