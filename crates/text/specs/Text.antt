-- Numbers as text, and text laid over lent bytes.
use Rattle.std.specs.Prelude.{◌≡◌, cond, List, [], ◌∷◌, ◌++◌, ℕ, zero, suc, ◌+◌, ◌≤◌, ◌/◌, ◌%◌, min, ltb, ℤ, pos, negsuc, length, set, take, drop}

-- the decimal digits of a number, at most so many
unfoldable pub digits : ℕ → ℕ → List ℕ
digits zero x = []
digits (suc n) x = cond (ltb x 10) ((48 + x) ∷ []) (digits n (x / 10) ++ ((48 + x % 10) ∷ []))

-- a number below 2⁶⁴ has at most twenty
unfoldable pub decimal : ℕ → List ℕ
decimal x = digits 20 x

-- a negative number has a minus sign
unfoldable pub signed : ℤ → List ℕ
signed (pos n) = decimal n
signed (negsuc n) = 45 ∷ decimal (suc n)

-- refused, a space and the number
unfoldable pub refusal : ℕ → List ℕ
refusal cause = (114 ∷ 101 ∷ 102 ∷ 117 ∷ 115 ∷ 101 ∷ 100 ∷ 32 ∷ []) ++ decimal cause ++ (10 ∷ [])

-- the texts of n numbers from k on
unfoldable pub each_from : (ℕ → List ℕ) → ℕ → ℕ → List ℕ
each_from text zero k = []
each_from text (suc n) k = text k ++ each_from text n (k + 1)

-- bytes laid over a lent slice, from a place on; what is past its end is left out
unfoldable pub over : List ℕ → ℕ → List ℕ → List ℕ
over out at [] = out
over out at (b ∷ bs) = over (set out at b) (at + 1) bs

-- a text written at a place: the place after it, and what the slice then holds
pub record Wrote (out : List ℕ) (at : ℕ) (text : List ℕ) (next : ℕ) (left : List ℕ) : Type 0 where
  pub place : next ≡ min (at + length text) (length out)
  pub bytes : left ≡ over out at text

-- a slice's first n bytes are within it, and there are n of them; the second follows from the first, and spares callers a proof
abbrev pub IsPrefixLen : ℕ → List ℕ → Type 0
IsPrefixLen n xs = (n ≤ length xs) × (n ≡ length (take n xs))

-- a whole text written at the start of a slice; every byte past it is as it was
pub record Whole (out text : List ℕ) (next : ℕ) (left : List ℕ) : Type 0 where
  pub place : next ≡ length text
  pub bytes : take next left ≡ text
  pub past : drop next left ≡ drop next out
