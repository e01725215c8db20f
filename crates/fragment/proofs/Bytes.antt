-- Eight numbers in a list, place by place; and a list of bytes and its word, there and back.
-- One byte of a word is replaced by a subtraction and a sum, since no byte carries into the next.
-- Assumes nothing.
use mathlib.Core.Path.{◌≡◌, refl, sym, ◌∙◌, ap, ap₂, subst}
use mathlib.Core.Bool.{Bool, true, false, cond}
use mathlib.Core.List.{List, [], ◌∷◌}
use Prim.Native.Nat.{ℕ, zero, suc, ◌+◌, ◌-◌, ◌*◌, ◌/◌, ◌%◌, ◌^◌, ◌<◌, ◌≤◌}
use native.Mathlib.Nat.{not-suc-le-zero, div-div-eq-div-mul, div-one, mul_left_comm}
use native.Mathlib.Omega.{arith}
use lib.Dec.{eqb}
use lib.Pow.{pow-add, shl_exact}
use lib.ListN.{length, get_or, set, length-set}
use lib.Seq.{get_or-set_same, get_or-set_other}
use Rattle.std.specs.Int.{w64, from_le_bytes, bytes_low_first}
use borrow.Author.Tests.{eqb-true, eqb-false}
use Rattle.recogniser.specs.Counts.{saturated}
use Rattle.fragment.specs.Fragments.{digits}

-- lists of one length that agree at each place are equal
pub same-list : {A : Type 0} (d : A) (xs ys : List A) → length xs ≡ length ys → ((k : ℕ) → k < length xs → get_or xs k d ≡ get_or ys k d) → xs ≡ ys
same-list d [] [] l h = refl
same-list d [] (y ∷ ys) l h = absurd (omega (arith, l))
same-list d (x ∷ xs) [] l h = absurd (omega (arith, l))
same-list d (x ∷ xs) (y ∷ ys) l h = let a : x ≡ y = h 0 (omega arith) in ap₂ (λ (z : _) (zs : List _). z ∷ zs) a (same-list d xs ys (omega (arith, l)) (λ k g. h (suc k) (omega (arith, g))))

-- eight facts as one of each number below eight
pub below-eight : (P : ℕ → Type 0) → P 0 → P 1 → P 2 → P 3 → P 4 → P 5 → P 6 → P 7 → (i : ℕ) → i < 8 → P i
below-eight P a b c d e f g h zero l = a
below-eight P a b c d e f g h (suc zero) l = b
below-eight P a b c d e f g h (suc (suc zero)) l = c
below-eight P a b c d e f g h (suc (suc (suc zero))) l = d
below-eight P a b c d e f g h (suc (suc (suc (suc zero)))) l = e
below-eight P a b c d e f g h (suc (suc (suc (suc (suc zero))))) l = f
below-eight P a b c d e f g h (suc (suc (suc (suc (suc (suc zero)))))) l = g
below-eight P a b c d e f g h (suc (suc (suc (suc (suc (suc (suc zero))))))) l = h
below-eight P a b c d e f g h (suc (suc (suc (suc (suc (suc (suc (suc i)))))))) l = absurd (omega (arith, l))

-- a list with element i replaced, at place k
pub set_at : {A : Type 0} (x : List A) (i k : ℕ) (new d : A) → k < length x → get_or (set x i new) k d ≡ cond (eqb i k) new (get_or x k d)
set_at x i k new d h = look (eqb i k) refl
  where
    look : (b : Bool) → eqb i k ≡ b → get_or (set x i new) k d ≡ cond b new (get_or x k d)
    look true q = let e : i ≡ k = eqb-true i k q in ap (λ (n : ℕ). get_or (set x n new) k d) e ∙ get_or-set_same x k new d h
    look false q = get_or-set_other x i k new d (λ e. eqb-false i k q (sym e))

-- eight choices
pub eight-set : {A : Type 0} (x : List A) (i : ℕ) (new d a₀ a₁ a₂ a₃ a₄ a₅ a₆ a₇ : A) → length x ≡ 8
    → a₀ ≡ cond (eqb i 0) new (get_or x 0 d) → a₁ ≡ cond (eqb i 1) new (get_or x 1 d) → a₂ ≡ cond (eqb i 2) new (get_or x 2 d) → a₃ ≡ cond (eqb i 3) new (get_or x 3 d)
    → a₄ ≡ cond (eqb i 4) new (get_or x 4 d) → a₅ ≡ cond (eqb i 5) new (get_or x 5 d) → a₆ ≡ cond (eqb i 6) new (get_or x 6 d) → a₇ ≡ cond (eqb i 7) new (get_or x 7 d)
    → (a₀ ∷ a₁ ∷ a₂ ∷ a₃ ∷ a₄ ∷ a₅ ∷ a₆ ∷ a₇ ∷ []) ≡ set x i new
eight-set {A} x i new d a₀ a₁ a₂ a₃ a₄ a₅ a₆ a₇ l h₀ h₁ h₂ h₃ h₄ h₅ h₆ h₇ =
    same-list d made (set x i new) (sym (length-set x i new ∙ l)) (λ k g. chosen k g ∙ sym (set_at x i k new d (subst (λ (n : ℕ). k < n) (sym l) g)))
  where
    made : List A
    made = a₀ ∷ a₁ ∷ a₂ ∷ a₃ ∷ a₄ ∷ a₅ ∷ a₆ ∷ a₇ ∷ []

    chosen : (k : ℕ) → k < 8 → get_or made k d ≡ cond (eqb i k) new (get_or x k d)
    chosen = below-eight (λ (k : ℕ). get_or made k d ≡ cond (eqb i k) new (get_or x k d)) h₀ h₁ h₂ h₃ h₄ h₅ h₆ h₇

-- ---- bytes

abbrev pub AreBytes : List ℕ → Type 0
AreBytes x = (k : ℕ) → k < length x → get_or x k 0 < 256

tail-bytes : (a : ℕ) (x : List ℕ) → AreBytes (a ∷ x) → AreBytes x
tail-bytes a x h k g = h (suc k) (omega (arith, g))

pub set-bytes : (x : List ℕ) (i s : ℕ) → AreBytes x → s < 256 → AreBytes (set x i s)
set-bytes x i s h b k g = look (eqb i k) (set_at x i k s 0 inside)
  where
    inside : k < length x
    inside = subst (λ (n : ℕ). k < n) (length-set x i s) g

    look : (c : Bool) → get_or (set x i s) k 0 ≡ cond c s (get_or x k 0) → get_or (set x i s) k 0 < 256
    look true e = omega (arith, e, b)
    look false e = omega (arith, e, h k inside)

-- ---- a list of bytes and its word

-- the word of some bytes
abbrev pub word_of : List ℕ → ℕ
word_of [] = 0
word_of (x ∷ xs) = x + 256 * word_of xs

-- the bytes of a word of bytes
pub bytes_back : (n : ℕ) (x : List ℕ) → length x ≡ n → AreBytes x → digits n (word_of x) ≡ x
bytes_back zero [] l h = refl
bytes_back zero (a ∷ x) l h = absurd (omega (arith, l))
bytes_back (suc n) [] l h = absurd (omega (arith, l))
bytes_back (suc n) (a ∷ x) l h =
    let b : a < 256 = h 0 (omega arith) in
    let low : (a + 256 * word_of x) % 256 ≡ a = omega (arith, b) in
    let high : (a + 256 * word_of x) / 256 ≡ word_of x = omega (arith, b) in
    ap₂ (λ (d w : ℕ). d ∷ digits n w) low high ∙ ap (λ (t : List ℕ). a ∷ t) (bytes_back n x (omega (arith, l)) (tail-bytes a x h))

pub word_below : (n : ℕ) (x : List ℕ) → length x ≡ n → AreBytes x → word_of x < 256 ^ n
word_below zero [] l h = omega arith
word_below zero (a ∷ x) l h = absurd (omega (arith, l))
word_below (suc n) [] l h = absurd (omega (arith, l))
word_below (suc n) (a ∷ x) l h =
    let e : suc n ≡ 1 + n = omega arith in
    let p : 256 ^ suc n ≡ 256 * 256 ^ n = ap (λ (m : ℕ). 256 ^ m) e ∙ pow-add 256 1 n in
    let b : a < 256 = h 0 (omega arith) in
    omega (arith, p, b, word_below n x (omega (arith, l)) (tail-bytes a x h))

-- std's word for the word of eight bytes
pub from-le : (x : List ℕ) → length x ≡ 8 → from_le_bytes w64 x ≡ word_of x
from-le x l = sum (get_or x 0 0) (get_or x 1 0) (get_or x 2 0) (get_or x 3 0) (get_or x 4 0) (get_or x 5 0) (get_or x 6 0) (get_or x 7 0) ∙ ap word_of same
  where
    made : List ℕ
    made = get_or x 0 0 ∷ get_or x 1 0 ∷ get_or x 2 0 ∷ get_or x 3 0 ∷ get_or x 4 0 ∷ get_or x 5 0 ∷ get_or x 6 0 ∷ get_or x 7 0 ∷ []

    same : made ≡ x
    same = same-list 0 made x (sym l) (below-eight (λ (k : ℕ). get_or made k 0 ≡ get_or x k 0) refl refl refl refl refl refl refl refl)

    sum : (a b c d e f g h : ℕ) → from_le_bytes w64 (a ∷ b ∷ c ∷ d ∷ e ∷ f ∷ g ∷ h ∷ []) ≡ word_of (a ∷ b ∷ c ∷ d ∷ e ∷ f ∷ g ∷ h ∷ [])
    sum a b c d e f g h = omega arith

-- std's words for the bytes of a word: byte i + 1 is byte i of the word without its lowest byte
low-shifted : (i n w : ℕ) → bytes_low_first (suc i) n w ≡ bytes_low_first i n (w / 256)
low-shifted i zero w = refl
low-shifted zero (suc n) w = ap₂ ◌∷◌ refl (low-shifted 1 n w)
low-shifted (suc i) (suc n) w =
    let e : 256 ^ suc (suc i) ≡ 256 * 256 ^ suc i = omega arith in
    ap₂ (λ (d : ℕ) (ds : List ℕ). d % 256 ∷ ds) (ap (w /◌) e ∙ sym (div-div-eq-div-mul w 256 (256 ^ suc i))) (low-shifted (suc (suc i)) n w)

pub low-digits : (n w : ℕ) → bytes_low_first 0 n w ≡ digits n w
low-digits zero w = refl
low-digits (suc n) w = ap (λ (ds : List ℕ). w % 256 ∷ ds) (low-shifted 0 n w ∙ low-digits n (w / 256))

-- ---- one byte of a word

place-next : (i : ℕ) → 2 ^ (8 * suc i) ≡ 256 * 2 ^ (8 * i)
place-next i = let e : 8 * suc i ≡ 8 + 8 * i = omega arith in ap (λ (n : ℕ). 2 ^ n) e ∙ pow-add 2 8 (8 * i)

times-next : (b i : ℕ) → b * 2 ^ (8 * suc i) ≡ 256 * (b * 2 ^ (8 * i))
times-next b i = ap (λ (n : ℕ). b * n) (place-next i) ∙ mul_left_comm b 256 (2 ^ (8 * i))

drop-byte : (a w i : ℕ) → a < 256 → (a + 256 * w) / 2 ^ (8 * suc i) ≡ w / 2 ^ (8 * i)
drop-byte a w i b =
    let high : (a + 256 * w) / 256 ≡ w = omega (arith, b) in
    ap (λ (n : ℕ). (a + 256 * w) / n) (place-next i) ∙ sym (div-div-eq-div-mul (a + 256 * w) 256 (2 ^ (8 * i))) ∙ ap (λ (n : ℕ). n / 2 ^ (8 * i)) high

pub byte_at : (x : List ℕ) (i : ℕ) → AreBytes x → i < length x → word_of x / 2 ^ (8 * i) % 256 ≡ get_or x i 0
byte_at [] i h g = absurd (not-suc-le-zero g)
byte_at (a ∷ x) zero h g =
    let b : a < 256 = h 0 g in
    let low : (a + 256 * word_of x) % 256 ≡ a = omega (arith, b) in
    ap (λ (n : ℕ). n % 256) (div-one (a + 256 * word_of x)) ∙ low
byte_at (a ∷ x) (suc i) h g = ap (λ (n : ℕ). n % 256) (drop-byte a (word_of x) i (h 0 (omega arith))) ∙ byte_at x i (tail-bytes a x h) (omega (arith, g))

-- the new byte in the place of the old one
pub word_set : (x : List ℕ) (i s : ℕ) → i < length x → word_of (set x i s) + get_or x i 0 * 2 ^ (8 * i) ≡ word_of x + s * 2 ^ (8 * i)
word_set [] i s g = absurd (not-suc-le-zero g)
word_set (a ∷ x) zero s g = omega arith
word_set (a ∷ x) (suc i) s g = let l : i < length x = omega (arith, g) in omega (arith, times-next (get_or x i 0) i, times-next s i, word_set x i s l)

-- the byte at place i of a word of 64 bits, at its place there, as shifts give it
abbrev pub old_byte : ℕ → ℕ → ℕ
old_byte w i = (w / 2 ^ (8 * i) % 256 * 2 ^ (8 * i)) % 2 ^ 64

-- the word with that byte taken out and another one put there
abbrev pub replace_byte : ℕ → ℕ → ℕ → ℕ
replace_byte w i s = w - old_byte w i + (s * 2 ^ (8 * i)) % 2 ^ 64

module _ (x : List ℕ) (i s w : ℕ) (eight : length x ≡ 8) (bytes : AreBytes x) (within : i < 8) (small : s < 256) (packed : w ≡ word_of x) where
  inside : i < length x
  inside = omega (arith, eight, within)

  -- a byte at place i fits the word
  shifted : (b : ℕ) → b < 256 → (b * 2 ^ (8 * i)) % 2 ^ 64 ≡ b * 2 ^ (8 * i)
  shifted b h = shl_exact {a = b} 8 (8 * i) 64 h (omega (arith, within))

  old-byte : old_byte w i ≡ get_or x i 0 * 2 ^ (8 * i)
  old-byte = rw packed (ap (λ (n : ℕ). (n * 2 ^ (8 * i)) % 2 ^ 64) (byte_at x i bytes inside) ∙ shifted (get_or x i 0) (bytes i inside))

  pub old_below : old_byte w i ≤ w
  old_below = omega (arith, packed, old-byte, word_set x i 0 inside)

  replaced : replace_byte w i s ≡ word_of (set x i s)
  replaced = omega (arith, packed, old-byte, old_below, shifted s small, word_set x i s inside)

  set-eight : length (set x i s) ≡ 8
  set-eight = length-set x i s ∙ eight

  pub replaced-below : replace_byte w i s < 2 ^ 64
  replaced-below = subst (λ (n : ℕ). n < 2 ^ 64) (sym replaced) (word_below 8 (set x i s) set-eight (set-bytes x i s bytes small))

  pub replaced-bytes : digits 8 (replace_byte w i s) ≡ set x i s
  replaced-bytes = ap (digits 8) replaced ∙ bytes_back 8 (set x i s) set-eight (set-bytes x i s bytes small)

-- eight choices, of which the one that is made raises a count
abbrev raised_at : List ℕ → ℕ → ℕ → ℕ
raised_at x i k = cond (eqb i k) (saturated (get_or x k 0 + 1)) (get_or x k 0)

pub eight-raised : (x : List ℕ) (i a₀ a₁ a₂ a₃ a₄ a₅ a₆ a₇ : ℕ) → length x ≡ 8
    → a₀ ≡ raised_at x i 0 → a₁ ≡ raised_at x i 1 → a₂ ≡ raised_at x i 2 → a₃ ≡ raised_at x i 3
    → a₄ ≡ raised_at x i 4 → a₅ ≡ raised_at x i 5 → a₆ ≡ raised_at x i 6 → a₇ ≡ raised_at x i 7
    → (a₀ ∷ a₁ ∷ a₂ ∷ a₃ ∷ a₄ ∷ a₅ ∷ a₆ ∷ a₇ ∷ []) ≡ set x i (saturated (get_or x i 0 + 1))
eight-raised x i a₀ a₁ a₂ a₃ a₄ a₅ a₆ a₇ l h₀ h₁ h₂ h₃ h₄ h₅ h₆ h₇ =
    eight-set x i (saturated (get_or x i 0 + 1)) 0 a₀ a₁ a₂ a₃ a₄ a₅ a₆ a₇ l
    (h₀ ∙ own 0) (h₁ ∙ own 1) (h₂ ∙ own 2) (h₃ ∙ own 3) (h₄ ∙ own 4) (h₅ ∙ own 5) (h₆ ∙ own 6) (h₇ ∙ own 7)
  where
    own : (k : ℕ) → raised_at x i k ≡ cond (eqb i k) (saturated (get_or x i 0 + 1)) (get_or x k 0)
    own k = look (eqb i k) refl
      where
        look : (b : Bool) → eqb i k ≡ b → cond b (saturated (get_or x k 0 + 1)) (get_or x k 0) ≡ cond b (saturated (get_or x i 0 + 1)) (get_or x k 0)
        look true q = ap (λ (n : ℕ). saturated (get_or x n 0 + 1)) (sym (eqb-true i k q))
        look false q = refl
