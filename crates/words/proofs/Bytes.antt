-- Bytes stored one after the other, and the numbers that are read from them: what was stored is read back, and what lies elsewhere stays. Assumes nothing.
use mathlib.Core.Path.{◌≡◌, refl, sym, ap, ap₂, ◌∙◌}
use mathlib.Core.List.{List, [], ◌∷◌, ◌++◌, append_assoc, append-nil}
use Prim.Native.Nat.{ℕ, zero, suc, ◌+◌, ◌-◌, ◌*◌, ◌/◌, ◌%◌, ◌^◌, ◌<◌, ◌≤◌}
use native.Mathlib.Nat.{add-zero, div-div-eq-div-mul}
use native.Mathlib.Omega.{arith}
use lib.ListN.{length, get_or, take, drop, set, length-append}
use lib.Seq.{sets, sets-eq, get_or-set_other, drop-drop, drop_at, length-take-le, take-suc, take_all, drop-cons, get_or-take, get_or-drop}
use Rattle.std.specs.Int.{w16, w32, from_le_bytes, bytes_low_first}
use borrow.Rule.Slice.PartMut.{put_mid, Post-is}
use Rattle.layout.specs.Form.{number}
use Rattle.layout.specs.Layout.{le, each}
use Rattle.layout.proofs.Fields.{number_of, le-length}
use Rattle.words.specs.Words.{numbers_from}

-- ---- a run of stores

module _ {A : Type 0} where
  -- two runs, the second from where the first ends
  pub sets-sets : (vs ws l : List A) (i j : ℕ) → j ≡ i + length vs → sets (sets l i vs) j ws ≡ sets l i (vs ++ ws)
  sets-sets [] ws l i j e = let same : j ≡ i = omega arith in ap (λ (k : ℕ). sets l k ws) same
  sets-sets (v ∷ vs) ws l i j e = sets-sets vs ws (set l i v) (suc i) j (omega arith)

  -- what lies before or after the run stays
  pub get_d-sets-out : (vs l : List A) (i k : ℕ) (d : A) → (i ≤ k → k < i + length vs → ⊥) → get_or (sets l i vs) k d ≡ get_or l k d
  get_d-sets-out [] l i k d h = refl
  get_d-sets-out (v ∷ vs) l i k d h =
      get_d-sets-out vs (set l i v) (suc i) k d (λ a b. h (omega arith) (omega arith)) ∙ get_or-set_other l i k v d (λ p. h (omega arith) (omega arith))

  -- from the run's first place on stands what was stored
  pub drop-sets : (vs l : List A) (i : ℕ) → i + length vs ≤ length l → drop i (sets l i vs) ≡ vs ++ drop (i + length vs) l
  drop-sets vs l i h = ap (drop i) (sets-eq vs l i h ∙ append_assoc (take i l) vs _) ∙ drop_at (take i l) _ i (length-take-le i l (omega arith))

-- a part of a list written over is a run of stores
pub put_mid-sets : (l : List ℕ) (i e : ℕ) {ys vs : List ℕ} → ys ≡ vs → i + length vs ≡ e → e ≤ length l → put_mid i (e - i) l ys ≡ sets l i vs
put_mid-sets l i e {vs = vs} same ends h =
    ap₂ (λ (ys zs : List ℕ). take i l ++ (ys ++ zs)) same (Post-is i e l (omega (arith, ends)) ∙ ap (λ (k : ℕ). drop k l) (sym ends))
    ∙ sym (append_assoc (take i l) vs _) ∙ sym (sets-eq vs l i (omega (arith, ends, h)))

-- ---- numbers

module _ (a b : List ℕ) where
  -- a number is read from its bytes alone
  pub number-alike : (n at at' : ℕ) → ((j : ℕ) → j < n → get_or a (at + j) 0 ≡ get_or b (at' + j) 0) → number a n at ≡ number b n at'
  unfolding number
  number-alike zero at at' e = refl
  number-alike (suc n) at at' e =
      ap₂ (λ (x y : ℕ). x + 256 * y) (rw (add-zero at, add-zero at') at (e 0 (omega arith))) (number-alike n (at + 1) (at' + 1) rest)
    where
      rest : (j : ℕ) → j < n → get_or a (at + 1 + j) 0 ≡ get_or b (at' + 1 + j) 0
      rest j h =
          let p : at + suc j ≡ at + 1 + j = omega arith in
          let q : at' + suc j ≡ at' + 1 + j = omega arith in
          rw (p, q) at (e (suc j) (omega arith))

  pub numbers-alike : (size n at at' : ℕ) → ((j : ℕ) → j < size * n → get_or a (at + j) 0 ≡ get_or b (at' + j) 0) → numbers_from a size n at ≡ numbers_from b size n at'
  numbers-alike size zero at at' e = refl
  numbers-alike size (suc n) at at' e = ap₂ ◌∷◌ (number-alike size at at' (λ j h. e j (omega arith))) (numbers-alike size n (at + size) (at' + size) rest)
    where
      rest : (j : ℕ) → j < size * n → get_or a (at + size + j) 0 ≡ get_or b (at' + size + j) 0
      rest j h =
          let p : at + (size + j) ≡ at + size + j = omega arith in
          let q : at' + (size + j) ≡ at' + size + j = omega arith in
          rw (p, q) at (e (size + j) (omega arith))

-- a number's bytes, spelled out
one : (s : List ℕ) (at : ℕ) → number s 1 at ≡ get_or s at 0
unfolding number
one s at = omega arith

pub two : (s : List ℕ) (at : ℕ) → number s 2 at ≡ get_or s at 0 + 256 * get_or s (at + 1) 0
unfolding number
two s at = omega arith

pub four : (s : List ℕ) (at : ℕ) → number s 4 at ≡ get_or s at 0 + 256 * (get_or s (at + 1) 0 + 256 * (get_or s (at + 2) 0 + 256 * get_or s (at + 3) 0))
unfolding number
four s at =
    let second : at + 1 + 1 ≡ at + 2 = omega arith in
    let third : at + 2 + 1 ≡ at + 3 = omega arith in
    rw (second, third) (omega arith)

-- a byte of some that are read
read-byte : (n at : ℕ) (s : List ℕ) (k : ℕ) → k < n → get_or (take n (drop at s)) k 0 ≡ get_or s (at + k) 0
read-byte n at s k h = get_or-take n (drop at s) k 0 h ∙ get_or-drop at s k 0

-- std's words for the number of two and of four bytes
pub from-two : (s : List ℕ) (at : ℕ) → from_le_bytes w16 (take 2 (drop at s)) ≡ number s 2 at
from-two s at =
    omega (arith, two s at, read-byte 2 at s 0 (omega arith), read-byte 2 at s 1 (omega arith), ap (λ (k : ℕ). get_or s k 0) (add-zero at))

pub from-four : (s : List ℕ) (at : ℕ) → from_le_bytes w32 (take 4 (drop at s)) ≡ number s 4 at
from-four s at =
    omega (
      arith,
      four s at,
      read-byte 4 at s 0 (omega arith),
      read-byte 4 at s 1 (omega arith),
      read-byte 4 at s 2 (omega arith),
      read-byte 4 at s 3 (omega arith),
      ap (λ (k : ℕ). get_or s k 0) (add-zero at),
    )

-- numbers of one byte are the bytes
pub bytes-from : (s : List ℕ) (n at : ℕ) → at + n ≤ length s → take n (drop at s) ≡ numbers_from s 1 n at
bytes-from s zero at h = refl
bytes-from s (suc n) at h =
    let inside : at < length s = omega arith in
    let next : suc at ≡ at + 1 = omega arith in
    ap (take (suc n)) (drop-cons s at 0 inside)
    ∙ ap₂ ◌∷◌ (sym (one s at)) (ap (λ (k : ℕ). take n (drop k s)) next ∙ bytes-from s n (at + 1) (omega arith))

-- eight numbers
pub eight : (s : List ℕ) (size at : ℕ) → numbers_from s size 8 at
    ≡ number s size at ∷ number s size (at + size) ∷ number s size (at + 2 * size) ∷ number s size (at + 3 * size) ∷ number s size (at + 4 * size) ∷ number s size (at + 5 * size)
    ∷ number s size (at + 6 * size) ∷ number s size (at + 7 * size) ∷ []
eight s size at =
    let second : at + size + size ≡ at + 2 * size = omega arith in
    let third : at + 2 * size + size ≡ at + 3 * size = omega arith in
    let fourth : at + 3 * size + size ≡ at + 4 * size = omega arith in
    let fifth : at + 4 * size + size ≡ at + 5 * size = omega arith in
    let sixth : at + 5 * size + size ≡ at + 6 * size = omega arith in
    let seventh : at + 6 * size + size ≡ at + 7 * size = omega arith in
    rw (second, third, fourth, fifth, sixth, seventh)

-- numbers are read off their bytes
pub numbers_of_lem : (s : List ℕ) (size : ℕ) (xs : List ℕ) (at : ℕ) (rest : List ℕ) → ((i : ℕ) → get_or xs i 0 < 256 ^ size) → drop at s ≡ each (le size) xs ++ rest
    → numbers_from s size (length xs) at ≡ xs
numbers_of_lem s size [] at rest h e = refl
numbers_of_lem s size (x ∷ xs) at rest h e =
    let these : drop at s ≡ le size x ++ (each (le size) xs ++ rest) = e ∙ append_assoc (le size x) (each (le size) xs) rest in
    let others : drop (at + size) s ≡ each (le size) xs ++ rest = sym (drop-drop size at s) ∙ ap (drop size) these ∙ drop_at (le size x) _ size (le-length size x) in
    ap₂ ◌∷◌ (number_of s size x at _ (h 0) these) (numbers_of_lem s size xs (at + size) rest (λ i. h (suc i)) others)

pub each-length : (size : ℕ) (xs : List ℕ) → length (each (le size) xs) ≡ size * length xs
each-length size [] = omega arith
each-length size (x ∷ xs) = length-append (le size x) (each (le size) xs) ∙ ap₂ ◌+◌ (le-length size x) (each-length size xs) ∙ omega arith

-- ---- a number's bytes, stored one after the other

-- std's words for the bytes of a number: byte i + 1 is byte i of the number without its lowest byte
low-shifted : (i n x : ℕ) → bytes_low_first (suc i) n x ≡ bytes_low_first i n (x / 256)
low-shifted i zero x = refl
low-shifted zero (suc n) x = ap₂ ◌∷◌ refl (low-shifted 1 n x)
low-shifted (suc i) (suc n) x =
    let e : 256 ^ suc (suc i) ≡ 256 * 256 ^ suc i = omega arith in
    ap₂ (λ (d : ℕ) (ds : List ℕ). d % 256 ∷ ds) (ap (x /◌) e ∙ sym (div-div-eq-div-mul x 256 (256 ^ suc i))) (low-shifted (suc (suc i)) n x)

pub low-le : (n x : ℕ) → bytes_low_first 0 n x ≡ le n x
low-le zero x = refl
low-le (suc n) x = ap (λ (ds : List ℕ). x % 256 ∷ ds) (low-shifted 0 n x ∙ low-le n (x / 256))

pub stored : (n : ℕ) (a : List ℕ) (at x : ℕ) {b xs : List ℕ} → b ≡ sets a at xs → xs ≡ bytes_low_first 0 n x → b ≡ sets a at (le n x)
stored n a at x p q = p ∙ ap (sets a at) (q ∙ low-le n x)

-- ---- an array's numbers, stored one after the other

each_last : (size : ℕ) (xs : List ℕ) (x : ℕ) → each (le size) xs ++ le size x ≡ each (le size) (xs ++ (x ∷ []))
each_last size [] x = sym (append-nil (le size x))
each_last size (y ∷ xs) x = append_assoc (le size y) (each (le size) xs) (le size x) ∙ ap (le size y ++◌) (each_last size xs x)

module _ (size : ℕ) (xs l : List ℕ) (at : ℕ) where
  -- the first n are stored
  abbrev pub Laid : ℕ → List ℕ → Type 0
  Laid n a = a ≡ sets l at (each (le size) (take n xs))

  pub laid_none : Laid 0 l
  laid_none = refl

  -- one more
  pub laid_more : (n : ℕ) {a b : List ℕ} → n < length xs → Laid n a → (j : ℕ) → j ≡ at + size * n → b ≡ sets a j (le size (get_or xs n 0)) → Laid (suc n) b
  laid_more n h laid j e stored =
      let long : length (each (le size) (take n xs)) ≡ size * n = each-length size (take n xs) ∙ ap (λ (k : ℕ). size * k) (length-take-le n xs (omega arith)) in
      stored ∙ ap (λ (m : List ℕ). sets m j (le size (get_or xs n 0))) laid
      ∙ sets-sets (each (le size) (take n xs)) (le size (get_or xs n 0)) l at j (omega (arith, long))
      ∙ ap (sets l at) (each_last size (take n xs) (get_or xs n 0) ∙ ap (each (le size)) (sym (take-suc xs n 0 h)))

  -- eight, and there are no more
  pub laid-eight : {a b c d e f g h : List ℕ} → length xs ≡ 8 → a ≡ sets l at (le size (get_or xs 0 0)) → b ≡ sets a (at + size) (le size (get_or xs 1 0))
      → c ≡ sets b (at + 2 * size) (le size (get_or xs 2 0)) → d ≡ sets c (at + 3 * size) (le size (get_or xs 3 0)) → e ≡ sets d (at + 4 * size) (le size (get_or xs 4 0))
      → f ≡ sets e (at + 5 * size) (le size (get_or xs 5 0)) → g ≡ sets f (at + 6 * size) (le size (get_or xs 6 0)) → h ≡ sets g (at + 7 * size) (le size (get_or xs 7 0))
      → h ≡ sets l at (each (le size) xs)
  laid-eight long p0 p1 p2 p3 p4 p5 p6 p7 =
      let l1 = laid_more 0 (omega (arith, long)) laid_none at (omega arith) p0 in
      let l2 = laid_more 1 (omega (arith, long)) l1 (at + size) (omega arith) p1 in
      let l3 = laid_more 2 (omega (arith, long)) l2 (at + 2 * size) (omega arith) p2 in
      let l4 = laid_more 3 (omega (arith, long)) l3 (at + 3 * size) (omega arith) p3 in
      let l5 = laid_more 4 (omega (arith, long)) l4 (at + 4 * size) (omega arith) p4 in
      let l6 = laid_more 5 (omega (arith, long)) l5 (at + 5 * size) (omega arith) p5 in
      let l7 = laid_more 6 (omega (arith, long)) l6 (at + 6 * size) (omega arith) p6 in
      laid_more 7 (omega (arith, long)) l7 (at + 7 * size) (omega arith) p7
      ∙ ap (λ (ys : List ℕ). sets l at (each (le size) ys)) (take_all 8 xs (omega (arith, long)))

-- eight bytes
byte-stored : (l : List ℕ) (at x : ℕ) → x < 256 → set l at x ≡ sets l at (le 1 x)
byte-stored l at x h = let same : x ≡ x % 256 = omega arith in ap (set l at) same

module _ (xs l : List ℕ) (at : ℕ) (long : length xs ≡ 8) (h : (i : ℕ) → get_or xs i 0 < 256) where
  -- the first, and n after it
  abbrev bytes-to : ℕ → List ℕ
  bytes-to zero = set l at (get_or xs 0 0)
  bytes-to (suc n) = set (bytes-to n) (at + suc n) (get_or xs (suc n) 0)

  last_byte : (n : ℕ) → bytes-to (suc n) ≡ sets (bytes-to n) (at + suc n) (le 1 (get_or xs (suc n) 0))
  last_byte n = byte-stored (bytes-to n) (at + suc n) (get_or xs (suc n) 0) (h (suc n))

  pub laid-bytes : bytes-to 7 ≡ sets l at (each (le 1) xs)
  laid-bytes =
      laid-eight 1 xs l at long (byte-stored l at (get_or xs 0 0) (h 0))
      (last_byte 0) (last_byte 1) (last_byte 2) (last_byte 3) (last_byte 4) (last_byte 5) (last_byte 6)

-- bytes are numbers of one byte
pub each-byte : (xs : List ℕ) → ((i : ℕ) → get_or xs i 0 < 256) → each (le 1) xs ≡ xs
each-byte [] h = refl
each-byte (x ∷ xs) h = let same : x % 256 ≡ x = omega (arith, h 0) in ap₂ ◌∷◌ same (each-byte xs (λ i. h (suc i)))
