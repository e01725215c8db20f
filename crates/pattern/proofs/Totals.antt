-- How often a name occurs in a word, and whether it does so in a row. What blocks that are concatenated and blocks that are shuffled have in common is said here: `total-together`, and `split`, by which
-- a word is its events on a name together with the others.
-- Assumes nothing.
use mathlib.Core.Path.{◌≡◌, refl, sym, ◌∙◌, ap}
use mathlib.Core.Logic.{inl, inr, ◌≢◌}
use mathlib.Core.Bool.{Bool, true, false, cond}
use mathlib.Core.List.{List, [], ◌∷◌, ◌++◌}
use Prim.Native.Nat.{ℕ, zero, suc, ◌+◌, ◌≤◌}
use native.Mathlib.Omega.{arith}
use lib.Dec.{T, eqb, eqb→eq}
use lib.ListN.{length, replicate}
use borrow.Author.Tests.{eq-eqb, ne_eqb}
use Rattle.pattern.specs.Lists.{In}
use Rattle.pattern.specs.Meaning.{Shuffle, Together}
use Rattle.pattern.specs.Totals.{total}
use Rattle.pattern.proofs.Basics.{same?}

-- those of n, if any, come first; they come in a row
abbrev pub front : ℕ → List ℕ → Bool
front n [] = true
front n (m ∷ w) = cond (eqb m n) (front n w) (eqb (total n w) 0)

abbrev pub row : ℕ → List ℕ → Bool
row n [] = true
row n (m ∷ w) = cond (eqb m n) (front n w) (row n w)

-- the word without n
abbrev pub less : ℕ → List ℕ → List ℕ
less n [] = []
less n (m ∷ w) = cond (eqb m n) (less n w) (m ∷ less n w)

pub zero_test : (k : ℕ) → k ≡ 0 → T (eqb k 0)
zero_test k e = rw e tt

-- ---- totals

module _ (n : ℕ) where
  pub total-own : (m : ℕ) (w : List ℕ) → m ≡ n → total n (m ∷ w) ≡ suc (total n w)
  total-own m w e = rw (eq-eqb m n e)

  pub total-sibling : (m : ℕ) (w : List ℕ) → m ≢ n → total n (m ∷ w) ≡ total n w
  total-sibling m w d = rw (ne_eqb m n d)

  pub total-append : (a b : List ℕ) → total n (a ++ b) ≡ total n a + total n b
  total-append [] b = omega arith
  total-append (m ∷ a) b = elim (same? m n) [ inl e ↦ rw (eq-eqb m n e) (omega (arith, total-append a b)) | inr d ↦ rw (ne_eqb m n d) (total-append a b) ]

  pub total-same : (k : ℕ) → total n (replicate k n) ≡ k
  total-same zero = refl
  total-same (suc k) = rw (eq-eqb n n refl) (ap suc (total-same k))

  pub total-other : (m k : ℕ) → m ≢ n → total n (replicate k m) ≡ 0
  total-other m zero d = refl
  total-other m (suc k) d = rw (ne_eqb m n d) (total-other m k d)

  total-shuffle : (w a b : List ℕ) → Shuffle a b w → total n w ≡ total n a + total n b
  total-shuffle [] a b (p, q) = rw (p, q)
  total-shuffle (m ∷ w) a b (inl (a', q, h)) = rw q (elim (same? m n) [ inl e ↦ rw (eq-eqb m n e) (omega (arith, total-shuffle w a' b h)) | inr d ↦ rw (ne_eqb m n d) (total-shuffle w a' b h) ])
  total-shuffle (m ∷ w) a b (inr (b', q, h)) = rw q (elim (same? m n) [ inl e ↦ rw (eq-eqb m n e) (omega (arith, total-shuffle w a b' h)) | inr d ↦ rw (ne_eqb m n d) (total-shuffle w a b' h) ])

  pub total-together : (s : Bool) (a b w : List ℕ) → Together s a b w → total n w ≡ total n a + total n b
  total-together false a b w e = ap (total n) e ∙ total-append a b
  total-together true a b w h = total-shuffle w a b h

  pub total-in : (w : List ℕ) → In n w → 1 ≤ total n w
  total-in [] x' = elim x' [ ]
  total-in (m ∷ w) (inl e) = rw (eq-eqb m n (sym e)) (omega arith)
  total-in (m ∷ w) (inr i) = elim (same? m n) [ inl e ↦ rw (eq-eqb m n e) (omega arith) | inr d ↦ rw (ne_eqb m n d) (total-in w i) ]

  pub in-total : (w : List ℕ) → 1 ≤ total n w → In n w
  in-total [] h = absurd (omega (arith, h))
  in-total (m ∷ w) h = elim (same? m n) [ inl e ↦ inl (sym e) | inr d ↦ inr (in-total w (rw (ne_eqb m n d) at h)) ]

-- ---- in a row

module _ (n : ℕ) where
  pub front-none : (w : List ℕ) → total n w ≡ 0 → T (front n w)
  front-none [] z = tt
  front-none (m ∷ w) z = elim (same? m n) [ inl e ↦ absurd (omega (arith, total-own n m w e)) | inr d ↦ rw (ne_eqb m n d) (zero_test (total n w) (rw (ne_eqb m n d) at z)) ]

  pub row-none : (w : List ℕ) → total n w ≡ 0 → T (row n w)
  row-none [] z = tt
  row-none (m ∷ w) z = elim (same? m n) [ inl e ↦ absurd (omega (arith, total-own n m w e)) | inr d ↦ rw (ne_eqb m n d) (row-none w (rw (ne_eqb m n d) at z)) ]

  pub front-block : (k : ℕ) (b : List ℕ) → T (front n b) → T (front n (replicate k n ++ b))
  front-block zero b h = h
  front-block (suc k) b h = rw (eq-eqb n n refl) (front-block k b h)

  pub row_block : (k : ℕ) (b : List ℕ) → total n b ≡ 0 → T (row n (replicate k n ++ b))
  row_block zero b z = row-none b z
  row_block (suc k) b z = rw (eq-eqb n n refl) (front-block k b (front-none b z))

  pub row-past : (k m : ℕ) (b : List ℕ) → m ≢ n → T (row n b) → T (row n (replicate k m ++ b))
  row-past zero m b d h = h
  row-past (suc k) m b d h = rw (ne_eqb m n d) (row-past k m b d h)

  pub row-after : (a b : List ℕ) → total n a ≡ 0 → T (row n b) → T (row n (a ++ b))
  row-after [] b z h = h
  row-after (m ∷ a) b z h = elim (same? m n) [ inl e ↦ absurd (omega (arith, total-own n m a e)) | inr d ↦ rw (ne_eqb m n d) (row-after a b (rw (ne_eqb m n d) at z) h) ]

-- ---- an event once more, where it stands

module _ (n m : ℕ) (v : List ℕ) where
  front-again : (a : List ℕ) → T (front n ((a ++ (m ∷ [])) ++ v)) → T (front n ((a ++ (m ∷ [])) ++ (m ∷ v)))
  front-again [] h = elim (same? m n) [ inl e ↦ rw (eq-eqb m n e) (rw (eq-eqb m n e) at h) | inr d ↦ rw (ne_eqb m n d) (rw (ne_eqb m n d) at h) ]
  front-again (k ∷ a) h = elim (same? k n) [
    | inl e ↦ rw (eq-eqb k n e) (front-again a (rw (eq-eqb k n e) at h))
    | inr d ↦
        let b : List ℕ = a ++ (m ∷ []) in
        let z : total n (b ++ v) ≡ 0 = eqb→eq (total n (b ++ v)) 0 (rw (ne_eqb k n d) at h) in
        rw (ne_eqb k n d) (zero_test (total n (b ++ (m ∷ v))) (omega (arith, total-append n b v, total-append n b (m ∷ v), total-append n a (m ∷ []), total-append n (m ∷ []) v)))
  ]

  pub row-again : (a : List ℕ) → T (row n ((a ++ (m ∷ [])) ++ v)) → T (row n ((a ++ (m ∷ [])) ++ (m ∷ v)))
  row-again [] h = elim (same? m n) [ inl e ↦ rw (eq-eqb m n e) (rw (eq-eqb m n e) at h) | inr d ↦ rw (ne_eqb m n d) (rw (ne_eqb m n d) at h) ]
  row-again (k ∷ a) h = elim (same? k n) [ inl e ↦ rw (eq-eqb k n e) (front-again a (rw (eq-eqb k n e) at h)) | inr d ↦ rw (ne_eqb k n d) (row-again a (rw (ne_eqb k n d) at h)) ]

-- ---- a word without a name

module _ (n : ℕ) where
  pub less-same : (w : List ℕ) → total n (less n w) ≡ 0
  less-same [] = refl
  less-same (m ∷ w) = elim (same? m n) [ inl e ↦ rw (eq-eqb m n e) (less-same w) | inr d ↦ rw (ne_eqb m n d, ne_eqb m n d) (less-same w) ]

  pub less-length : (w : List ℕ) → length (less n w) ≤ length w
  less-length [] = omega arith
  less-length (m ∷ w) = elim (same? m n) [ inl e ↦ rw (eq-eqb m n e) (omega (arith, less-length w)) | inr d ↦ rw (ne_eqb m n d) (omega (arith, less-length w)) ]

  pub less-in : (x : ℕ) (w : List ℕ) → In x (less n w) → In x w
  less-in x [] h = elim h [ ]
  less-in x (m ∷ w) h = elim (same? m n) [ inl e ↦ inr (less-in x w (rw (eq-eqb m n e) at h)) | inr d ↦ elim (rw (ne_eqb m n d) at h) [ inl q ↦ inl q | inr i ↦ inr (less-in x w i) ] ]

  less_none : (w : List ℕ) → total n w ≡ 0 → less n w ≡ w
  less_none [] z = refl
  less_none (m ∷ w) z = elim (same? m n) [ inl e ↦ absurd (omega (arith, total-own n m w e)) | inr d ↦ rw (ne_eqb m n d) (ap (λ (l : List ℕ). m ∷ l) (less_none w (rw (ne_eqb m n d) at z))) ]

  -- what it says of another name
  module _ (k : ℕ) (apart : n ≢ k) where
    other : (m : ℕ) → m ≡ n → eqb m k ≡ false
    other m e = ne_eqb m k (λ (q : m ≡ k). apart (sym e ∙ q))

    pub less-total : (w : List ℕ) → total k (less n w) ≡ total k w
    less-total [] = refl
    less-total (m ∷ w) = elim (same? m n) [ inl e ↦ rw (eq-eqb m n e, other m e) (less-total w) | inr d ↦ rw (ne_eqb m n d, less-total w) ]

    less-front : (w : List ℕ) → T (front k w) → T (front k (less n w))
    less-front [] h = tt
    less-front (m ∷ w) h = elim (same? m n) [
      | inl e ↦ rw (eq-eqb m n e) (front-none k (less n w) (less-total w ∙ eqb→eq (total k w) 0 (rw (other m e) at h)))
      | inr d ↦ elim (same? m k) [
        | inl q ↦ rw (ne_eqb m n d, eq-eqb m k q) (less-front w (rw (eq-eqb m k q) at h))
        | inr q ↦ rw (ne_eqb m n d, ne_eqb m k q, less-total w) (rw (ne_eqb m k q) at h)
      ]
    ]

    pub less-row : (w : List ℕ) → T (row k w) → T (row k (less n w))
    less-row [] h = tt
    less-row (m ∷ w) h = elim (same? m n) [
      | inl e ↦ rw (eq-eqb m n e) (less-row w (rw (other m e) at h))
      | inr d ↦ elim (same? m k) [
        | inl q ↦ rw (ne_eqb m n d, eq-eqb m k q) (less-front w (rw (eq-eqb m k q) at h))
        | inr q ↦ rw (ne_eqb m n d, ne_eqb m k q) (less-row w (rw (ne_eqb m k q) at h))
      ]
    ]

-- ---- a word is its events on a name, and the others: concatenated where the name comes first, shuffled at any rate

module _ (n : ℕ) where
  split-front : (w : List ℕ) → T (front n w) → w ≡ replicate (total n w) n ++ less n w
  split-front [] h = refl
  split-front (m ∷ w) h = elim (same? m n) [
    | inl e ↦ rw (eq-eqb m n e) (cc (e, split-front w (rw (eq-eqb m n e) at h)))
    | inr d ↦ let z : total n w ≡ 0 = eqb→eq (total n w) 0 (rw (ne_eqb m n d) at h) in rw (ne_eqb m n d, z, less_none n w z)
  ]

  split-shuffle : (w : List ℕ) → Shuffle (replicate (total n w) n) (less n w) w
  split-shuffle [] = (refl, refl)
  split-shuffle (m ∷ w) = elim (same? m n) [
    | inl e ↦ rw (eq-eqb m n e) (inl (replicate (total n w) n, rw e, split-shuffle w))
    | inr d ↦ rw (ne_eqb m n d) (inr (less n w, refl, split-shuffle w))
  ]

  -- where the word begins with the name, its row is its front
  pub split : (s : Bool) (w : List ℕ) → (s ≡ false → T (row n (n ∷ w))) → Together s (replicate (total n (n ∷ w)) n) (less n (n ∷ w)) (n ∷ w)
  split false w h = split-front (n ∷ w) (rw (eq-eqb n n refl) (rw (eq-eqb n n refl) at (h refl)))
  split true w h = split-shuffle (n ∷ w)
