-- The number of some bytes goes by the bytes alone, wherever they stand, and zeros after them add nothing.
-- Assumes nothing.
use Rattle.std.proofs.Common.{◌≡◌, ℕ, zero, suc, ◌+◌, ◌<◌, ◌≤◌, List, get_or, refl, arith}
use native.Mathlib.Numerals.{unary_clauses}
use Rattle.std.specs.Int.{w64, from_le_bytes}
use Rattle.layout.specs.Form.{number}

pub number-same : (s t : List ℕ) (n at at' : ℕ) → ((i : ℕ) → i < n → get_or s (at + i) 0 ≡ get_or t (at' + i) 0) → number s n at ≡ number t n at'
unfolding number
number-same s t zero at at' h = refl
number-same s t (suc n) at at' h =
    let first : get_or s at 0 ≡ get_or t at' 0 = simp unary_clauses at (h 0 (omega arith)) in
    let others : number s n (at + 1) ≡ number t n (at' + 1)
    = number-same s t n (at + 1) (at' + 1) (λ i l. let e : at + 1 + i ≡ at + (i + 1) = omega arith in let e' : at' + 1 + i ≡ at' + (i + 1) = omega arith in rw (e, e') (h (i + 1) (omega arith))) in
    rw (first, others)

-- n bytes of 0
zeros : (t : List ℕ) (n at : ℕ) → ((i : ℕ) → at ≤ i → get_or t i 0 ≡ 0) → number t n at ≡ 0
unfolding number
zeros t zero at h = refl
zeros t (suc n) at h = let others : number t n (at + 1) ≡ 0 = zeros t n (at + 1) (λ i l. h i (omega arith)) in rw (h at (omega arith), others) refl

pub number-padded : (t : List ℕ) (n m at : ℕ) → ((i : ℕ) → at + n ≤ i → get_or t i 0 ≡ 0) → number t (n + m) at ≡ number t n at
unfolding number
number-padded t zero m at h = let e : zero + m ≡ m = omega arith in rw e (zeros t m at (λ i l. h i (omega arith)))
number-padded t (suc n) m at h =
    let e : suc n + m ≡ suc (n + m) = omega arith in
    let others : number t (n + m) (at + 1) ≡ number t n (at + 1) = number-padded t n m (at + 1) (λ i l. h i (omega arith)) in
    rw e (rw others refl)

-- eight bytes
pub number-eight : (t : List ℕ) → from_le_bytes w64 t ≡ number t 8 0
unfolding number
number-eight t = omega arith
