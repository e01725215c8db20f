-- Bytes, stored one after the other: what is left to store of a number after some of its bytes, and two runs in a row. Assumes nothing.
use mathlib.Core.Path.{◌≡◌, ◌∙◌, ap}
use mathlib.Core.List.{List, [], ◌∷◌, ◌++◌}
use Prim.Native.Nat.{ℕ, suc, ◌+◌, ◌-◌, ◌%◌, ◌/◌, ◌≤◌, ◌<◌}
use native.Mathlib.Omega.{arith}
use lib.ListN.{length, set, length-set}
use lib.Seq.{sets}
use Rattle.layout.specs.Layout.{le}

module _ (l : List ℕ) (at n x : ℕ) where
  abbrev pub Storing : List ℕ → ℕ → ℕ → Type 0
  Storing out rest i = (i ≤ n) × (length out ≡ length l) × (sets l at (le n x) ≡ sets out (at + i) (le (n - i) rest))

  pub storing-more : (out : List ℕ) (rest i : ℕ) → Storing out rest i → i < n → Storing (set out (at + i) (rest % 256)) (rest / 256) (i + 1)
  storing-more out rest i (a, e, p) h =
      let m : n - i ≡ suc (n - (i + 1)) = omega arith in
      let j : suc (at + i) ≡ at + (i + 1) = omega arith in (
        omega arith,
        length-set out (at + i) (rest % 256) ∙ e,
        p ∙ ap (λ (k : ℕ). sets out (at + i) (le k rest)) m ∙ ap (λ (k : ℕ). sets (set out (at + i) (rest % 256)) k (le (n - (i + 1)) (rest / 256))) j,
      )

-- a second run of bytes where the first one ends: one run of both
pub sets-append : (l a b : List ℕ) (at : ℕ) → sets (sets l at a) (at + length a) b ≡ sets l at (a ++ b)
sets-append l [] b at = let e : at + 0 ≡ at = omega arith in ap (λ (k : ℕ). sets l k b) e
sets-append l (x ∷ a) b at =
    let e : at + suc (length a) ≡ suc at + length a = omega arith in
    ap (λ (k : ℕ). sets (sets l at (x ∷ a)) k b) e ∙ sets-append (set l at x) a b (suc at)
