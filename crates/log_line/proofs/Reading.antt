-- A numeral, read from left to right, is the number: `reads-back`.
-- Assumes nothing.
use mathlib.Core.Path.{◌≡◌, refl, ◌∙◌}
use mathlib.Core.Bool.{Bool, true, false, cond}
use mathlib.Core.List.{List, [], ◌∷◌, ◌++◌}
use Prim.Native.Nat.{ℕ, zero, suc, ◌+◌, ◌-◌, ◌*◌, ◌/◌, ◌%◌, ◌<◌}
use native.Mathlib.Omega.{arith}
use lib.Dec.{ltb}
use Rattle.log_line.specs.Line.{digit, decimal, numeral}
use Rattle.log_line.proofs.Digits.{Few}

-- the number that digits after a number make of it
abbrev pub value_from : ℕ → List ℕ → ℕ
value_from n [] = n
value_from n (c ∷ cs) = value_from (10 * n + (c - 48)) cs

one_more : (n c : ℕ) (cs : List ℕ) → value_from n (cs ++ (c ∷ [])) ≡ 10 * value_from n cs + (c - 48)
one_more n c [] = refl
one_more n c (d ∷ cs) = one_more (10 * n + (d - 48)) c cs

reads : (k x : ℕ) → Few k x → value_from 0 (decimal (suc k) x) ≡ x
reads zero x few = look (ltb x 10) refl
  where
    look : (b : Bool) → ltb x 10 ≡ b → value_from 0 (cond b (digit x ∷ []) ([] ++ (digit (x % 10) ∷ []))) ≡ x
    look true e = omega arith
    look false e = omega arith
reads (suc k) x few = look (ltb x 10) (reads k (x / 10) few)
  where
    look : (b : Bool) → value_from 0 (decimal (suc k) (x / 10)) ≡ x / 10 → value_from 0 (cond b (digit x ∷ []) (decimal (suc k) (x / 10) ++ (digit (x % 10) ∷ []))) ≡ x
    look true e = omega arith
    look false e = one_more 0 (digit (x % 10)) (decimal (suc k) (x / 10)) ∙ omega arith

pub reads-back : (x : ℕ) → x < 4294967296 → value_from 0 (numeral x) ≡ x
reads-back x h = reads 9 x (omega arith)
