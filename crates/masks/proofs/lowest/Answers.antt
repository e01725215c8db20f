-- `masks::lowest` meets its contract: the zeros below a word's lowest digit that is set are as many as that digit's number, which is below 16 as long as the word is not 0.
-- Assumes nothing.
use mathlib.Core.Path.{◌≡◌}
use mathlib.Core.Bool.{true}
use Prim.Native.Nat.{ℕ}
use native.Mathlib.Omega.{arith}
use lib.Count.{count_trailing_zeros}
use Rattle.names.specs.Names.{member}
use Rattle.masks.proofs.Words.{lowest-inside, lowest-least, lowest-below}
use Rattle.masks.proofs.lowest.Goals as goal

-- the count is a rule's number already, so the remainder is the count itself
is-inside : (r t m : ℕ) → r ≡ t → member m t ≡ true → member m r ≡ true
is-inside r t m e p = rw e p

pub returns : goal.returns
returns c =
    let m = c.args.mask in
    let t = count_trailing_zeros 16 m in
    record {
      rule = omega arith;
      inside = λ h. is-inside _ t m (omega (arith, lowest-below 16 m h (omega arith))) (lowest-inside 16 m h (omega arith));
      least = λ h k g. lowest-least 16 m k (omega (arith, lowest-below 16 m h (omega arith)));
    }
