-- A field is read off the word that it was put into: the lowest one as it is, and each one above as it is in the fields above. So a field's place is the sum of the widths below it.
-- Assumes nothing.
use mathlib.Core.Path.{◌≡◌, refl, sym, ◌∙◌, ap}
use mathlib.Core.Bool.{Bool, true, false}
use Prim.Native.Nat.{ℕ, ◌+◌, ◌/◌, ◌%◌, ◌^◌, ◌<◌}
use native.Mathlib.Nat.{add-mul-div_left, add-mul-mod_self_left, div-eq_of_lt, mod-eq_of_lt, div-one, zero-add}
use native.Mathlib.Omega.{arith}
use lib.Dec.{eqb}
use lib.Pow.{pow_pos, shr-shr}
use Rattle.bits.specs.Bits.{part, over, flag, flag_at}

-- the same field
pub lowest : (width : ℕ) {x : ℕ} (above : ℕ) → x < 2 ^ width → part 0 width (over width x above) ≡ x
lowest width {x} above h = rw div-one (add-mul-mod_self_left x (2 ^ width) above ∙ mod-eq_of_lt h)

-- another field
pub higher : (width at w : ℕ) {x : ℕ} (above : ℕ) → x < 2 ^ width → part (width + at) w (over width x above) ≡ part at w above
higher width at w {x} above h =
    let rest : over width x above / 2 ^ width ≡ above = add-mul-div_left x above (pow_pos width) ∙ rw (div-eq_of_lt h) (zero-add above) in
    ap (λ (n : ℕ). n % 2 ^ w) (sym (shr-shr (over width x above) width at) ∙ ap (λ (n : ℕ). n / 2 ^ at) rest)

-- ---- a field of one bit

pub flag_small : (b : Bool) → flag b < 2
flag_small true = omega arith
flag_small false = omega arith

pub flag-says : (at word : ℕ) {b : Bool} → part at 1 word ≡ flag b → flag_at at word ≡ b
flag-says at word {b} e = rw e (look b)
  where
    look : (b : Bool) → eqb (flag b) 1 ≡ b
    look true = refl
    look false = refl
