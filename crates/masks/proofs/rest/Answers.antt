-- `masks::rest` meets its contract: of the word and the number below it the `and` keeps every member but the lowest. Assumes nothing.
use mathlib.Core.Path.{◌≡◌, refl, sym, ap, ◌∙◌}
use mathlib.Core.Bool.{Bool, not, ◌&&◌, and-false}
use Prim.Native.Nat.{ℕ, ◌-◌, ◌<◌}
use native.Mathlib.Omega.{arith}
use lib.Bits.{bit_and}
use lib.Dec.{eqb}
use borrow.Author.Tests.{eq-eqb}
use Rattle.names.specs.Names.{member}
use Rattle.names.proofs.Digits.{member-and}
use Rattle.masks.specs.Masks.{Rest}
use Rattle.masks.proofs.Words.{and-fewer, rest-members, lowest-one}
use Rattle.masks.proofs.rest.Goals as goal

rests : (mask : ℕ) → mask < 65536 → Rest mask (bit_and mask (mask - 1))
rests mask g r h low =
    let members : (k : ℕ) → member (bit_and mask (mask - 1)) k ≡ (member mask k && not (eqb k r)) =
    λ k. member-and mask (mask - 1) k ∙ rest-members 16 mask k h g ∙ ap (λ (t : ℕ). member mask k && not (eqb k t)) (sym (lowest-one 16 mask r h g (low.inside h) (low.least h))) in
    record {
      members = members;
      fewer = λ p. and-fewer mask (mask - 1) r p (members r ∙ ap (λ (x : Bool). member mask r && not x) (eq-eqb r r refl) ∙ and-false (member mask r));
    }

pub returns-then-mask-eq0 : goal.returns-then-mask-eq0
returns-then-mask-eq0 c = λ r h low. absurd (omega (arith, c.if-mask-eq0.true, h))

pub returns : goal.returns
returns c = rests c.args.mask (omega arith)
