-- Bytes put one after the other: where a first part is written and then a second, both are; and where all parts fit, there is room for each. Assumes nothing.
use mathlib.Core.Path.{◌≡◌, refl, ◌∙◌, ap, ap₂, subst}
use mathlib.Core.List.{List, ◌++◌}
use Prim.Native.Nat.{ℕ, zero, suc, ◌+◌, ◌<◌}
use native.Mathlib.Numerals.{add-one}
use native.Mathlib.Omega.{arith}
use lib.ListN.{length, length-append}
use lib.Seq.{sets, length-sets}
use Rattle.layout.specs.Layout.{le}
use Rattle.store.proofs.Stores.{sets-append}
use Rattle.sheet_writer.specs.declared.Writer.{Writer}
use Rattle.sheet_writer.specs.Parts.{up_to}
use Rattle.sheet_writer.specs.Wrote.{HasRoom, Wrote}
use Rattle.sheet_writer.proofs.Lengths.{room_of}

pub le-long : (n x : ℕ) → length (le n x) ≡ n
le-long zero x = refl
le-long (suc n) x = ap suc (le-long n _)

pub wrote-is : {a b : Writer} {x y : List ℕ} → x ≡ y → Wrote a b x → Wrote a b y
wrote-is {a} {b} e w = subst (Wrote a b) e w

module _ {a b : Writer} {x : List ℕ} (first : Wrote a b x) where
  pub wrote-then : {c : Writer} {y : List ℕ} → Wrote b c y → Wrote a c (x ++ y)
  wrote-then {c} {y} then = record {
    same_buffer = then.same_buffer ∙ first.same_buffer;
    at = omega (arith, first.at, then.at, length-append x y);
    buffer = then.buffer ∙ ap₂ (λ (o : List ℕ) (i : ℕ). sets o i y) first.buffer first.at ∙ sets-append a.buffer.now x y a.at;
  }

  pub wrote-long : length b.buffer.now ≡ length a.buffer.now
  wrote-long = ap length first.buffer ∙ length-sets a.buffer.now a.at x

-- ---- parts by their numbers: those below k, and part k

module _ (g : ℕ → List ℕ) {a b : Writer} (k : ℕ) (below : Wrote a b (up_to g k)) where
  pub room-part : (n : ℕ) → k < n → HasRoom a (up_to g n) → HasRoom b (g k)
  room-part n h room = omega (arith, room_of g k n h, room, below.at, wrote-long below)

  pub wrote-part : {c : Writer} → Wrote b c (g k) → Wrote a c (up_to g (k + 1))
  wrote-part here = rw add-one (wrote-then below here)
