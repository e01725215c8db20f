-- Document 02's words for a shuffled fragment, change 1: totals in the place of blocks. `Meaning` says it by blocks, as document 000 does; that both say the same is `shuffled-totals` (`proofs/Shuffled`).
-- Assumes nothing.
use Rattle.std.specs.Prelude.{Bool, true, false, cond, List, [], ◌∷◌, ℕ, suc, eqb}
use Rattle.pattern.specs.Lists.{In}
use Rattle.pattern.specs.Meaning.{Range, Enough, AtMost, Fragment, may_be_left_out, fragment_names}

-- how often n occurs
abbrev pub total : ℕ → List ℕ → ℕ
total n [] = 0
total n (m ∷ w) = cond (eqb m n) (suc (total n w)) (total n w)

-- "Join 2 needs every name; join 3 needs at least one": whether a range may be left out is all that tells them apart
abbrev pub Needed : Bool → List Range → List ℕ → Type 0
Needed false ranges w = (r : Range) → In r ranges → In r.name w
Needed true ranges w = (r : Range) × In r ranges × In r.name w

pub record Totals (f : Fragment) (w : List ℕ) : Type 0 where
  pub on : (m : ℕ) → In m w → In m (fragment_names f)
  pub needed : Needed (may_be_left_out f.join) f.ranges w
  -- "each name's total in the fragment is what lies between u and v", "each name used must reach u"
  pub between : (r : Range) → In r f.ranges → In r.name w → Enough r (total r.name w) × AtMost r (total r.name w)
