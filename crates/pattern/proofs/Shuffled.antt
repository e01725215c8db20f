-- Document 02's three sentences on shuffled fragments are what `Meaning` says: `shuffled-totals`. A match asks of each range a total within its bounds, or none where the range may be left out (`Block`);
-- shuffled, it asks for no row. No condition on the word: the empty one has neither a match nor the totals.
-- Assumes nothing.
use mathlib.Core.Path.{◌≡◌, refl, sym, ◌∙◌}
use mathlib.Core.Logic.{inl, inr, ◌↔◌}
use mathlib.Core.Bool.{Bool, true, false, true≢false}
use mathlib.Core.List.{List, [], ◌∷◌}
use Prim.Native.Nat.{ℕ, ◌≤◌}
use native.Mathlib.Nat.{le_trans}
use native.Mathlib.Omega.{arith}
use Rattle.pattern.specs.Lists.{In, Distinct}
use Rattle.pattern.specs.Meaning.{Range, Enough, AtMost, Fragment, may_be_left_out, shuffled, MatchesFragment, fragment_names, WellFormedRange, WellFormedFragment}
use Rattle.pattern.specs.Totals.{total, Needed, Totals}
use Rattle.pattern.proofs.Basics.{some_in, none_or_some, each_in, of_map, distinct-map}
use Rattle.pattern.proofs.Totals.{total-in, in-total}
use Rattle.pattern.proofs.Block.{Unique, Asks, match→asked, match-some, asked→match}

module _ (f : Fragment) (well : WellFormedFragment f) (once : Distinct (fragment_names f)) (free : shuffled f.join ≡ true) where
  unique : Unique f.ranges
  unique = distinct-map (λ (r : Range). r.name) f.ranges once

  some : (r : Range) → In r f.ranges → 1 ≤ r.u
  some r i = (each_in WellFormedRange f.ranges well.ranges r i).some

  abbrev o : Bool
  o = may_be_left_out f.join

  abbrev s : Bool
  s = shuffled f.join

  -- ---- a match has the totals

  needed : (o : Bool) (w : List ℕ) → ((r : Range) → In r f.ranges → Asks o s r w) → (r : Range) × In r f.ranges × In r.name w → Needed o f.ranges w
  needed true w asks one = one
  needed false w asks one = λ r i. elim (asks r i) [ inl z ↦ absurd z.1 | inr z ↦ in-total r.name w (le_trans (some r i) z.0) ]

  match→totals : (w : List ℕ) → MatchesFragment f w → Totals f w
  match→totals [] h = let (r, i) = some_in f.ranges well.count.0 in absurd (match-some f unique some [] h r i refl)
  match→totals (m ∷ w) h =
      let k = match→asked f unique (m ∷ w) h in
      let (r, i, e) = of_map (λ (r : Range). r.name) f.ranges m (k.on m (inl refl)) in
      record { on = k.on; needed = needed o (m ∷ w) k.asks (r, i, inl (sym e)); between = λ x ix used. between x (k.asks x ix) (total-in x.name (m ∷ w) used) }
    where
      between : (r : Range) → Asks o s r (m ∷ w) → 1 ≤ total r.name (m ∷ w) → Enough r (total r.name (m ∷ w)) × AtMost r (total r.name (m ∷ w))
      between r (inl z) used = absurd (omega (arith, z.0))
      between r (inr z) used = (z.0, z.1)

  -- ---- and the totals make a match

  module _ (w : List ℕ) (t : Totals f w) where
    left_out : (r : Range) → In r f.ranges → total r.name w ≡ 0 → (o : Bool) → Needed o f.ranges w → Asks o s r w
    left_out r i z true n = inl (z, tt)
    left_out r i z false n = absurd (let l = total-in r.name w (n r i) in omega arith)

    asks : (r : Range) → In r f.ranges → Asks o s r w
    asks r i = elim (none_or_some (total r.name w)) [
      | inl z ↦ left_out r i z o t.needed
      | inr l ↦ let (low, high) = t.between r i (in-total r.name w l) in inr (low, high, λ row. absurd (true≢false (sym free ∙ row)))
    ]

  -- the empty word lacks what is needed
  none_needed : (o : Bool) → Needed o f.ranges [] → ⊥
  none_needed true (r, i, used) = used
  none_needed false every = let (r, i) = some_in f.ranges well.count.0 in every r i

  totals→match : (w : List ℕ) → Totals f w → MatchesFragment f w
  totals→match [] t = absurd (none_needed o t.needed)
  totals→match (m ∷ w) t = asked→match f unique some m w (record { on = t.on; asks = asks (m ∷ w) t })

  -- "each name's total in the fragment is what lies between u and v. Join 2 needs every name; join 3 needs at least one, and each name used must reach u"
  pub shuffled-totals : (w : List ℕ) → MatchesFragment f w ↔ Totals f w
  shuffled-totals w = (match→totals w, totals→match w)
