-- Document 02, change 2: "until Q or the trigger comes, a finished P whose last event is on such a range can grow", by any number of events of that range and for every join (`endless-p-grows`).
-- The law behind it is `inserted`: one more event of a range without an upper end, where it has begun and no sibling has closed its block, leaves the total of every other range and every row, and
-- no total of the range's own is too high.
-- Assumes nothing.
use mathlib.Core.Path.{◌≡◌, refl, sym, ◌∙◌, ap}
use mathlib.Core.Logic.{◌⊎◌, inl, inr, ◌≢◌}
use mathlib.Core.Bool.{Bool, false}
use mathlib.Core.List.{List, [], ◌∷◌, ◌++◌, append_assoc, append-nil, tail-eq_of_cons-eq}
use Prim.Native.Nat.{ℕ, ◌+◌, ◌≤◌}
use native.Mathlib.Omega.{arith}
use lib.ListN.{length, length-append}
use Rattle.pattern.specs.Lists.{In, Distinct, Each}
use Rattle.pattern.specs.Meaning.{Event, names, Range, AtMost, may_be_left_out, shuffled, Fragment, MatchesFragment, MatchesOrdering, fragment_names, WellFormedRange, WellFormedFragment}
use Rattle.pattern.specs.Totals.{total}
use Rattle.pattern.specs.Endless.{EndsOn}
use Rattle.pattern.proofs.Basics.{same?, in-append, in_left, in_right, in_map, each_in, distinct-map}
use Rattle.pattern.proofs.Totals.{total-append, total-sibling, total-in, row-again}
use Rattle.pattern.proofs.Block.{fewer, Unique, Asks, AskedOf, match→asked, match-some, asked→match}

-- ---- lists of events

pub names-append : (a b : List Event) → names (a ++ b) ≡ names a ++ names b
names-append [] b = refl
names-append (e ∷ a) b = ap (λ (l : List ℕ). e.name ∷ l) (names-append a b)

-- a list that ends on a name, as a word
pub ends-names : (n : ℕ) (w : List Event) → EndsOn n w → (b : List ℕ) × (names w ≡ b ++ (n ∷ []))
ends-names n w (a, e, q, k) = (names a, ap names q ∙ names-append a (e ∷ []) ∙ rw k)

-- the last event of a list is that of its second part, where there is one
ends-right : (n : ℕ) (a b : List Event) → b ≢ [] → EndsOn n (a ++ b) → EndsOn n b
ends-right n a [] some h = absurd (some refl)
ends-right n [] (y ∷ b) some h = h
ends-right n (x ∷ a) (y ∷ b) some ([], e, q, k) = absurd (omega (arith, simp length-append at (ap length q)))
ends-right n (x ∷ a) (y ∷ b) some (z ∷ c, e, q, k) = ends-right n a (y ∷ b) some (c, e, tail-eq_of_cons-eq q, k)

-- ---- one more event in a fragment

-- in a word of the fragment the range has begun, and in a row no sibling has closed its block
abbrev pub Going : Fragment → Range → List ℕ → Type 0
Going f x a = In x.name a × (shuffled f.join ≡ false → (b : List ℕ) × (a ≡ b ++ (x.name ∷ [])))

pub going-after : (f : Fragment) (x : Range) (a w : List ℕ) → Going f x w → Going f x (a ++ w)
going-after f x a w (begun, last) = (in_right x.name a w begun, λ s. let (b, q) = last s in (a ++ b, rw (q, append_assoc)))

module _ (f : Fragment) (once : Distinct (fragment_names f)) (some : (r : Range) → In r f.ranges → 1 ≤ r.u) (x : Range) (i : In x f.ranges) (endless : x.v ≡ 0) where
  unique : Unique f.ranges
  unique = distinct-map (λ (r : Range). r.name) f.ranges once

  -- after the word a, before the word v
  module _ (a v : List ℕ) (going : Going f x a) where
    abbrev longer : List ℕ
    longer = a ++ (x.name ∷ v)

    rises : (n : ℕ) → total n longer ≡ total n (a ++ v) + total n (x.name ∷ [])
    rises n = omega (arith, total-append n a v, total-append n a (x.name ∷ v), total-append n (x.name ∷ []) v)

    left_out : (n : ℕ) → total n (a ++ v) ≡ 0 → total n longer ≡ 0
    left_out n z = elim (same? x.name n) [
      | inl e ↦ absurd (omega (arith, total-append n a v, total-in n a (rw (← e) going.0)))
      | inr d ↦ omega (arith, rises n, total-sibling n x.name [] d)
    ]

    at_most : (r : Range) → In r f.ranges → AtMost r (total r.name (a ++ v)) → AtMost r (total r.name longer)
    at_most r k high = elim (same? x.name r.name) [
      | inl e ↦ inl (rw (unique r x k i (sym e)) endless)
      | inr d ↦ fewer r (omega (arith, rises r.name, total-sibling r.name x.name [] d)) high
    ]

    asks : (o : Bool) (r : Range) → In r f.ranges → Asks o (shuffled f.join) r (a ++ v) → Asks o (shuffled f.join) r longer
    asks o r k (inl (z, t)) = inl (left_out r.name z, t)
    asks o r k (inr (low, high, row)) = inr (omega (arith, low, rises r.name), at_most r k high, λ s. let (b, q) = going.1 s in rw q (row-again r.name x.name v b (rw q at (row s))))

    asked : AskedOf f unique (a ++ v) → AskedOf f unique longer
    asked h = record { on = λ m j. on m (in-append m a (x.name ∷ v) j); asks = λ r k. asks (may_be_left_out f.join) r k (h.asks r k) }
      where
        on : (m : ℕ) → In m a ⊎ In m (x.name ∷ v) → In m (fragment_names f)
        on m (inl j) = h.on m (in_left m a v j)
        on m (inr (inl e)) = rw e (in_map (λ (r : Range). r.name) f.ranges x i)
        on m (inr (inr j)) = h.on m (in_right m a v j)

  pub inserted : (a v : List ℕ) → Going f x a → MatchesFragment f (a ++ v) → MatchesFragment f (a ++ (x.name ∷ v))
  inserted [] v g h = absurd g.0
  inserted (m ∷ a) v g h = asked→match f unique some m (a ++ (x.name ∷ v)) (asked (m ∷ a) v g (match→asked f unique (m ∷ (a ++ v)) h))

  -- ---- an ordering whose last fragment this is

  module _ (e : Event) (named : e.name ≡ x.name) where
    grown : (a b : List Event) → EndsOn x.name (a ++ b) → MatchesFragment f (names b) → MatchesFragment f (names (b ++ (e ∷ [])))
    grown a b h m =
        let (c, q) = ends-names x.name b (ends-right x.name a b (λ z. match-some f unique some (names b) m x i (ap names z)) h) in
        rw (names-append b (e ∷ []), named) (inserted (names b) [] (rw q (in_right x.name c (x.name ∷ []) (inl refl)), λ p. (c, q)) (rw append-nil m))

    last-grows : (fs : List Fragment) (a w : List Event) → EndsOn x.name (a ++ w) → MatchesOrdering (fs ++ (f ∷ [])) w → MatchesOrdering (fs ++ (f ∷ [])) (w ++ (e ∷ []))
    last-grows [] a w h (v, b, q, m, z) = (w ++ (e ∷ []), [], sym (append-nil (w ++ (e ∷ []))), grown a w h (rw (q, z, append-nil v) m), refl)
    last-grows (g ∷ fs) a w h (v, b, q, m, ms) = (v, b ++ (e ∷ []), rw q (append_assoc v b (e ∷ [])), m, last-grows fs (a ++ v) b (rw append_assoc (rw q at h)) ms)

  p-grows : (fs : List Fragment) (w : List Event) → MatchesOrdering (fs ++ (f ∷ [])) w → EndsOn x.name w → (more : List Event) → Each (λ (e : Event). e.name ≡ x.name) more
      → MatchesOrdering (fs ++ (f ∷ [])) (w ++ more)
  p-grows fs w m h [] k = rw append-nil m
  p-grows fs w m h (e ∷ more) k = rw (← append_assoc w (e ∷ []) more) (p-grows fs (w ++ (e ∷ [])) (last-grows e k.0 fs [] w h m) (w, e, refl, k.0) more k.1)

-- "a finished P whose last event is on such a range can grow": P's last fragment is f
pub endless-p-grows : (fs : List Fragment) (f : Fragment) → WellFormedFragment f → Distinct (fragment_names f) → (x : Range) → In x f.ranges → x.v ≡ 0
    → (w : List Event) → MatchesOrdering (fs ++ (f ∷ [])) w → EndsOn x.name w → (more : List Event) → Each (λ (e : Event). e.name ≡ x.name) more → MatchesOrdering (fs ++ (f ∷ [])) (w ++ more)
endless-p-grows fs f well once x i endless = p-grows f once (λ r k. (each_in WellFormedRange f.ranges well.ranges r k).some) x i endless fs
