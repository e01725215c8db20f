-- The names of a list of fragments and their places: each name is at one, and at no other where none occurs twice.
-- Assumes nothing.
use mathlib.Core.Path.{◌≡◌, refl, ap, sym, subst}
use mathlib.Core.Logic.{◌⊎◌, inl, inr}
use mathlib.Core.List.{List, [], ◌∷◌, map}
use Prim.Native.Nat.{ℕ, zero, suc, ◌<◌}
use native.Mathlib.Omega.{arith}
use lib.ListN.{length, get_or}
use Rattle.pattern.specs.Lists.{In, Distinct}
use Rattle.pattern.specs.Meaning.{Range, Fragment, fragment_names, ordering_names}
use Rattle.pattern.specs.Model.{no_fragment}
use Rattle.pattern.proofs.Basics.{in_left, in_right, distinct-left, distinct-right, distinct_apart}
use Rattle.layout.specs.Pages.{no_range}
use Rattle.layout.proofs.Sets.{in_either}

-- the name of range i of a list, and of fragment n's
abbrev name_of : List Range → ℕ → ℕ
name_of rs i = (get_or rs i no_range).name

abbrev ranges_of : List Fragment → ℕ → List Range
ranges_of fs n = (get_or fs n no_fragment).ranges

pub in-names : (rs : List Range) (i : ℕ) → i < length rs → In (name_of rs i) (map (λ (r : Range). r.name) rs)
in-names [] i h = absurd (omega (arith, h))
in-names (r ∷ rs) zero h = inl refl
in-names (r ∷ rs) (suc i) h = inr (in-names rs i (omega (arith, h)))

pub in-ordering : (fs : List Fragment) (n i : ℕ) → n < length fs → i < length (ranges_of fs n) → In (name_of (ranges_of fs n) i) (ordering_names fs)
in-ordering [] n i h l = absurd (omega (arith, h))
in-ordering (f ∷ fs) zero i h l = in_left _ (fragment_names f) (ordering_names fs) (in-names f.ranges i l)
in-ordering (f ∷ fs) (suc n) i h l = in_right _ (fragment_names f) (ordering_names fs) (in-ordering fs n i (omega (arith, h)) l)

pub same-range : (rs : List Range) → Distinct (map (λ (r : Range). r.name) rs) → (i j : ℕ) → i < length rs → j < length rs → name_of rs i ≡ name_of rs j → i ≡ j
same-range [] d i j h l e = absurd (omega (arith, h))
same-range (r ∷ rs) d zero zero h l e = refl
same-range (r ∷ rs) d zero (suc j) h l e = absurd (d.0 (subst (λ (x : ℕ). In x (map (λ (r : Range). r.name) rs)) (sym e) (in-names rs j (omega (arith, l)))))
same-range (r ∷ rs) d (suc i) zero h l e = absurd (d.0 (subst (λ (x : ℕ). In x (map (λ (r : Range). r.name) rs)) e (in-names rs i (omega (arith, h)))))
same-range (r ∷ rs) d (suc i) (suc j) h l e = ap suc (same-range rs d.1 i j (omega (arith, h)) (omega (arith, l)) e)

pub same_place : (fs : List Fragment) → Distinct (ordering_names fs) → (m n i j : ℕ) → m < length fs → n < length fs → i < length (ranges_of fs m) → j < length (ranges_of fs n)
    → name_of (ranges_of fs m) i ≡ name_of (ranges_of fs n) j → (m ≡ n) × (i ≡ j)
same_place [] d m n i j hm hn hi hj e = absurd (omega (arith, hm))
same_place (f ∷ fs) d zero zero i j hm hn hi hj e = (refl, same-range f.ranges (distinct-left (fragment_names f) (ordering_names fs) d) i j hi hj e)
same_place (f ∷ fs) d zero (suc n) i j hm hn hi hj e =
    absurd (distinct_apart _ (fragment_names f) (ordering_names fs) d (in-names f.ranges i hi) (subst (λ (x : ℕ). In x (ordering_names fs)) (sym e) (in-ordering fs n j (omega (arith, hn)) hj)))
same_place (f ∷ fs) d (suc m) zero i j hm hn hi hj e =
    absurd (distinct_apart _ (fragment_names f) (ordering_names fs) d (in-names f.ranges j hj) (subst (λ (x : ℕ). In x (ordering_names fs)) e (in-ordering fs m i (omega (arith, hm)) hi)))
same_place (f ∷ fs) d (suc m) (suc n) i j hm hn hi hj e =
    let (a, b) = same_place fs (distinct-right (fragment_names f) (ordering_names fs) d) m n i j (omega (arith, hm)) (omega (arith, hn)) hi hj e in
    (ap suc a, b)

-- the names of one fragment of many are distinct
pub one-distinct : (fs : List Fragment) (n : ℕ) → n < length fs → Distinct (ordering_names fs) → Distinct (fragment_names (get_or fs n no_fragment))
one-distinct [] n h d = tt
one-distinct (f ∷ fs) zero h d = distinct-left (fragment_names f) (ordering_names fs) d
one-distinct (f ∷ fs) (suc n) h d = one-distinct fs n (omega arith) (distinct-right (fragment_names f) (ordering_names fs) d)

-- ---- the place of a name

-- where a list of names, and then a list of fragments, has it
pub name-place : (rs : List Range) (m : ℕ) → In m (map (λ (r : Range). r.name) rs) → (k : ℕ) × (k < length rs) × (m ≡ name_of rs k)
name-place [] m x' = elim x' [ ]
name-place (r ∷ rs) m (inl e) = (0, omega arith, e)
name-place (r ∷ rs) m (inr i) = let (k, h, e) = name-place rs m i in (suc k, (let g : k < length rs = h in omega arith), e)

pub ordering-place : (fs : List Fragment) (m : ℕ) → In m (ordering_names fs) → (n : ℕ) × (i : ℕ) × (n < length fs) × (i < length (ranges_of fs n)) × (m ≡ name_of (ranges_of fs n) i)
ordering-place [] m h = elim h [ ]
ordering-place (f ∷ fs) m h = look (in_either m (fragment_names f) (ordering_names fs) h) (ordering-place fs m)
  where
    look : In m (fragment_names f) ⊎ In m (ordering_names fs) → (In m (ordering_names fs) → (n : ℕ) × (i : ℕ) × (n < length fs) × (i < length (ranges_of fs n)) × (m ≡ name_of (ranges_of fs n) i)) → (n : ℕ) × (i : ℕ) × (n < length (f ∷ fs)) × (i < length (ranges_of (f ∷ fs) n)) × (m ≡ name_of (ranges_of (f ∷ fs) n) i)
    look (inl j) ih = let (i, g, e) = name-place f.ranges m j in (0, i, omega arith, g, e)
    look (inr j) ih = let (n, i, g, l, e) = ih j in (suc n, i, (let z : n < length fs = g in omega arith), l, e)
