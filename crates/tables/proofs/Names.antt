-- From a place to its name: in a table that holds a well-formed rule, the first name that stands at range i of fragment f is that range's, since no other one does.
-- Assumes nothing.
use mathlib.Core.Path.{◌≡◌, refl, ap, sym, subst, ◌∙◌}
use mathlib.Core.Logic.{◌≢◌, ◌⊎◌, inl, inr}
use mathlib.Core.Bool.{Bool, true, false, cond}
use mathlib.Core.List.{List}
use Prim.Native.Nat.{ℕ, zero, suc, ◌+◌, ◌<◌, ◌≤◌}
use native.Mathlib.Omega.{arith}
use lib.Dec.{T, eqb, eqb→eq}
use lib.ListN.{length, get_or}
use borrow.Author.Tests.{eq-eqb, lt-ltb}
use Rattle.names.specs.Names.{member}
use Rattle.pattern.specs.Lists.{is_in}
use Rattle.pattern.specs.Meaning.{Rule, ordering_names, WellFormedRange, WellFormedFragment, WellFormed}
use Rattle.pattern.specs.Model.{round_of, no_fragment, fragment_at}
use Rattle.pattern.proofs.Basics.{is_true, both_l, both_r, true-or-false, same?, is_in→, is_in←}
use Rattle.layout.specs.Pages.{no_range, rule_at, range_at}
use Rattle.layout.proofs.PageLaws.{round-formed, each_at}
use Rattle.pattern.proofs.Numbering.{round-names}
use Rattle.layout.proofs.Once.{in-ordering, ordering-place}
use Rattle.tables.specs.Cells.{fragment_in, cell_at, mask_in, Cell, HoldsRules, first_from, stands_at, name_at}

-- the first number of which p is so; past the last that is tried, where it is so of none
pub first-at : (p : ℕ → Bool) (m n at : ℕ) → at ≤ m → m ≤ at + n → ((j : ℕ) → j < m → p j ≡ false) → (m < at + n → p m ≡ true) → first_from p at n ≡ m
first-at p m zero at l h none here = omega (arith, l, h)
first-at p m (suc n) at l h none here = go (same? at m) (λ k. first-at p m n (suc at) k (omega (arith, h)) none (λ i. here (omega (arith, i))))
  where
    go : (at ≡ m) ⊎ (at ≢ m) → (suc at ≤ m → first_from p (suc at) n ≡ m) → cond (p at) at (first_from p (suc at) n) ≡ m
    go (inl e) later = rw (ap p e ∙ here (omega (arith, e))) e
    go (inr ne) later = rw (none at (omega (arith, l, ne))) (later (omega (arith, l, ne)))

-- the first of n numbers is one of them, or the next
pub first-few : (p : ℕ → Bool) (at n : ℕ) → first_from p at n ≤ at + n
first-few p at zero = omega arith
first-few p at (suc n) = go (p at) (first-few p (suc at) n)
  where
    go : (b : Bool) → first_from p (suc at) n ≤ suc at + n → cond b at (first_from p (suc at) n) ≤ at + suc n
    go true next = omega arith
    go false next = omega arith

-- the first number that passes does, and none before it
pub first_passes : (p : ℕ → Bool) (at n : ℕ) → first_from p at n < at + n → p (first_from p at n) ≡ true
first_passes p at zero h = absurd (omega arith)
first_passes p at (suc n) h = elim (true-or-false (p at)) [
  | inl e ↦ rw e e
  | inr e ↦ let h' : first_from p (suc at) n < at + suc n = rw e at h in rw e (first_passes p (suc at) n (omega arith))
]

pub first-before : (p : ℕ → Bool) (at n k : ℕ) → at ≤ k → k < first_from p at n → p k ≡ false
first-before p at zero k l h = absurd (omega arith)
first-before p at (suc n) k l h = elim (true-or-false (p at)) [
  | inl e ↦ let h' : k < at = rw e at h in absurd (omega arith)
  | inr e ↦ elim (same? at k) [ inl z ↦ rw z at e | inr z ↦ first-before p (suc at) n k (omega arith) (rw e at h) ]
]

-- every place has a name, or 64
pub name-few : (table : List ℕ) (r f i : ℕ) → name_at table r f i ≤ 64
unfolding name_at
name-few table r f i = first-few (stands_at table r f i) 0 64

module _ {table : List ℕ} {rules : List Rule} (holds : HoldsRules table rules) (r : ℕ) (here : r < length rules) (formed : WellFormed (rule_at rules r)) where
  abbrev rule : Rule
  rule = rule_at rules r

  held-is : (n : ℕ) → n < 64 → member (mask_in (get_or table n 0)) r ≡ is_in n (ordering_names (round_of rule))
  held-is n l = holds.holders n r l ∙ rw (lt-ltb r (length rules) here) (ap (is_in n) (sym (round-names rule)))

  module _ (f i : ℕ) (inside : f < length (round_of rule)) (within : i < length (fragment_at rule f).ranges) where
    abbrev name : ℕ
    name = (range_at rule f i).name

    small : name < 64
    small =
        let a : WellFormedFragment (fragment_at rule f) = each_at WellFormedFragment no_fragment (round_of rule) f (round-formed rule formed) inside in
        omega (arith, (each_at WellFormedRange no_range (fragment_at rule f).ranges i a.ranges within).named)

    stands : stands_at table r f i name ≡ true
    stands =
        let c = (holds.rule r here).cell f i inside within in
        rw (held-is name small ∙ is_true _ (is_in← name (ordering_names (round_of rule)) (in-ordering (round_of rule) f i inside within)), eq-eqb _ f c.fragment, eq-eqb _ i c.index) refl

    alone : (n : ℕ) → n < 64 → T (stands_at table r f i n) → n ≡ name
    alone n l e =
        let b = both_r (member (mask_in (get_or table n 0)) r) _ e in
        let (g, j, hg, hj, en) = ordering-place (round_of rule) n (is_in→ n (ordering_names (round_of rule)) (subst T (held-is n l) (both_l (member (mask_in (get_or table n 0)) r) _ e))) in
        let c : Cell rule g j (get_or table (cell_at r n) 0) = subst (λ (m : ℕ). Cell rule g j (get_or table (cell_at r m) 0)) (sym en) ((holds.rule r here).cell g j hg hj) in
        en ∙ rw (sym c.fragment ∙ eqb→eq _ f (both_l (eqb (fragment_in (get_or table (cell_at r n) 0)) f) _ b), sym c.index ∙ eqb→eq _ i (both_r (eqb (fragment_in (get_or table (cell_at r n) 0)) f) _ b))

    pub name-at : name_at table r f i ≡ (range_at rule f i).name
    unfolding name_at
    name-at = first-at (stands_at table r f i) name 64 0 (omega arith) (omega (arith, small)) other (λ h. stands)
      where
        other : (n : ℕ) → n < name → stands_at table r f i n ≡ false
        other n l = go (true-or-false (stands_at table r f i n))
          where
            go : (stands_at table r f i n ≡ true) ⊎ (stands_at table r f i n ≡ false) → stands_at table r f i n ≡ false
            go (inl e) = let z : n ≡ name = alone n (omega (arith, l, small)) (subst T (sym e) tt) in absurd (omega (arith, z, l))
            go (inr e) = e
