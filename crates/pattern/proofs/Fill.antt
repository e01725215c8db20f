-- Words made of what each slot of a list needs, one slot after the other: what they are to each range. `Alive` completes a fragment by them.
-- Assumes nothing.
use mathlib.Core.Path.{◌≡◌, refl, sym, ◌∙◌, ap}
use mathlib.Core.Logic.{inl, inr, ◌≢◌}
use mathlib.Core.List.{List, [], ◌∷◌, ◌++◌, map, append_assoc}
use Prim.Native.Nat.{ℕ}
use native.Mathlib.Omega.{arith}
use lib.Dec.{T}
use lib.ListN.{replicate}
use Rattle.pattern.specs.Lists.{In, Distinct}
use Rattle.pattern.specs.Recogniser.{Slot}
use Rattle.pattern.specs.Totals.{total}
use Rattle.pattern.proofs.Basics.{same?, in-append, in-replicate, in_map}
use Rattle.pattern.proofs.Totals.{front, row, total-append, total-same, total-other, front-block, row_block, row-past}

abbrev pub slot_name : Slot → ℕ
slot_name x = x.range.name

module _ (need : Slot → ℕ) where
  abbrev pub fill : List Slot → List ℕ
  fill [] = []
  fill (x ∷ xs) = replicate (need x) x.range.name ++ fill xs

  -- a name of the word is a slot's
  pub fill_on : (xs : List Slot) (m : ℕ) → In m (fill xs) → (x : Slot) × In x xs × (m ≡ x.range.name)
  fill_on [] m h = elim h [ ]
  fill_on (x ∷ xs) m h = elim (in-append m (replicate (need x) (slot_name x)) (fill xs) h) [
    | inl i ↦ (x, inl refl, in-replicate m (slot_name x) (need x) i)
    | inr i ↦ let (y, k, e) = fill_on xs m i in (y, inr k, e)
  ]

  fill_none : (xs : List Slot) (n : ℕ) → ((x : Slot) → In x xs → x.range.name ≢ n) → total n (fill xs) ≡ 0
  fill_none [] n h = refl
  fill_none (x ∷ xs) n h =
      let here = total-other n (slot_name x) (need x) (h x (inl refl)) in
      let there = fill_none xs n (λ y i. h y (inr i)) in
      total-append n (replicate (need x) (slot_name x)) (fill xs) ∙ omega arith

  -- ---- of the name of one of the slots

  module _ (x : Slot) where
    apart_from : (y : Slot) (xs : List Slot) → Distinct (map slot_name (y ∷ xs)) → In x xs → y.range.name ≢ x.range.name
    apart_from y xs d i e = d.0 (rw e (in_map slot_name xs x i))

    rest-none : (y : Slot) (xs : List Slot) → Distinct (map slot_name (y ∷ xs)) → x ≡ y → total x.range.name (fill xs) ≡ 0
    rest-none y xs d e = fill_none xs (slot_name x) (λ z i q. d.0 (rw (ap slot_name (sym e) ∙ sym q) (in_map slot_name xs z i)))

    pub fill-total : (xs : List Slot) → Distinct (map (λ (z : Slot). z.range.name) xs) → In x xs → total x.range.name (fill xs) ≡ need x
    fill-total [] d x3 = elim x3 [ ]
    fill-total (y ∷ xs) d (inl e) =
        let here : total (slot_name x) (replicate (need y) (slot_name y)) ≡ need x = rw (← e) (total-same (slot_name x) (need x)) in
        let there = rest-none y xs d e in
        total-append (slot_name x) (replicate (need y) (slot_name y)) (fill xs) ∙ omega arith
    fill-total (y ∷ xs) d (inr i) =
        let here = total-other (slot_name x) (slot_name y) (need y) (apart_from y xs d i) in
        let there = fill-total xs d.1 i in
        total-append (slot_name x) (replicate (need y) (slot_name y)) (fill xs) ∙ omega arith

    pub fill-row : (xs : List Slot) → Distinct (map (λ (z : Slot). z.range.name) xs) → In x xs → T (row x.range.name (fill xs))
    fill-row [] d x3 = elim x3 [ ]
    fill-row (y ∷ xs) d (inl e) = rw (← e) (row_block (slot_name x) (need x) (fill xs) (rest-none y xs d e))
    fill-row (y ∷ xs) d (inr i) = row-past (slot_name x) (need y) (slot_name y) (fill xs) (apart_from y xs d i) (fill-row xs d.1 i)

  -- where no other range needs any, those of a name come first
  pub fill-front : (xs : List Slot) (n : ℕ) (b : List ℕ) → ((x : Slot) → In x xs → x.range.name ≢ n → need x ≡ 0) → T (front n b) → T (front n (fill xs ++ b))
  fill-front [] n b h t = t
  fill-front (x ∷ xs) n b h t = rw (append_assoc (replicate (need x) (slot_name x)) (fill xs) b) (elim (same? (slot_name x) n) [
    | inl e ↦ rw (ap (replicate (need x)) e) (front-block n (need x) (fill xs ++ b) (fill-front xs n b (λ y i. h y (inr i)) t))
    | inr d ↦ rw (h x (inl refl) d) (fill-front xs n b (λ y i. h y (inr i)) t)
  ])
