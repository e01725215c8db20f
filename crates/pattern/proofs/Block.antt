-- A fragment's matches, range by range: a word on the fragment's names matches it exactly when each range is asked what the join asks of it, a total within its bounds, in a row unless shuffled, or none at all
-- if it may be left out. The join enters by its two questions only, and a range's bounds by `Enough` and `AtMost`.
-- Assumes nothing.
use mathlib.Core.Path.{◌≡◌, subst, refl, sym, ◌∙◌}
use mathlib.Core.Logic.{◌⊎◌, inl, inr, ◌≢◌}
use mathlib.Core.Bool.{Bool, true, false}
use mathlib.Core.List.{List, [], ◌∷◌, ◌++◌, map}
use Prim.Native.Nat.{ℕ, zero, suc, ◌≤◌}
use native.Mathlib.Nat.{not-suc-le-zero, le_trans}
use native.Mathlib.Omega.{arith}
use lib.Dec.{T}
use lib.ListN.{length, replicate}
use borrow.Author.Tests.{eq-eqb}
use Rattle.pattern.specs.Lists.{In, Distinct}
use Rattle.pattern.specs.Meaning.{Range, Enough, AtMost, Block, Together, Blocks, Chosen, Fragment, may_be_left_out, shuffled, MatchesFragment}
use Rattle.pattern.specs.Totals.{total}
use Rattle.pattern.proofs.Basics.{same?, none_or_some, in_map, of_map}
use Rattle.pattern.proofs.Totals.{row, less, total-together, total-same, total-other, total-in, in-total, row_block, row-past, less-same, less-total, less-row, less-length, less-in, split}

-- fewer occurrences are not too many either
pub fewer : (r : Range) {k l : ℕ} → k ≤ l → AtMost r l → AtMost r k
fewer r h (inl z) = inl z
fewer r h (inr k) = inr (le_trans h k)

abbrev pub Unique : List Range → Type 0
Unique rs = (x y : Range) → In x rs → In y rs → x.name ≡ y.name → x ≡ y

-- the range occurs as often as it may, and in a row unless shuffled
abbrev pub Occurs : Bool → Range → List ℕ → Type 0
Occurs s r w = Enough r (total r.name w) × AtMost r (total r.name w) × (s ≡ false → T (row r.name w))

-- what is asked of a word for one range
abbrev pub Asks : Bool → Bool → Range → List ℕ → Type 0
Asks o s r w = ((total r.name w ≡ 0) × T o) ⊎ Occurs s r w

-- what is asked of a word for the ranges of a fragment: o, a range may be left out; s, the blocks need not stand in a row
pub record Asked (o s : Bool) (ranges : List Range) (w : List ℕ) : Type 0 where
  pub on : (m : ℕ) → In m w → In m (map (λ (r : Range). r.name) ranges)
  pub asks : (r : Range) → In r ranges → Asks o s r w

module _ (s : Bool) where
  -- ---- blocks, as totals and rows

  -- a word that is a block together with the rest: what it is to the block's range, and to another
  module _ (x : Range) (a b w : List ℕ) (t : Together s a b w) (block : Block x a) where
    concatenated : s ≡ false → w ≡ replicate block.0 x.name ++ b
    concatenated f = let c : w ≡ a ++ b = rw f at t in c ∙ rw block.3

    block-occurs : total x.name b ≡ 0 → Occurs s x w
    block-occurs z =
        let q : total x.name a ≡ block.0 = rw block.3 (total-same x.name block.0) in
        let e : total x.name w ≡ block.0 = total-together x.name s a b w t ∙ omega (arith, q, z) in
        (rw e block.1, rw e block.2, λ f. rw (concatenated f) (row_block x.name block.0 b z))

    past-total : (n : ℕ) → x.name ≢ n → total n w ≡ total n b
    past-total n d = let q : total n a ≡ 0 = rw block.3 (total-other n x.name block.0 d) in total-together n s a b w t ∙ omega (arith, q)

    past-block : (r : Range) → x.name ≢ r.name → Occurs s r b → Occurs s r w
    past-block r d (low, high, o) =
        let e : total r.name w ≡ total r.name b = past-total r.name d in
        (rw e low, rw e high, λ f. rw (concatenated f) (row-past r.name block.0 x.name b d (o f)))

  -- a name that occurs is that of a range of the choice
  blocks-named : (choice : List Range) (w : List ℕ) (n : ℕ) → Blocks s choice w → 1 ≤ total n w → (r : Range) × In r choice × (n ≡ r.name)
  blocks-named [] w n e l = absurd (let z : total n w ≡ 0 = rw e in omega (arith, z))
  blocks-named (x ∷ rs) w n (a, b, t, block, bs) l = elim (same? x.name n) [
    | inl e ↦ (x, inl refl, sym e)
    | inr d ↦ let (r, i, q) = blocks-named rs b n bs (rw (past-total x a b w t block n d) at l) in (r, inr i, q)
  ]

  blocks-occur : (choice : List Range) (w : List ℕ) → Distinct choice → Unique choice → Blocks s choice w → (r : Range) → In r choice → Occurs s r w
  blocks-occur [] w d u _ r x5 = elim x5 [ ]
  blocks-occur (x ∷ rs) w d u (a, b, t, block, bs) r (inl e) = rw e (block-occurs x a b w t block (elim (none_or_some (total x.name b)) [
    | inl z ↦ z
    | inr l ↦ let (y, i, q) = blocks-named rs b x.name bs l in absurd (d.0 (rw (u x y (inl refl) (inr i) q) i))
  ]))
  blocks-occur (x ∷ rs) w d u (a, b, t, block, bs) r (inr i) =
      let apart : x.name ≢ r.name = λ (q : x.name ≡ r.name). d.0 (rw (u x r (inl refl) (inr i) q) i) in
      past-block x a b w t block r apart (blocks-occur rs b d.1 (λ y z iy iz. u y z (inr iy) (inr iz)) bs r i)

  -- ---- and back: the blocks in the order of their first events

  pub record Spread (ready : List Range) (w : List ℕ) : Type 0 where
    pub choice : List Range
    pub once : Distinct choice
    pub within : (r : Range) → In r choice → In r ready × (1 ≤ total r.name w)
    pub every : (r : Range) → In r ready → 1 ≤ total r.name w → In r choice
    pub blocks : Blocks s choice w

  module _ (ready : List Range) (u : Unique ready) where
    empty : Spread ready []
    empty = record { choice = []; once = tt; within = λ r i. absurd i; every = λ r i h. absurd (not-suc-le-zero h); blocks = refl }

    -- a word, the range that its first event is of, and the word without that name
    module _ (r : Range) (i : In r ready) (w : List ℕ) (k : Asked true s ready (r.name ∷ w)) where
      abbrev whole : List ℕ
      whole = r.name ∷ w

      abbrev rest : List ℕ
      rest = less r.name (r.name ∷ w)

      rest-asked : Asked true s ready rest
      rest-asked = record { on = λ x h. k.on x (less-in r.name x whole h); asks = asks }
        where
          kept : (x : Range) → r.name ≢ x.name → Asks true s x whole → Asks true s x rest
          kept x d (inl z) = inl (less-total r.name x.name d whole ∙ z.0, tt)
          kept x d (inr (low, high, o)) =
              let e : total x.name rest ≡ total x.name whole = less-total r.name x.name d whole in
              inr (rw e low, rw e high, λ f. less-row r.name x.name d whole (o f))

          asks : (x : Range) → In x ready → Asks true s x rest
          asks x i = elim (same? r.name x.name) [ inl q ↦ inl (rw (← q) (less-same r.name whole), tt) | inr d ↦ kept x d (k.asks x i) ]

      here : 1 ≤ total r.name whole
      here = total-in r.name whole (inl refl)

      occurs-first : Occurs s r whole
      occurs-first = elim (k.asks r i) [ inl z ↦ absurd (let l = here in omega (arith, z.0)) | inr o ↦ o ]

      first_block : Spread ready rest → Spread ready whole
      first_block p = record {
        choice = r ∷ p.choice;
        once = ((λ ir. let l = (p.within r ir).1 in let z = less-same r.name whole in omega arith), p.once);
        within = inside;
        every = every;
        blocks = (replicate (total r.name whole) r.name, rest, split r.name s w occurs-first.2, (total r.name whole, occurs-first.0, occurs-first.1, refl), p.blocks);
      }
        where
          inside : (x : Range) → In x (r ∷ p.choice) → In x ready × (1 ≤ total x.name whole)
          inside x (inl q) = subst (λ (y : Range). In y ready × (1 ≤ total y.name whole)) (sym q) (i, here)
          inside x (inr ix) = let (ready-x, l) = p.within x ix in (ready-x, total-in x.name whole (less-in r.name x.name whole (in-total x.name rest l)))

          every : (x : Range) → In x ready → 1 ≤ total x.name whole → In x (r ∷ p.choice)
          every x ix l = elim (same? r.name x.name) [ inl q ↦ inl (u x r ix i (sym q)) | inr d ↦ inr (p.every x ix (rw (less-total r.name x.name d whole) l)) ]

    abbrev Spreads : ℕ → Type 0
    Spreads fuel = (w : List ℕ) → length w ≤ fuel → Asked true s ready w → Spread ready w

    one_more : (fuel : ℕ) → Spreads fuel → Spreads (suc fuel)
    one_more fuel shorter [] l k = empty
    one_more fuel shorter (m ∷ w) l k =
        let (r, i, e) = of_map (λ (r : Range). r.name) ready m (k.on m (inl refl)) in
        let short : length (less r.name (r.name ∷ w)) ≤ fuel = rw (eq-eqb r.name r.name refl) (omega (arith, less-length r.name w)) in
        rw e (first_block r i w (rw e at k) (shorter (less r.name (r.name ∷ w)) short (rest-asked r i w (rw e at k))))

    spread : (fuel : ℕ) → Spreads fuel
    spread zero [] l k = empty
    spread zero (m ∷ w) l k = absurd (not-suc-le-zero l)
    spread (suc fuel) w l k = one_more fuel (spread fuel) w l k

-- ---- a fragment's matches

module _ (f : Fragment) (u : Unique f.ranges) where
  abbrev pub AskedOf : List ℕ → Type 0
  AskedOf w = Asked (may_be_left_out f.join) (shuffled f.join) f.ranges w

  module _ (w : List ℕ) (h : MatchesFragment f w) where
    occurs : (r : Range) → In r h.choice → Occurs (shuffled f.join) r w
    occurs = blocks-occur (shuffled f.join) h.choice w h.once (λ x y ix iy e. u x y (h.within x ix) (h.within y iy) e) h.blocks

    named : (n : ℕ) → 1 ≤ total n w → (r : Range) × In r h.choice × (n ≡ r.name)
    named n = blocks-named (shuffled f.join) h.choice w n h.blocks

    pub match→asked : AskedOf w
    match→asked = record { on = λ m i. let (r, k, e) = named m (total-in m w i) in rw e (in_map (λ (x : Range). x.name) f.ranges r (h.within r k)); asks = asks }
      where
        left_out : (r : Range) → In r f.ranges → total r.name w ≡ 0 → (o : Bool) → Chosen o f.ranges h.choice → Asks o (shuffled f.join) r w
        left_out r i z false every = inr (occurs r (every r i))
        left_out r i z true some = inl (z, tt)

        asks : (r : Range) → In r f.ranges → Asks (may_be_left_out f.join) (shuffled f.join) r w
        asks r i = elim (none_or_some (total r.name w)) [
          | inl z ↦ left_out r i z (may_be_left_out f.join) h.chosen
          | inr l ↦ let (x, k, e) = named r.name l in inr (occurs r (rw (u r x i (h.within x k) e) k))
        ]

  module _ (some : (r : Range) → In r f.ranges → 1 ≤ r.u) where
    -- some range of it occurs
    pub match-some : (w : List ℕ) → MatchesFragment f w → (x : Range) → In x f.ranges → w ≡ [] → ⊥
    match-some w h x i e = chosen (may_be_left_out f.join) h.chosen
      where
        occurred : (r : Range) → In r h.choice → ⊥
        occurred r k =
            let l : r.u ≤ total r.name w = (occurs w h r k).0 in
            let z : total r.name w ≡ 0 = rw e in
            omega (arith, some r (h.within r k))

        one_of : (l : List Range) → l ≢ [] → (r : Range) × In r l
        one_of [] d = absurd (d refl)
        one_of (r ∷ l) d = (r, inl refl)

        chosen : (o : Bool) → Chosen o f.ranges h.choice → ⊥
        chosen false every = occurred x (every x i)
        chosen true some_one = let (r, k) = one_of h.choice some_one in occurred r k

    pub asked→match : (m : ℕ) (w : List ℕ) → AskedOf (m ∷ w) → MatchesFragment f (m ∷ w)
    asked→match m w k = record { choice = p.choice; once = p.once; within = λ r i. (p.within r i).0; chosen = chosen (may_be_left_out f.join) k.asks; blocks = p.blocks }
      where
        weaker : (o : Bool) (r : Range) → Asks o (shuffled f.join) r (m ∷ w) → Asks true (shuffled f.join) r (m ∷ w)
        weaker o r (inl z) = inl (z.0, tt)
        weaker o r (inr z) = inr z

        p : Spread (shuffled f.join) f.ranges (m ∷ w)
        p = spread (shuffled f.join) f.ranges u (length (m ∷ w)) (m ∷ w) (omega arith) (record { on = k.on; asks = λ r i. weaker (may_be_left_out f.join) r (k.asks r i) })

        pick : (r : Range) → In r f.ranges → Asks false (shuffled f.join) r (m ∷ w) → In r p.choice
        pick r i (inl z) = absurd z.1
        pick r i (inr z) = p.every r i (le_trans (some r i) z.0)

        chosen : (o : Bool) → ((r : Range) → In r f.ranges → Asks o (shuffled f.join) r (m ∷ w)) → Chosen o f.ranges p.choice
        chosen false asks = λ r i. pick r i (asks r i)
        chosen true asks = λ (z : p.choice ≡ []).
            let (r, i, e) = of_map (λ (r : Range). r.name) f.ranges m (k.on m (inl refl)) in
            rw z at (p.every r i (total-in r.name (m ∷ w) (inl (sym e))))
