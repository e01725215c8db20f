-- The recogniser of a fragment is the product of its ranges': it takes a word on its names exactly when each of them does (`takes-each`), and so takes the words that match the fragment (`match→`, `match←`).
-- Assumes nothing.
use mathlib.Core.Path.{refl}
use mathlib.Core.Logic.{inl, inr, ◌↔◌}
use mathlib.Core.Bool.{Bool, not}
use mathlib.Core.List.{List, [], ◌∷◌}
use Prim.Native.Nat.{ℕ}
use lib.Dec.{T, T_not}
use Rattle.pattern.specs.Lists.{In}
use Rattle.pattern.specs.Meaning.{Range, Join, may_be_left_out, shuffled, MatchesFragment, fragment_names}
use Rattle.pattern.specs.Recogniser.{unbegun, next, move, is_idle, is_error, Slot, erred}
use Rattle.pattern.proofs.Basics.{some_in, test, in_map, distinct-map, of_map, all→, all←, any→, is_in→, is_in←}
use Rattle.pattern.proofs.Block.{Unique, Asks, match→asked, match-some, asked→match}
use Rattle.pattern.proofs.Running.{slot, turn, takes_one, none-taken, unbegun-takes}
use Rattle.pattern.proofs.Rounds.{Takes}
use Rattle.pattern.proofs.Fragment.{X, Held, Checked, slots_in, one, step-slots, start-slots, not-closed}

module _ (f : Checked) where
  abbrev j : Join
  j = f.fragment.join

  abbrev rs : List Range
  rs = f.fragment.ranges

  abbrev stops : Slot → Bool
  stops x = is_idle (move j x.range x.count x.state next)

  -- ---- the fragment takes what each of its ranges takes

  pub record TakenByEach (s : Held) (w : List ℕ) : Type 0 where
    pub on : (m : ℕ) → In m w → In m (fragment_names f.fragment)
    pub each : (x : Slot) → In x (slots_in f s) → T (takes_one f.fragment.join x w)

  module _ (s : Held) (m : ℕ) (w : List ℕ) where
    with_first : T (X.has f m) → TakenByEach (X.step f s m) w → TakenByEach s (m ∷ w)
    with_first h k = record { on = on; each = λ x i. k.each (turn j m x) (rw (step-slots f s m) (in_map (turn j m) (slots_in f s) x i)) }
      where
        on : (n : ℕ) → In n (m ∷ w) → In n (fragment_names f.fragment)
        on n (inl e) = rw e (is_in→ m (fragment_names f.fragment) h)
        on n (inr i) = k.on n i

    without-first : TakenByEach s (m ∷ w) → TakenByEach (X.step f s m) w
    without-first k = record { on = λ n i. k.on n (inr i); each = λ y i. let (x, i', e) = of_map (turn j m) (slots_in f s) y (rw (step-slots f s m) at i) in rw e (k.each x i') }

  pub takes-each : (w : List ℕ) (s : Held) → Takes X f s w ↔ TakenByEach s w
  takes-each [] s = (λ t. record { on = λ m i. absurd i; each = all→ stops (slots_in f s) t }, λ k. all← stops (slots_in f s) k.each)
  takes-each (m ∷ w) s = (
    λ t. with_first s m w t.0 ((takes-each w (X.step f s m)).0 t.1),
    λ k. (is_in← m (fragment_names f.fragment) (k.on m (inl refl)), (takes-each w (X.step f s m)).1 (without-first s m w k)),
  )

  -- where a range has an error, nothing is taken
  pub bad : (s : Held) (w : List ℕ) → T (not (X.good f s)) → Takes X f s w → ⊥
  bad s w t h = elim (test (erred (slots_in f s))) [
    | inl e ↦ let (x, i, u) = any→ (λ (y : Slot). is_error y.state) (slots_in f s) e in none-taken j w x u (((takes-each w s).0 h).each x i)
    | inr g ↦ T_not (X.good f s) t g
  ]

  -- ---- the recogniser takes the words that match

  unique : Unique rs
  unique = distinct-map (λ (r : Range). r.name) rs f.fine.distinct

  -- each range, as it is before the first event
  at-start : (m : ℕ) (w : List ℕ) (r : Range) → In r rs → T (takes_one j (slot r unbegun 0) (m ∷ w)) ↔ Asks (may_be_left_out j) (shuffled j) r (m ∷ w)
  at-start m w r i = unbegun-takes j r (one f r i) (f.fine.some r i) m w 0

  pub match→ : (w : List ℕ) → MatchesFragment f.fragment w → Takes X f (X.start f) w
  match→ [] h = let (r, i) = some_in rs f.count.0 in absurd (match-some f.fragment unique f.fine.some [] h r i refl)
  match→ (m ∷ w) h =
      let k = match→asked f.fragment unique (m ∷ w) h in
      (takes-each (m ∷ w) (X.start f)).1 (record { on = k.on; each = λ x i. let (r, i', e) = of_map (λ (r : Range). slot r unbegun 0) rs x (rw (start-slots f) at i) in rw e ((at-start m w r i').1 (k.asks r i')) })

  pub match← : (w : List ℕ) → Takes X f (X.start f) w → MatchesFragment f.fragment w
  match← [] t = absurd (not-closed f t)
  match← (m ∷ w) t =
      let k = (takes-each (m ∷ w) (X.start f)).0 t in
      asked→match f.fragment unique f.fine.some m w (record { on = k.on; asks = λ r i. (at-start m w r i).0 (k.each (slot r unbegun 0) (rw (start-slots f) (in_map (λ (r : Range). slot r unbegun 0) rs r i))) })
