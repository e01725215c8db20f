-- The recogniser of one range, with its own count, takes the words in which the range occurs as it is asked to. No other range has a part in it.
-- Assumes nothing.
use mathlib.Core.Path.{◌≡◌, refl, sym, ◌∙◌, ap}
use mathlib.Core.Logic.{◌⊎◌, inl, inr, ◌≢◌, ◌↔◌}
use mathlib.Core.Bool.{Bool, true, false, cond, true≢false}
use mathlib.Core.List.{List, [], ◌∷◌}
use Prim.Native.Nat.{ℕ, suc, ◌+◌, ◌≤◌}
use native.Mathlib.Nat.{add-zero}
use native.Mathlib.Omega.{arith}
use lib.Dec.{T, eqb, ltb, eqb→eq, leb→le, ltb→lt, le→leb, lt→ltb}
use borrow.Author.Tests.{eq-eqb, ne_eqb}
use Rattle.pattern.specs.Meaning.{Range, Join, may_be_left_out, shuffled, Enough, AtMost}
use Rattle.pattern.specs.Recogniser.{State, idle, unbegun, waiting, counting, done, error, Class, own, sibling, next, has_enough, has_room, move, is_idle, is_counting, is_error, next_count, tally, Slot, within}
use Rattle.pattern.specs.Totals.{total}
use Rattle.pattern.proofs.Basics.{either, either_l, either_r, by_cond, is_true, same?}
use Rattle.pattern.proofs.Moves.{error-stays, error-not-idle}
use Rattle.pattern.proofs.Totals.{front, zero_test}
use Rattle.pattern.proofs.Block.{fewer, Asks}

abbrev pub slot : Range → State → ℕ → Slot
slot r s c = record { range = r; state = s; count = c }

-- a range, its state and its count after an event, as each range sees it; and after an event of the fragment
abbrev pub turn_by : Join → (Range → Class) → Slot → Slot
turn_by j cl x = slot x.range (move j x.range x.count x.state (cl x.range)) (tally (cl x.range) x.range x.count x.state)

abbrev pub turn : Join → ℕ → Slot → Slot
turn j m = turn_by j (within m)

pub within-own : (m : ℕ) (r : Range) → m ≡ r.name → within m r ≡ own
within-own m r e = rw (eq-eqb m r.name e)

pub within-sibling : (m : ℕ) (r : Range) → m ≢ r.name → within m r ≡ sibling
within-sibling m r n = rw (ne_eqb m r.name n)

pub room : (r : Range) (c : ℕ) → AtMost r (suc c) → has_room r c ≡ true
room r c (inl z) = is_true (has_room r c) (either_l (eqb r.v 0) (ltb c r.v) (rw z tt))
room r c (inr h) = is_true (has_room r c) (either_r (eqb r.v 0) (ltb c r.v) (lt→ltb c r.v h))

pub roomy : (r : Range) (c : ℕ) → has_room r c ≡ true → AtMost r (suc c)
roomy r c q = look (either (eqb r.v 0) (ltb c r.v) (rw q tt))
  where
    look : T (eqb r.v 0) ⊎ T (ltb c r.v) → AtMost r (suc c)
    look (inl t) = inl (eqb→eq r.v 0 t)
    look (inr t) = inr (ltb→lt c r.v t)

pub enough : (r : Range) (c : ℕ) → Enough r c → has_enough r c ≡ true
enough r c h = is_true (has_enough r c) (le→leb r.u c h)

pub enoughly : (r : Range) (c : ℕ) → has_enough r c ≡ true → Enough r c
enoughly r c q = leb→le r.u c (rw q tt)

pub turn-own : (j : Join) (m : ℕ) (x : Slot) → m ≡ x.range.name → turn j m x ≡ slot x.range (move j x.range x.count x.state own) (next_count x.range x.count x.state)
turn-own j m x e = rw (eq-eqb m x.range.name e)

pub turn-sibling : (j : Join) (m : ℕ) (x : Slot) → m ≢ x.range.name → turn j m x ≡ slot x.range (move j x.range x.count x.state sibling) x.count
turn-sibling j m x n = rw (ne_eqb m x.range.name n)

-- the range takes the word
abbrev pub takes_one : Join → Slot → List ℕ → Bool
takes_one j x [] = is_idle (move j x.range x.count x.state next)
takes_one j x (m ∷ w) = takes_one j (turn j m x) w

pub none-taken : (j : Join) (w : List ℕ) (x : Slot) → T (is_error x.state) → T (takes_one j x w) → ⊥
none-taken j [] x e t = error-not-idle j x.range x.count x.state e t
none-taken j (m ∷ w) x e t = none-taken j w (turn j m x) (error-stays j x.range x.count x.state (within m x.range) e) t

module _ (j : Join) (r : Range) where
  abbrev TakesFrom : State → ℕ → List ℕ → Type 0
  TakesFrom s c w = T (takes_one j (slot r s c) w)

  -- after an error nothing is taken
  error-takes : (c : ℕ) (w : List ℕ) → TakesFrom error c w → ⊥
  error-takes c w = none-taken j w (slot r error c) tt

  -- ---- done: no event of its own any more

  pub done-takes : (w : List ℕ) (c : ℕ) → TakesFrom done c w ↔ (total r.name w ≡ 0)
  done-takes [] c = (λ t. refl, λ z. tt)
  done-takes (m ∷ w) c = elim (same? m r.name) [
    | inl e ↦ rw (eq-eqb m r.name e) (λ t. absurd (error-takes 1 w t), λ z. absurd (omega (arith, z)))
    | inr d ↦ rw (ne_eqb m r.name d) (done-takes w c)
  ]

  -- ---- counting: more of its own up to its bounds, at once unless shuffled

  abbrev Ends : ℕ → Bool → Type 0
  Ends k b = Enough r k × AtMost r k × (shuffled j ≡ false → T b)

  abbrev pub Left : ℕ → List ℕ → Type 0
  Left c w = Ends (c + total r.name w) (front r.name w)

  nothing_left : (c : ℕ) → AtMost r c → (b : Bool) → has_enough r c ≡ b → T (is_idle (cond b idle error)) ↔ Left c []
  nothing_left c a true q = (λ t. (rw (add-zero c) (enoughly r c q), rw (add-zero c) a, λ f. tt), λ k. tt)
  nothing_left c a false q = (λ t. absurd t, λ k. true≢false (sym (enough r c (rw (add-zero c) at k.0)) ∙ q))

  module _ (c : ℕ) (w : List ℕ) where
    abbrev more : ℕ
    more = total r.name w

    own-event : (AtMost r (suc c) → TakesFrom counting (suc c) w ↔ Left (suc c) w) → (b : Bool) → has_room r c ≡ b
        → T (takes_one j (slot r (cond b counting error) (cond b (suc c) c)) w) ↔ Ends (c + suc more) (front r.name w)
    own-event longer true q = let e : c + suc more ≡ suc c + more = omega arith in rw e (longer (roomy r c q))
    own-event longer false q = (λ t. absurd (error-takes c w t), λ k. absurd (true≢false (sym (room r c (fewer r (omega arith) k.1)) ∙ q)))

    sibling-event : AtMost r c → TakesFrom counting c w ↔ Left c w → (s : Bool) → shuffled j ≡ s → (b : Bool) → has_enough r c ≡ b
        → T (takes_one j (slot r (cond s counting (cond b done error)) c) w) ↔ Ends (c + more) (eqb more 0)
    sibling-event a same true p b q = (λ t. let (low, high, o) = same.0 t in (low, high, in-no-row), λ (low, high, o). same.1 (low, high, in-no-row))
      where
        in-no-row : {A : Type 0} → shuffled j ≡ false → A
        in-no-row f = absurd (true≢false (sym p ∙ f))
    sibling-event a same false p true q = (λ t. closed ((done-takes w c).0 t), λ k. (done-takes w c).1 (eqb→eq more 0 (k.2 p)))
      where
        closed : more ≡ 0 → Ends (c + more) (eqb more 0)
        closed z = let l : r.u ≤ c = enoughly r c q in (omega arith, fewer r (omega arith) a, λ f. zero_test more z)
    sibling-event a same false p false q = (λ t. absurd (error-takes c w t), λ k. absurd (true≢false (sym (enough r c (reached k.0 (eqb→eq more 0 (k.2 p)))) ∙ q)))
      where
        reached : r.u ≤ c + more → more ≡ 0 → Enough r c
        reached l z = omega arith

  pub count-takes : (w : List ℕ) (c : ℕ) → AtMost r c → TakesFrom counting c w ↔ Left c w
  count-takes [] c a = nothing_left c a (has_enough r c) refl
  count-takes (m ∷ w) c a = elim (same? m r.name) [
    | inl e ↦ rw (eq-eqb m r.name e) (own-event c w (count-takes w (suc c)) (has_room r c) refl)
    | inr d ↦ rw (ne_eqb m r.name d) (sibling-event c w a (count-takes w c a) (shuffled j) refl (has_enough r c) refl)
  ]

  -- ---- waiting: none, if it may be left out, or a first

  module _ (one : AtMost r 1) (some : 1 ≤ r.u) where
    none_came : (o : Bool) → T (is_idle (cond o idle error)) ↔ Asks o (shuffled j) r []
    none_came true = (λ t. inl (refl, tt), λ k. tt)
    none_came false = (λ t. absurd t, λ k. elim k [ inl z ↦ z.1 | inr o ↦ absurd (let l : r.u ≤ 0 = o.0 in omega arith) ])

    first-came : (w : List ℕ) → TakesFrom counting 1 w ↔ (((suc (total r.name w) ≡ 0) × T (may_be_left_out j)) ⊎ Ends (suc (total r.name w)) (front r.name w))
    first-came w =
        let e : 1 + total r.name w ≡ suc (total r.name w) = omega arith in
        let (to, from) = rw e at (count-takes w 1 one) in
        (λ t. inr (to t), λ k. elim k [ inl z ↦ absurd (let n : suc (total r.name w) ≡ 0 = z.0 in omega arith) | inr o ↦ from o ])

    pub wait-takes : (w : List ℕ) (c : ℕ) → TakesFrom waiting c w ↔ Asks (may_be_left_out j) (shuffled j) r w
    wait-takes [] c = none_came (may_be_left_out j)
    wait-takes (m ∷ w) c = elim (same? m r.name) [ inl e ↦ rw (eq-eqb m r.name e) (first-came w) | inr d ↦ rw (ne_eqb m r.name d) (wait-takes w c) ]

    -- at the first event it is all one whether the range has not begun or waits
    pub unbegun-takes : (m : ℕ) (w : List ℕ) (c : ℕ) → TakesFrom unbegun c (m ∷ w) ↔ Asks (may_be_left_out j) (shuffled j) r (m ∷ w)
    unbegun-takes m w c = elim (same? m r.name) [ inl e ↦ rw (eq-eqb m r.name e) (first-came w) | inr d ↦ rw (ne_eqb m r.name d) (wait-takes w c) ]

-- ---- in a row

module _ (j : Join) (p : shuffled j ≡ false) where
  -- a sibling's event leaves no range counting
  sibling-stops : (r : Range) (c : ℕ) (s : State) → is_counting (move j r c s sibling) ≡ false
  sibling-stops r c idle = refl
  sibling-stops r c unbegun = refl
  sibling-stops r c waiting = refl
  sibling-stops r c counting = rw p (by_cond (λ (s : State). is_counting s ≡ false) (has_enough r c) refl refl)
  sibling-stops r c done = refl
  sibling-stops r c error = refl

  -- so that a range which counts after an event is the event's own
  pub counts-named : (m : ℕ) (x : Slot) → (turn j m x).state ≡ counting → m ≡ x.range.name
  counts-named m x e = elim (same? m x.range.name) [
    | inl q ↦ q
    | inr d ↦
        let stopped : is_counting (turn j m x).state ≡ false = rw (ne_eqb m x.range.name d) (sibling-stops x.range x.count x.state) in
        absurd (true≢false (ap is_counting (sym e) ∙ stopped))
  ]
