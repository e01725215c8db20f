-- The recogniser of a fragment keeps the laws that `Rounds` asks of a recogniser: `laws`. The interesting one is `live`: from every sane state some word completes the fragment, those that count up to their
-- least and then the least of each that waits. In a row one range alone counts, so that word is in a row too.
-- Assumes nothing.
use mathlib.Core.Path.{◌≡◌, sym, ◌∙◌, ap, ap₂, subst}
use mathlib.Core.Logic.{inl, inr, ◌≢◌}
use mathlib.Core.Bool.{Bool, true, false, cond, not}
use mathlib.Core.List.{List, ◌∷◌, ◌++◌, map, map-map}
use Prim.Native.Nat.{ℕ, ◌+◌, ◌-◌, ◌≤◌, ◌<◌}
use native.Mathlib.Omega.{arith}
use lib.Dec.{T, leb, leb→le, nleb→lt, T_not}
use borrow.Author.Tests.{eq-eqb, ne_eqb}
use Rattle.pattern.specs.Lists.{In, Distinct}
use Rattle.pattern.specs.Meaning.{Range, Join, shuffled, AtMost, fragment_names}
use Rattle.pattern.specs.Recogniser.{State, idle, unbegun, waiting, counting, done, error, own, sibling, next, has_enough, has_room, move, is_idle, is_counting, is_error, Slot}
use Rattle.pattern.specs.Totals.{total}
use Rattle.pattern.proofs.Basics.{some_in, by_cond, test, same?, in-append, in_map, distinct-map, of_map, all→, any→, any←, is_in→, is_in←}
use Rattle.pattern.proofs.Moves.{counting-error}
use Rattle.pattern.proofs.Totals.{front, row, total-append, front-none, row-after}
use Rattle.pattern.proofs.Block.{fewer}
use Rattle.pattern.proofs.Running.{slot, turn, takes_one, none-taken, done-takes, count-takes, wait-takes}
use Rattle.pattern.proofs.Rounds.{Takes, Laws}
use Rattle.pattern.proofs.Fragment.{X, Held, Checked, slots_in, Open, waits, counts, over, Sane, one, in-range, slot_of, sane-step, next_sane, first, not-closed}
use Rattle.pattern.proofs.Product.{takes-each, bad}
use Rattle.pattern.proofs.Fill.{fill, fill_on, fill-total, fill-row, fill-front}

-- ---- what a range still needs

is_waiting : State → Bool
is_waiting idle = false
is_waiting unbegun = false
is_waiting waiting = true
is_waiting counting = false
is_waiting done = false
is_waiting error = false

-- a range that counts, and one that waits
need_counting : Slot → ℕ
need_counting x = cond (is_counting x.state) (x.range.u - x.count) 0

need_waiting : Slot → ℕ
need_waiting x = cond (is_waiting x.state) x.range.u 0

module _ (x : Slot) where
  needs-waiting : x.state ≡ waiting → (need_counting x ≡ 0) × (need_waiting x ≡ x.range.u)
  unfolding need_counting need_waiting is_waiting
  needs-waiting q = (rw q, rw q)

  needs-counting : x.state ≡ counting → (need_counting x ≡ x.range.u - x.count) × (need_waiting x ≡ 0)
  unfolding need_counting need_waiting is_waiting
  needs-counting q = (rw q, rw q)

  needs-done : x.state ≡ done → (need_counting x ≡ 0) × (need_waiting x ≡ 0)
  unfolding need_counting need_waiting is_waiting
  needs-done q = (rw q, rw q)

-- counting on to the least number
reach : (r : Range) (c : ℕ) → AtMost r c → AtMost r r.u → AtMost r (c + (r.u - c))
reach r c h l = elim (test (leb r.u c)) [
  | inl t ↦ let i : r.u ≤ c = leb→le r.u c t in fewer r (omega arith) h
  | inr t ↦ let i : c < r.u = nleb→lt r.u c t in fewer r (omega arith) l
]

module _ (f : Checked) where
  abbrev j : Join
  j = f.fragment.join

  abbrev rs : List Range
  rs = f.fragment.ranges

  module _ (s : Held) (h : Sane f s) where
    abbrev xs : List Slot
    xs = slots_in f s

    abbrev completion : List ℕ
    completion = fill need_counting (slots_in f s) ++ fill need_waiting (slots_in f s)

    names-once : Distinct (map (λ (x : Slot). x.range.name) xs)
    names-once =
        let e : map (λ (r : Range). r.name) rs ≡ map (λ (x : Slot). x.range.name) xs = ap (map (λ (r : Range). r.name)) (sym h.ranges) ∙ map-map (λ (r : Range). r.name) (λ (x : Slot). x.range) xs in
        rw e at f.fine.distinct

    has-slot : (x : Slot) → In x xs → In x.range.name (fragment_names f.fragment)
    has-slot x i = in_map (λ (r : Range). r.name) rs x.range (in-range f s h.ranges x i)

    -- ---- each range takes the word that completes the fragment

    on : (m : ℕ) → In m completion → In m (fragment_names f.fragment)
    on m i = elim (in-append m (fill need_counting xs) (fill need_waiting xs) i) [
      | inl k ↦ let (x, ix, e) = fill_on need_counting xs m k in rw e (has-slot x ix)
      | inr k ↦ let (x, ix, e) = fill_on need_waiting xs m k in rw e (has-slot x ix)
    ]

    module _ (x : Slot) (i : In x xs) where
      abbrev n : ℕ
      n = x.range.name

      total-is : total n completion ≡ need_counting x + need_waiting x
      total-is = total-append n (fill need_counting xs) (fill need_waiting xs) ∙ ap₂ ◌+◌ (fill-total need_counting x xs names-once i) (fill-total need_waiting x xs names-once i)

      within : In x.range rs
      within = in-range f s h.ranges x i

      some : 1 ≤ x.range.u
      some = f.fine.some x.range within

      order : AtMost x.range x.range.u
      order = f.fine.order x.range within

      -- where it counts in a row, no other does
      alone : x.state ≡ counting → shuffled j ≡ false → (y : Slot) → In y xs → y.range.name ≢ n → Open j y → need_counting y ≡ 0
      alone q p y k d (waits q') = (needs-waiting y q').0
      alone q p y k d (counts q' a') = absurd (d (h.lone p y x k i q' q))
      alone q p y k d (over q' p') = (needs-done y q').0

      in-state : (st : State) → x.state ≡ st → T (takes_one j (slot x.range st x.count) completion) → T (takes_one j x completion)
      in-state st q t = subst (λ (y : State). T (takes_one j (slot x.range y x.count) completion)) (sym q) t

      completes : Open j x → T (takes_one j x completion)
      completes (waits q) =
          let (none, least) = needs-waiting x q in
          let z : total n completion ≡ x.range.u = total-is ∙ omega (arith, none, least) in
          let later : total n (fill need_counting xs) ≡ 0 = fill-total need_counting x xs names-once i ∙ none in
          let in_row : T (row n completion) = row-after n (fill need_counting xs) (fill need_waiting xs) later (fill-row need_waiting x xs names-once i) in
          in-state waiting q ((wait-takes j x.range (one f x.range within) some completion x.count).1 (inr (omega (arith, z), rw z order, λ p. in_row)))
      completes (counts q a) =
          let (rest, none) = needs-counting x q in
          let z : total n completion ≡ x.range.u - x.count = total-is ∙ omega (arith, rest, none) in
          let first : total n (fill need_waiting xs) ≡ 0 = fill-total need_waiting x xs names-once i ∙ none in
          let at_once : shuffled j ≡ false → T (front n completion) = λ p. fill-front need_counting xs n (fill need_waiting xs) (λ y k d. alone q p y k d (h.each y k)) (front-none n (fill need_waiting xs) first) in
          in-state counting q ((count-takes j x.range completion x.count a).1 (omega (arith, z), rw z (reach x.range x.count a order), at_once))
      completes (over q p) = let (none, none') = needs-done x q in in-state done q ((done-takes j x.range completion x.count).1 (total-is ∙ omega (arith, none, none')))

    pub live : (w : List ℕ) × Takes X f s w
    live = (completion, (takes-each f completion s).1 (record { on = on; each = λ x i. completes x i (h.each x i) }))

  -- ---- one event more

  -- a range takes one more event of its own; or an event of its own is an error to it, where it is open
  abbrev takes_own : Slot → Bool
  takes_own x = is_counting (move f.fragment.join x.range x.count x.state own)

  own-errs : (x : Slot) → Open j x → T (not (takes_own x)) → T (is_error (move j x.range x.count x.state own))
  own-errs x (waits q) = rw q (λ t. absurd t)
  own-errs x (counts q a) = rw q (by_cond (λ (s : State). T (not (is_counting s)) → T (is_error s)) (has_room x.range x.count) (λ t. absurd t) (λ t. tt))
  own-errs x (over q p) = rw q (λ t. tt)

  -- in a fragment that may be followed a sibling's event is no error
  sibling-fine : (x : Slot) → Open j x → T (is_idle (move j x.range x.count x.state next)) → T (is_error (move j x.range x.count x.state sibling)) → ⊥
  sibling-fine x (waits q) = rw q (λ c t. t)
  sibling-fine x (counts q a) = rw q (closes (shuffled j) (has_enough x.range x.count))
    where
      closes : (s b : Bool) → T (is_idle (cond b idle error)) → T (is_error (cond s counting (cond b done error))) → ⊥
      closes true b c t = t
      closes false true c t = t
      closes false false c t = c
  sibling-fine x (over q p) = rw q (λ c t. t)

  module _ (s : Held) (h : Sane f s) where
    ends : (m : ℕ) (w : List ℕ) → T (not (X.grows f s)) → Takes X f s (m ∷ w) → ⊥
    ends m w g t =
        let (r, ir, e) = of_map (λ (r : Range). r.name) rs m (is_in→ m (fragment_names f.fragment) t.0) in
        let (x, i, e') = slot_of f s h r ir in
        let named : m ≡ x.range.name = e ∙ ap (λ (y : Range). y.name) e' in
        elim (test (takes_own x)) [
          | inl u ↦ T_not (X.grows f s) g (any← takes_own (slots_in f s) x i u)
          | inr u ↦ none-taken j w (turn j m x) (rw (eq-eqb m x.range.name named) (own-errs x (h.each x i) u)) (((takes-each f (m ∷ w) s).0 t).each x i)
        ]

    -- in a fragment that may be followed, an event that its range takes is no error, to that range or to another
    module _ (k : T (X.closed f s)) (x : Slot) (i : In x (slots_in f s)) (u : T (takes_own x)) where
      fine : (y : Slot) → In y (slots_in f s) → T (is_error (turn j x.range.name y).state) → ⊥
      fine y iy v = elim (same? x.range.name y.range.name) [
        | inl e ↦
            let same : y ≡ x = distinct-map (λ (z : Slot). z.range.name) (slots_in f s) (names-once s h) y x iy i (sym e) in
            counting-error (move j y.range y.count y.state own) (rw same u) (rw (eq-eqb x.range.name y.range.name e) at v)
        | inr d ↦
            let Closed-at = all→ (λ (z : Slot). is_idle (move j z.range z.count z.state next)) (slots_in f s) k y iy in
            sibling-fine y (h.each y iy) Closed-at (rw (ne_eqb x.range.name y.range.name d) at v)
      ]

      one_more : (m : ℕ) × (w : List ℕ) × Takes X f s (m ∷ w)
      one_more =
          let (w, t) = live (X.step f s x.range.name) (sane-step f s x.range.name h fine) in
          (x.range.name, w, (is_in← x.range.name (fragment_names f.fragment) (has-slot s h x i), t))

    more : T (X.closed f s) → T (X.grows f s) → (m : ℕ) × (w : List ℕ) × Takes X f s (m ∷ w)
    more k g = let (x, i, u) = any→ takes_own (slots_in f s) g in one_more k x i u

  some_word : (m : ℕ) × (w : List ℕ) × Takes X f (X.start f) (m ∷ w)
  some_word =
      let (r, i) = some_in rs f.count.0 in
      let h : T (X.has f r.name) = is_in← r.name (fragment_names f.fragment) (in_map (λ (x : Range). x.name) rs r i) in
      let (w, t) = live (X.step f (X.start f) r.name) (first f r.name h) in
      (r.name, w, (h, t))

pub laws : Laws X
laws = record {
  Sane = Sane;
  first = first;
  next = next_sane;
  bad = bad;
  some = some_word;
  unbegun = not-closed;
  live = live;
  ends = λ f s m w h. ends f s h m w;
  more = more;
}

-- the states of a place are sane
pub running : (f : Checked) (s : Held) → laws.Sane f s → Sane f s
unfolding laws
running f s h = h
