-- The filling of a fragment is its recogniser's state: how often a range has come, and which came last, say where the range's recogniser stands (`state_of`). So a name may come exactly when it is an
-- error to no range, the fragment may be left exactly when it may be followed, and it takes the words that its fillings allow, step by step; where it may not be left, the needed name may come.
-- Assumes nothing.
use mathlib.Core.Path.{◌≡◌, refl, sym, ◌∙◌, ap}
use mathlib.Core.Logic.{inl, inr, ◌≢◌, ◌↔◌}
use mathlib.Core.Bool.{Bool, true, false, cond, not, ◌&&◌, ◌||◌, true≢false, and-eq-true_iff, or-true, or-false}
use mathlib.Core.List.{List, [], ◌∷◌}
use Prim.Native.Nat.{ℕ, zero, suc, ◌≤◌, ◌<◌}
use native.Mathlib.Omega.{arith}
use lib.Dec.{T, eqb, ltb}
use lib.ListN.{length, get_or, length-set, get_or-replicate}
use lib.Seq.{get_or-set_same, get_or-set_other}
use borrow.Author.Tests.{eq-eqb, ne_eqb, eqb-true, eqb-false, lt-ltb, lt-leb, leb-false, ltb-true, not-true}
use Rattle.std.specs.Prelude.{Option, Some, None, is_some, is_none}
use Rattle.std.specs.Option.{option_eq}
use Rattle.pattern.specs.Lists.{In}
use Rattle.pattern.specs.Meaning.{Range, Join, may_be_left_out, shuffled, Fragment, MatchesFragment, fragment_names}
use Rattle.pattern.specs.Recogniser.{State, idle, unbegun, waiting, counting, done, error, own, sibling, next, has_enough, has_room, move, next_count, is_idle, is_error, Slot}
use Rattle.pattern.proofs.Basics.{true-or-false, same?, none_or_some, is_true, by_cond, of_map, in_map, distinct-map}
use Rattle.pattern.proofs.Block.{fewer}
use Rattle.pattern.proofs.Running.{slot, turn, turn-own, turn-sibling, takes_one, none-taken, room}
use Rattle.pattern.proofs.Fragment.{X, Checked, slots_in, one, start-slots}
use Rattle.pattern.proofs.Product.{takes-each, match→, match←}
use Rattle.layout.specs.Pages.{no_range}
use Rattle.layout.proofs.Sets.{neither}
use Rattle.layout.proofs.Once.{in-names, same-range, name-place}
use Rattle.tables.proofs.Names.{first-at, first-before}
use Rattle.rule_player.specs.declared.Filling.{Filling}
use Rattle.rule_player.specs.Choice.{empty, count_of, comes, is_new, room_for, range_of, enough_of, goes_on, may_change, may_come, is_short, first_short, needs_every, may_end, needed}
use Rattle.rule_player.proofs.Walk.{some-or-none, some≢none, same-some, the-last-is, needed-within, needed-begun, needed-short}

range-in : (rs : List Range) (k : ℕ) → k < length rs → In (get_or rs k no_range) rs
range-in [] k h = absurd (omega arith)
range-in (r ∷ rs) zero h = inl refl
range-in (r ∷ rs) (suc k) h = inr (range-in rs k (omega arith))

module _ (c : Checked) where
  abbrev f : Fragment
  f = c.fragment

  abbrev j : Join
  j = f.join

  abbrev pub size : ℕ
  size = length c.fragment.ranges

  abbrev r : ℕ → Range
  r = range_of f

  -- ---- where a range's recogniser stands

  -- a block that may not go on is done, or was ended too early
  abbrev state_of : Filling → ℕ → State
  state_of s k = cond (eqb (count_of s k) 0) (cond (is_none s.last) unbegun waiting) (cond (goes_on f s k) counting (cond (enough_of f s k) done error))

  abbrev slot_of : Filling → ℕ → Slot
  slot_of s k = slot (r k) (state_of s k) (count_of s k)

  module _ (s : Filling) (k : ℕ) where
    none-state : count_of s k ≡ 0 → state_of s k ≡ cond (is_none s.last) unbegun waiting
    none-state z = rw (eq-eqb _ _ z) refl

    begun-state : 1 ≤ count_of s k → state_of s k ≡ cond (goes_on f s k) counting (cond (enough_of f s k) done error)
    begun-state p = rw (ne_eqb (count_of s k) 0 (λ z. omega arith)) refl

  -- what holds of a filling
  pub record Good (s : Filling) : Type 0 where
    pub eight : length s.counts ≡ 8
    pub none : s.last ≡ None → (k : ℕ) → k < size → count_of s k ≡ 0
    pub some : (l : ℕ) → s.last ≡ Some l → (l < size) × (1 ≤ count_of s l)
    -- no block was ended too early
    pub over : (k : ℕ) → k < size → 1 ≤ count_of s k → goes_on f s k ≡ false → enough_of f s k ≡ true

  -- what the sheet guarantees of range k
  module _ (s : Filling) (k : ℕ) (h : k < size) where
    none-short : has_enough (r k) 0 ≡ false
    none-short = lt-leb (r k).u 0 (c.fine.some (r k) (range-in f.ranges k h))

    first-room : count_of s k ≡ 0 → has_room (r k) (count_of s k) ≡ true
    first-room z = rw z (room (r k) 0 (one c (r k) (range-in f.ranges k h)))

    -- below u there is room
    short-room : enough_of f s k ≡ false → has_room (r k) (count_of s k) ≡ true
    short-room e = room (r k) (count_of s k) (fewer (r k) (leb-false (r k).u (count_of s k) e) (c.fine.order (r k) (range-in f.ranges k h)))

  -- ---- a name may come: its block goes on and has room, or it begins and the last block has enough

  module _ (s : Filling) (i : ℕ) where
    abbrev Begins : Type 0
    Begins = (is_new s i ≡ true) × ((l : ℕ) → s.last ≡ Some l → enough_of f s l ≡ true)

    may← : (goes_on f s i ≡ true → room_for (r i) (count_of s i) ≡ true) → (goes_on f s i ≡ false → Begins) → may_come f s i ≡ true
    may← more begins = elim (true-or-false (goes_on f s i)) [ inl e ↦ rw e (more e) | inr e ↦ rw (e, (begins e).0) (last s.last refl (begins e).1) ]
      where
        last : (x : Option ℕ) → s.last ≡ x → ((l : ℕ) → s.last ≡ Some l → enough_of f s l ≡ true) → may_change f s ≡ true
        last None q enough = rw q refl
        last (Some l) q enough = rw q (enough l q)

    may→ : may_come f s i ≡ true → goes_on f s i ≡ false → Begins
    may→ may e =
        let (z, h) = (and-eq-true_iff (is_new s i) (may_change f s)).0 (rw e at may) in
        (z, λ l q. rw q at h)

  -- ---- it moves each range's recogniser as the filling says

  module _ (s : Filling) (good : Good s) (i : ℕ) (inside : i < size) (may : may_come f s i ≡ true) where
    came : count_of (comes s i) i ≡ suc (count_of s i)
    came = get_or-set_same s.counts i (suc (count_of s i)) 0 (omega (arith, good.eight, c.count.1))

    own-goes : goes_on f (comes s i) i ≡ true
    own-goes = rw (eq-eqb i i refl) (or-true (shuffled j))

    own_turn : turn j (r i).name (slot_of s i) ≡ slot_of (comes s i) i
    own_turn = turn-own j (r i).name (slot_of s i) refl ∙ moved ∙ sym (rw (came, own-goes, ne_eqb (suc (count_of s i)) 0 (λ z. omega arith)) refl)
      where
        moved : slot (r i) (move j (r i) (count_of s i) (state_of s i) own) (next_count (r i) (count_of s i) (state_of s i)) ≡ slot (r i) counting (suc (count_of s i))
        moved = elim (none_or_some (count_of s i)) [
          | inl z ↦ rw (none-state s i z, z) (by_cond (λ (x : State). slot (r i) (move j (r i) 0 x own) (next_count (r i) 0 x) ≡ slot (r i) counting 1) (is_none s.last) refl refl)
          | inr p ↦ elim (true-or-false (goes_on f s i)) [
            | inl e ↦ rw (begun-state s i p, e, rw e at may) refl
            | inr e ↦ absurd (omega (arith, eqb-true (count_of s i) 0 (may→ s i may e).0))
          ]
        ]

    module _ (k : ℕ) (d : k ≢ i) where
      stays : count_of (comes s i) k ≡ count_of s k
      stays = get_or-set_other s.counts i k (suc (count_of s i)) 0 d

      sibling-goes : goes_on f (comes s i) k ≡ shuffled j
      sibling-goes = rw (ne_eqb i k (λ z. d (sym z))) (or-false (shuffled j))

      sibling-moves : move j (r k) (count_of s k) (state_of s k) sibling ≡ state_of (comes s i) k
      sibling-moves = rw (stays, sibling-goes) (go (eqb (count_of s k) 0) (is_none s.last) (shuffled j) (option_eq eqb s.last (Some k)) (enough_of f s k) refl refl)
        where
          go : (z l sh b e : Bool) → shuffled j ≡ sh → enough_of f s k ≡ e
              → move j (r k) (count_of s k) (cond z (cond l unbegun waiting) (cond (sh || b) counting (cond e done error))) sibling ≡ cond z waiting (cond sh counting (cond e done error))
          go true true sh b e p q = refl
          go true false sh b e p q = refl
          go false l true b e p q = rw p refl
          go false l false true e p q = rw (p, q) refl
          go false l false false true p q = refl
          go false l false false false p q = refl

    turns : (k : ℕ) → k < size → turn j (r i).name (slot_of s k) ≡ slot_of (comes s i) k
    turns k h = elim (same? k i) [
      | inl e ↦ rw e own_turn
      | inr d ↦ turn-sibling j (r i).name (slot_of s k) (λ e. d (sym (same-range f.ranges c.fine.distinct i k inside h e))) ∙ (λ x. slot (r k) (sibling-moves k d x) (sym (stays k d) x))
    ]

    pub good-comes : Good (comes s i)
    good-comes = record {
      eight = length-set s.counts i (suc (count_of s i)) ∙ good.eight;
      none = λ e. absurd (some≢none e);
      some = λ l e. let z : l ≡ i = sym (same-some e) in rw (z, came) (inside, omega arith);
      over = over-comes;
    }
      where
        over-comes : (k : ℕ) → k < size → 1 ≤ count_of (comes s i) k → goes_on f (comes s i) k ≡ false → enough_of f (comes s i) k ≡ true
        over-comes k h p e = elim (same? k i) [
          | inl z ↦ absurd (true≢false (sym own-goes ∙ (rw z at e)))
          | inr d ↦
              let q : shuffled j ≡ false = sym (sibling-goes k d) ∙ e in
              rw (stays k d) (elim (true-or-false (option_eq eqb s.last (Some k))) [
                | inl y ↦ let l : s.last ≡ Some k = the-last-is s.last k y in (may→ s i may (rw (q, l, ne_eqb k i d) refl)).1 k l
                | inr y ↦ good.over k h (rw (stays k d) at p) (rw (q, y) refl)
              ])
        ]

  -- ---- the words that a filling allows: each range takes them

  pub record Allows (s : Filling) (w : List ℕ) : Type 0 where
    pub on : (m : ℕ) → In m w → In m (fragment_names c.fragment)
    pub each : (k : ℕ) → k < size → T (takes_one c.fragment.join (slot_of s k) w)

  module _ (s : Filling) (good : Good s) (w : List ℕ) where
    pub allows-name : (i : ℕ) → i < size → may_come c.fragment s i ≡ true → Allows (comes s i) w → Allows s ((range_of c.fragment i).name ∷ w)
    allows-name i inside may a = record { on = on; each = λ k h. rw (turns s good i inside may k h) (a.each k h) }
      where
        on : (m : ℕ) → In m ((r i).name ∷ w) → In m (fragment_names f)
        on m (inl e) = rw e (in-names f.ranges i inside)
        on m (inr h) = a.on m h

    -- a word that it allows begins with a name that may come
    module _ (m : ℕ) (a : Allows s (m ∷ w)) where
      fine : (k : ℕ) → k < size → is_error (turn j m (slot_of s k)).state ≡ true → ⊥
      fine k h e = none-taken j w (turn j m (slot_of s k)) (rw e tt) (a.each k h)

      module _ (i : ℕ) (inside : i < size) (named : m ≡ (r i).name) where
        own-fine : is_error (move j (r i) (count_of s i) (state_of s i) own) ≡ true → ⊥
        own-fine e = fine i inside (rw (eq-eqb m (r i).name named) e)

        more : goes_on f s i ≡ true → room_for (r i) (count_of s i) ≡ true
        more e = elim (none_or_some (count_of s i)) [
          | inl z ↦ first-room s i inside z
          | inr p ↦ elim (true-or-false (has_room (r i) (count_of s i))) [ inl y ↦ y | inr y ↦ absurd (own-fine (rw (begun-state s i p, e, y) refl)) ]
        ]

        begins : goes_on f s i ≡ false → Begins s i
        begins e = (eq-eqb _ _ not-come, last-enough)
          where
            not-come : count_of s i ≡ 0
            not-come = elim (none_or_some (count_of s i)) [
              | inl z ↦ z
              | inr p ↦ absurd (own-fine (rw (begun-state s i p, e) (by_cond (λ (x : State). is_error (move j (r i) (count_of s i) x own) ≡ true) (enough_of f s i) refl refl)))
            ]

            -- else the block that came last would be cut short
            last-enough : (l : ℕ) → s.last ≡ Some l → enough_of f s l ≡ true
            last-enough l z = elim (true-or-false (enough_of f s l)) [
              | inl y ↦ y
              | inr y ↦
                  let (inner, p) = good.some l z in
                  let (row, d) = neither (shuffled j) (option_eq eqb s.last (Some i)) e in
                  let other : m ≢ (r l).name = λ q. eqb-false l i (rw z at d) (same-range f.ranges c.fine.distinct l i inner inside (sym q ∙ named)) in
                  absurd (fine l inner (rw (ne_eqb m (r l).name other, begun-state s l p, z, eq-eqb l l refl, or-true (shuffled j), row, y) refl))
            ]

      pub allows-first : (i : ℕ) × (i < size) × (m ≡ (range_of c.fragment i).name) × (may_come c.fragment s i ≡ true) × Allows (comes s i) w
      allows-first =
          let (i, h, e) = name-place f.ranges m (a.on m (inl refl)) in
          let may : may_come f s i ≡ true = may← s i (more i h e) (begins i h e) in
          (i, h, e, may, record { on = λ n x. a.on n (inr x); each = λ k l. rw (sym (turns s good i h may k l)) (rw e at (a.each k l)) })

  -- ---- leaving: where something has come, a range lets the fragment be followed exactly when it is not short

  -- the ranges that must have enough are all, or those that have come
  abbrev every : Bool
  every = needs_every f

  stops : (s : Filling) → is_none s.last ≡ false → (k : ℕ) → k < size → is_idle (move j (r k) (count_of s k) (state_of s k) next) ≡ not (is_short f s every k)
  stops s d k h = elim (none_or_some (count_of s k)) [
    | inl z ↦ rw (none-state s k z, d, z, none-short s k h) (left (may_be_left_out j))
    | inr p ↦ rw (begun-state s k p, lt-ltb 0 (count_of s k) p, or-true every) (begun (goes_on f s k) (enough_of f s k) refl)
  ]
    where
      left : (b : Bool) → is_idle (cond b idle error) ≡ not (not b || false)
      left true = refl
      left false = refl

      begun : (g e : Bool) → enough_of f s k ≡ e → is_idle (move j (r k) (count_of s k) (cond g counting (cond e done error)) next) ≡ not (not e && true)
      begun true true q = rw q refl
      begun true false q = rw q refl
      begun false true q = refl
      begun false false q = refl

  none-not : (o : Option ℕ) → is_some o ≡ true → is_none o ≡ false
  none-not None e = absurd (true≢false (sym e))
  none-not (Some l) e = refl

  not-none : (o : Option ℕ) → is_none o ≡ false → is_some o ≡ true
  not-none None e = absurd (true≢false e)
  not-none (Some l) e = refl

  begun-at-end : (s : Filling) → Good s → Allows s [] → is_none s.last ≡ false
  begun-at-end s good a = elim (some-or-none s.last) [
    | inl e ↦ let t = a.each 0 c.count.0 in absurd (rw (e, eq-eqb _ _ (good.none e 0 c.count.0)) at t)
    | inr p ↦ ap is_none p.1
  ]

  pub allows-end : (s : Filling) → Good s → Allows s [] ↔ (may_end c.fragment s ≡ true)
  allows-end s good = (end, stop)
    where
      end : Allows s [] → may_end f s ≡ true
      end a =
          let begun = begun-at-end s good a in
          let none : (k : ℕ) → k < size → is_short f s every k ≡ false = λ k h. not-true _ (sym (stops s begun k h) ∙ is_true _ (a.each k h)) in
          let past : first_short f s every ≡ size = first-at (is_short f s every) size size 0 (omega arith) (omega arith) none (λ h. absurd (omega arith)) in
          rw (not-none s.last begun, eq-eqb _ _ past) refl

      stop : may_end f s ≡ true → Allows s []
      stop e =
          let (d, q) = (and-eq-true_iff (is_some s.last) (eqb (first_short f s every) size)).0 e in
          let q' : first_short f s every ≡ size = eqb-true _ _ q in
          let none : (k : ℕ) → k < size → is_short f s every k ≡ false = λ k h. first-before (is_short f s every) 0 size k (omega arith) (omega arith) in
          record { on = λ m i. absurd i; each = λ k h. rw (stops s (none-not s.last d) k h, none k h) tt }

  -- ---- where it may not be left, the needed name may come

  module _ (s : Filling) (good : Good s) (ends : may_end c.fragment s ≡ false) where
    abbrev i : ℕ
    i = needed f s

    -- else the block that came last would be needed
    last-enough : count_of s i ≡ 0 → (l : ℕ) → s.last ≡ Some l → enough_of f s l ≡ true
    last-enough z l e = elim (true-or-false (enough_of f s l)) [
      | inl y ↦ y
      | inr y ↦
          let (h, p) = good.some l e in
          let (n, q) = (and-eq-true_iff (not (enough_of f s i)) (ltb 0 (count_of s i))).0 (needed-begun f s l h (rw (y, lt-ltb 0 (count_of s l) p) refl)) in
          absurd (omega (arith, ltb-true 0 (count_of s i) q))
    ]

    pub needed-may : (needed c.fragment s < size) × (may_come c.fragment s (needed c.fragment s) ≡ true)
    needed-may = elim (some-or-none s.last) [
      | inl e ↦
          let h = needed-within f s c.count.0 in
          (h, may← s i (λ g. first-room s i h (good.none e i h)) (λ g. (eq-eqb _ _ (good.none e i h), λ l q. absurd (some≢none (sym q ∙ e)))))
      | inr d ↦
          let (h, short) = needed-short f s (ap is_some d.1) ends in
          let absent : goes_on f s i ≡ false → count_of s i ≡ 0 = λ g. elim (none_or_some (count_of s i)) [ inl z ↦ z | inr p ↦ absurd (true≢false (sym (good.over i h p g) ∙ short)) ] in
          (h, may← s i (λ g. short-room s i h short) (λ g. (eq-eqb _ _ (absent g), last-enough (absent g))))
    ]

  -- ---- the empty filling allows the words that match the fragment

  zero-counts : (k : ℕ) → k < size → count_of empty k ≡ 0
  zero-counts k h = get_or-replicate 8 k 0 0 (omega (arith, c.count.1))

  pub good-empty : Good empty
  good-empty = record { eight = refl; none = λ e. zero-counts; some = λ l e. absurd (some≢none (sym e)); over = λ k h p e. absurd (omega (arith, zero-counts k h)) }

  empty-slot : (k : ℕ) → k < size → slot_of empty k ≡ slot (r k) unbegun 0
  empty-slot k h = rw (zero-counts k h) refl

  pub allows-match : (w : List ℕ) → Allows empty w ↔ MatchesFragment c.fragment w
  allows-match w = (
    λ a. match← c w ((takes-each c w (X.start c)).1 (record { on = a.on; each = each a })),
    λ m. let t = (takes-each c w (X.start c)).0 (match→ c w m) in record { on = t.on; each = λ k h. rw (empty-slot k h) (t.each (slot (r k) unbegun 0) (here k h)) },
  )
    where
      here : (k : ℕ) → k < size → In (slot (r k) unbegun 0) (slots_in c (X.start c))
      here k h = rw (start-slots c) (in_map (λ (z : Range). slot z unbegun 0) f.ranges (r k) (range-in f.ranges k h))

      each : Allows empty w → (x : Slot) → In x (slots_in c (X.start c)) → T (takes_one j x w)
      each a x i =
          let (y, i', e) = of_map (λ (z : Range). slot z unbegun 0) f.ranges x (rw (start-slots c) at i) in
          let (k, h, n) = name-place f.ranges y.name (in_map (λ (z : Range). z.name) f.ranges y i') in
          let e' : y ≡ r k = distinct-map (λ (z : Range). z.name) f.ranges c.fine.distinct y (r k) i' (range-in f.ranges k h) n in
          rw (e, e') (rw (empty-slot k h) at (a.each k h))
