-- An event of the fragment at which the rule stands: an error to its own range if that is full, and to the one that counts if that lacks and blocks stand in a row; otherwise the model's step.
-- Assumes nothing.
use mathlib.Core.Path.{◌≡◌, refl, sym, ◌∙◌, ap, subst}
use mathlib.Core.Bool.{Bool, true, false, cond, not, ◌&&◌, ◌||◌}
use mathlib.Core.List.{List}
use Prim.Native.Nat.{ℕ, ◌%◌, ◌≤◌, ◌<◌}
use native.Mathlib.Nat.{mod-eq_of_lt}
use native.Mathlib.Omega.{arith}
use lib.Dec.{T, eqb}
use lib.ListN.{length, get_or}
use lib.Seq.{set-get_or}
use borrow.Author.Tests.{lt-ltb, eqb-true, eqb-false}
use Rattle.pattern.specs.Meaning.{Event, Join, Range, shuffled, Rule}
use Rattle.pattern.specs.Recogniser.{State, idle, counting, done, error, own, sibling, has_enough, move, is_error, Slot, slots, moves, tallies, within, erred}
use Rattle.pattern.specs.Model.{in_time, fragment_at, has, after_p, released, late, step}
use Rattle.pattern.specs.Model as M
use Rattle.pattern.proofs.Basics.{is_true}
use Rattle.pattern.proofs.Keeps.{Erred, errs-at, inside_is, inside-errs}
use Rattle.recogniser.specs.Numbers.{state_of}
use Rattle.layout.specs.Pages.{range_at}
use Rattle.names.specs.Names.{member}
use Rattle.rule_state.specs.declared.RuleState.{RuleState}
use Rattle.tables.specs.Cells.{Cell}
use Rattle.step.specs.declared.Stepped.{Stepped}
use Rattle.step.specs.declared.Seen.TheVariants.{Error, Taken}
use Rattle.step.specs.declared.Ready.{Ready}
use Rattle.step.specs.Steps.{broken_of, taken_of, closed_of, ready_as, inside_of, step_of}
use Rattle.step.specs.Shows.{InPlay, waits, counts, closed, would_err, Ranges, AloneBut, Counting, errs_to}
use Rattle.step.proofs.Sound.{Sound}
use Rattle.step.proofs.Flags.{clash}
use Rattle.step.proofs.Kept.{Replaced, state-here, state-there, kept}
use Rattle.step.proofs.Changes as Ch
use Rattle.step.proofs.Columns as K
use Rattle.step.proofs.Moving.{own_at, sibling-at, has-it, Beside}
use Rattle.step.proofs.Taking.{taken-linked}
use Rattle.step.proofs.Settled.{Linked, erred-linked}

-- a sibling's event leaves a range as it is, unless it counts and blocks stand in a row
sibling-stays : {j : Join} {r : Range} {state count : ℕ} → InPlay j r state count → (shuffled j ≡ false → state ≡ 3 → ⊥) → move j r count (state_of state) sibling ≡ state_of state
sibling-stays (waits z y) h = rw z
sibling-stays {j} {r} {state} {count} (counts z y) h = rw z (look (shuffled j) refl)
  where
    look : (b : Bool) → shuffled j ≡ b → cond b counting (cond (has_enough r count) done error) ≡ counting
    look true q = refl
    look false q = absurd (h q z)
sibling-stays (closed z y) h = rw z

closed-end : (st : RuleState) → (closed_of st).end ≡ st.end
unfolding closed_of
closed-end st = refl

module _ {rule : Rule} (sound : Sound rule) (time : ℕ) {st : RuleState} {S : M.RuleState} (w : Counting rule st S) {i name cell : ℕ} (hi : i < length (fragment_at rule S.fragment).ranges)
    (e : name ≡ (range_at rule S.fragment i).name) (c : Cell rule S.fragment i cell) (t : after_p rule S.fragment ≡ true → in_time rule.kind S.end time ≡ true) where
  abbrev n : ℕ
  n = S.fragment

  abbrev size : ℕ
  size = length (fragment_at rule S.fragment).ranges

  abbrev j : Join
  j = (fragment_at rule S.fragment).join

  abbrev rs : List Range
  rs = (fragment_at rule S.fragment).ranges

  abbrev E : Event
  E = record { name = name; time = time }

  unfree : T (not (released rule S))
  unfree = rw w.unfree tt

  hs : T (has rule S.fragment name)
  hs = has-it sound w.inside hi e

  in-time : T (not (late rule S E))
  in-time = rw (is_true (has rule S.fragment name) hs) (look (after_p rule S.fragment) t)
    where
      look : (a : Bool) → (a ≡ true → in_time rule.kind S.end time ≡ true) → T (not (a && not (in_time rule.kind S.end time)))
      look true g = rw (g refl) tt
      look false g = tt

  -- what the event would be to range k
  abbrev state : ℕ → State
  state k = state_of (get_or st.states k 0)

  abbrev count : ℕ → ℕ
  count k = get_or S.counts k 0

  -- an error to a range
  errs : (k : ℕ) → k < size → T (is_error (move j (range_at rule S.fragment k) (count k) (state k) (within name (range_at rule S.fragment k)))) → Erred rule (step rule S E)
  errs k g u =
      inside-errs rule S (K.checked sound w) refl (K.sane sound w) unfree E hs in-time
      (look (erred moved) (errs-at j rs S.states S.counts (within name) (K.numbered sound w k) (K.slot-in sound w k g) u))
    where
      moved : List Slot
      moved = slots rs (moves j (within name) rs S.states S.counts) (tallies (within name) rs S.states S.counts)

      look : (b : Bool) → T b → T (not (not b))
      look true u' = tt
      look false u' = u'

  abbrev Goal : Stepped → Type 0
  Goal x = Linked rule time x (step rule S E)

  breaks : Erred rule (step rule S E) → Goal (broken_of st)
  breaks er = erred-linked rule time st (step rule S E) er

  -- the range can take one more
  module _ (clear : errs_to rule S.fragment S.counts st own i ≡ false) where
    takes : Ch.Takes sound w.inside i (get_or st.states i 0) (count i)
    takes = Ch.takes sound w.inside i (get_or st.states i 0) (count i) hi (w.ranges.each i hi) clear

    -- st₁ is st, where every range but the event's own stands as the event leaves it
    module _ (st₁ : RuleState) (w₁ : Ranges rule S.fragment S.counts st₁) (same_end : st₁.end ≡ st.end) (same-own : get_or st₁.states i 0 ≡ get_or st.states i 0)
        (left : (k : ℕ) → k < size → (k ≡ i → ⊥) → state_of (get_or st₁.states k 0) ≡ move j (range_at rule S.fragment k) (count k) (state k) sibling)
        (alone : shuffled j ≡ false → AloneBut rule S.fragment st₁ i) where
      clear₁ : would_err rule S.fragment S.counts st₁ own i ≡ false
      clear₁ = rw (lt-ltb i (size) hi, same-own) clear

      beside : Beside sound w.inside hi e S.states S.counts st₁.states
      beside = record {
        states = K.states-eight sound w;
        counts = w.ranges.eight_counts;
        eight = w₁.eight_states;
        here = rw (K.state-at sound w i) takes.moves;
        tallied = rw (K.state-at sound w i) takes.tallies;
        there = λ k g d. left k g d ∙ sym (rw (K.state-at sound w k));
        past = λ k l g. ap state_of (w₁.idle k l g) ∙ sym (K.state-at sound w k ∙ ap state_of (w.ranges.idle k l g));
      }

      goes_on : Goal (taken_of cell st₁ time)
      goes_on =
          subst (λ (x : M.RuleState). Linked rule time (taken_of cell st₁ time) x) is
          (taken-linked sound time w.inside hi e c S.counts st₁ w₁ clear₁ alone S.states beside w.unfree
          (λ a. ap (λ (x : ℕ). in_time rule.kind x time) (same_end ∙ w.end) ∙ t a))
        where
          -- the model's state, for an end of P
          ended : ℕ → M.RuleState
          ended end = record { fragment = S.fragment; states = moves j (within name) rs S.states S.counts; counts = tallies (within name) rs S.states S.counts; end = M.end_after rule S.fragment end time }

          is : ended st₁.end ≡ step rule S E
          is = ap ended (same_end ∙ w.end)
              ∙ sym (inside_is rule S (K.checked sound w) refl (K.sane sound w) unfree E hs in-time)

    -- blocks are shuffled, or the event is of the range that counts
    stays : (shuffled j ≡ false → i ≡ st.current) → Goal (taken_of cell st time)
    stays h = goes_on st w.ranges refl refl (λ k g d. sym (sibling-stays (w.ranges.each k g) (λ p. alone p k g d))) alone
      where
        alone : shuffled j ≡ false → AloneBut rule S.fragment st i
        alone p = subst (AloneBut rule S.fragment st) (sym (h p)) (w.lone p).alone

    -- in a row, an event of another range than the one that counts
    module _ (p : shuffled j ≡ false) (apart : i ≡ st.current → ⊥) where
      abbrev cur : ℕ
      cur = st.current

      hc : st.current < size
      hc = (w.lone p).held

      counts-there : state_of (get_or st.states st.current 0) ≡ counting
      counts-there = ap state_of (w.lone p).counts

      -- what the event is to it
      old-is : (b : Bool) → has_enough (range_at rule S.fragment st.current) (count st.current) ≡ b
          → move j (range_at rule S.fragment st.current) (count st.current) (state st.current) sibling ≡ cond b done error
      old-is b q = rw (counts-there, p, q)

      lacks-is : (b : Bool) → has_enough (range_at rule S.fragment st.current) (count st.current) ≡ b → member st.lacking st.current ≡ is_error (cond b idle error)
      lacks-is b q = K.lacking-bit sound w st.current hc ∙ rw (counts-there, q)

      lacks : has_enough (range_at rule S.fragment st.current) (count st.current) ≡ false → Goal (broken_of st)
      lacks q = breaks (errs st.current hc (rw (sibling-at sound w.inside hi e st.current hc (λ z. apart (sym z)), old-is false q) tt))

      closes : has_enough (range_at rule S.fragment st.current) (count st.current) ≡ true → Goal (taken_of cell (closed_of st) time)
      closes q = goes_on (closed_of st) w₁ (closed-end st) (state-there r w.ranges few hc i apart) left (λ _. alone)
        where
          few : size ≤ 8
          few = K.few sound w

          r : Replaced rule S.fragment st st.current 4 (count st.current) (closed_of st)
          r = Ch.closed-replaced sound w.inside w.ranges hc (rw (lt-ltb st.current (size) hc, counts-there, q))

          w₁ : Ranges rule S.fragment S.counts (closed_of st)
          w₁ = subst (λ (l : List ℕ). Ranges rule S.fragment l (closed_of st)) (set-get_or S.counts st.current 0) (kept r w.ranges few hc (closed refl p))

          left : (k : ℕ) → k < size → (k ≡ i → ⊥) → state_of (get_or (closed_of st).states k 0) ≡ move j (range_at rule S.fragment k) (count k) (state k) sibling
          left k g d = look (eqb k st.current) refl
            where
              look : (b : Bool) → eqb k st.current ≡ b → state_of (get_or (closed_of st).states k 0) ≡ move j (range_at rule S.fragment k) (count k) (state k) sibling
              look true z =
                  subst (λ (x : ℕ). state_of (get_or (closed_of st).states x 0) ≡ move j (range_at rule S.fragment x) (count x) (state x) sibling) (sym (eqb-true k st.current z))
                  (ap state_of (state-here r w.ranges few hc) ∙ sym (old-is true q))
              look false z = let d' = eqb-false k st.current z in ap state_of (state-there r w.ranges few hc k d') ∙ sym (sibling-stays (w.ranges.each k g) (λ _. (w.lone p).alone k g d'))

          alone : AloneBut rule S.fragment (closed_of st) i
          alone k g d z = look (eqb k st.current) refl
            where
              look : (b : Bool) → eqb k st.current ≡ b → ⊥
              look true y = let four = ap (λ (x : ℕ). get_or (closed_of st).states x 0) (eqb-true k st.current y) ∙ state-here r w.ranges few hc in omega (arith, four, z)
              look false y = let d' = eqb-false k st.current y in (w.lone p).alone k g d' (sym (state-there r w.ranges few hc k d') ∙ z)

  -- the code's tests, in the model's words
  abbrev own_errs : Bool
  own_errs = errs_to rule S.fragment S.counts st own i

  -- in a row, an event of another range than the one that counts
  abbrev row_seen : Ready
  row_seen = cond (member st.lacking (st.current % 8)) (ready_as Error st) (ready_as Taken (closed_of st))

  seen-is : inside_of cell st ≡ cond own_errs (ready_as Error st) (cond (eqb i st.current || shuffled j) (ready_as Taken st) row_seen)
  unfolding inside_of
  seen-is = rw (c.index, c.shuffled, K.full-bit sound w i hi)

  abbrev Seen' : Ready → Type 0
  Seen' x = Goal (step_of cell st time x)

  pub inside-linked : Linked rule time (step_of cell st time (inside_of cell st)) (step rule S (record { name = name; time = time }))
  inside-linked = subst Seen' (sym seen-is) (look own_errs refl)
    where
      reduced : shuffled j ≡ false → st.current % 8 ≡ st.current
      reduced p = let small : st.current < 8 = omega (arith, (w.lone p).held, K.few sound w) in mod-eq_of_lt small

      row : own_errs ≡ false → shuffled j ≡ false → (i ≡ st.current → ⊥) → Seen' row_seen
      row q p d = rw (reduced p) (go (has_enough (range_at rule S.fragment st.current) (count st.current)) refl)
        where
          go : (b : Bool) → has_enough (range_at rule S.fragment st.current) (count st.current) ≡ b → Seen' (cond (member st.lacking st.current) (ready_as Error st) (ready_as Taken (closed_of st)))
          go true z = rw (lacks-is q p d true z) (closes q p d z)
          go false z = rw (lacks-is q p d false z) (lacks q p d z)

      look : (b : Bool) → own_errs ≡ b → Seen' (cond b (ready_as Error st) (cond (eqb i st.current || shuffled j) (ready_as Taken st) row_seen))
      look true q = breaks (errs i hi (rw (own_at sound w.inside hi e, q) tt))
      look false q = go (eqb i st.current) refl (shuffled j) refl
        where
          go : (a : Bool) → eqb i st.current ≡ a → (b : Bool) → shuffled j ≡ b → Seen' (cond (a || b) (ready_as Taken st) row_seen)
          go true qa b qb = stays q (λ p. eqb-true i st.current qa)
          go false qa true qb = stays q (λ p. clash (sym p ∙ qb))
          go false qa false qb = row q qb (eqb-false i st.current qa)
