-- Every choice of bytes plays a round, and every round is played by some. Step by step, the bytes that are left give a word that the fragment's filling allows (`goes`); and a word that it allows has
-- its bytes, for each name its range's number and 1, then 0 to leave the fragment (`played`). A round is what matches its fragments, P's and then the trigger's or Q's, in order (`round→`, `round←`).
-- Assumes nothing.
use mathlib.Core.Path.{◌≡◌, refl, sym, ◌∙◌, ap, subst}
use mathlib.Core.Logic.{◌≢◌}
use mathlib.Core.Bool.{true}
use mathlib.Core.List.{List, [], ◌∷◌, ◌++◌, append_assoc, map-append}
use Prim.Native.Nat.{ℕ, zero, suc, ◌≤◌, ◌<◌, zero-le}
use native.Mathlib.Nat.{le_refl, mod-eq_of_lt, zero-lt-suc}
use native.Mathlib.Omega.{arith}
use lib.Dec.{lit≤}
use Rattle.pattern.specs.Lists.{Each, Distinct}
use Rattle.pattern.specs.Meaning.{Event, names, Fragment, fragment_names, ordering_names, MatchesOrdering, Kind, once, repeated, timed, Rule}
use Rattle.pattern.specs.Meaning.{TriggeredRound, last_time, InTime, Rising, WellFormedFragment, WellFormed}
use Rattle.pattern.specs.Model.{trigger_fragment, last_fragments, round_of}
use Rattle.pattern.proofs.Basics.{distinct-left, distinct-right}
use Rattle.pattern.proofs.Growing.{names-append}
use Rattle.pattern.proofs.Numbering.{round-names}
use Rattle.pattern.proofs.Fragment.{Checked}
use Rattle.pattern.proofs.Orderings.{fragments, last-any, last-append, rising-left, rising-last, ordering-some}
use Rattle.pattern.proofs.Rules.{trigger→, trigger←}
use Rattle.pattern.proofs.Tracks.{check, checked}
use Rattle.layout.specs.Layout.{Bytes}
use Rattle.layout.proofs.PageLaws.{round-formed}
use Rattle.rule_player.specs.declared.Filling.{Filling}
use Rattle.rule_player.specs.declared.Step.{Step}
use Rattle.rule_player.specs.declared.Step.TheVariants.{Name, Leave}
use Rattle.rule_player.specs.Choice.{empty, comes, range_of, may_come, needed, step_by, first_byte, other_bytes, Stand, start, said_by, leads_to, steps, chosen_from, chosen_in, chosen}
use Rattle.rule_player.specs.Rounds.{RoundBy, Round, events_at}
use Rattle.rule_player.proofs.Walk.{Small, step_is, next-fewer, chosen-step, chosen_none}
use Rattle.rule_player.proofs.Fills.{size, Good, good-comes, Allows, allows-name, allows-first, allows-end, needed-may, good-empty, allows-match}

-- ---- names, all at one time

pub names_at : (time : ℕ) (w : List ℕ) → names (events_at time w) ≡ w
names_at time [] = refl
names_at time (m ∷ w) = ap (λ (l : List ℕ). m ∷ l) (names_at time w)

-- ---- the fragments of a round are checked

checks : (fs : List Fragment) → Each WellFormedFragment fs → Distinct (ordering_names fs) → (cs : List Checked) × (fragments cs ≡ fs)
checks [] w d = ([], refl)
checks (f ∷ fs) w d =
    let (cs, e) = checks fs w.1 (distinct-right (fragment_names f) (ordering_names fs) d) in
    (check f w.0 (distinct-left (fragment_names f) (ordering_names fs) d) ∷ cs, ap (λ (l : List Fragment). f ∷ l) e)

round-checked : (r : Rule) → WellFormed r → (cs : List Checked) × (fragments cs ≡ round_of r)
round-checked r w = checks (round_of r) (round-formed r w) (rw (round-names r) w.distinct)

small : (cs : List Checked) → Small (fragments cs)
small [] = tt
small (c ∷ cs) = (c.count.1, small cs)

abbrev stand : List Checked → Filling → List ℕ → Stand
stand cs s bytes = record { fragments = fragments cs; filling = s; bytes = bytes }

-- ---- every choice

module _ (time : ℕ) where
  -- a word of the fragments that are left; and one from a filling of the first of them on
  abbrev Ordered : List Checked → List ℕ → Type 0
  Ordered cs w = MatchesOrdering (fragments cs) (events_at time w)

  abbrev Goes : Checked → List Checked → Filling → List ℕ → Type 0
  Goes c cs s w = (a : List ℕ) × (b : List ℕ) × (w ≡ a ++ b) × Allows c s a × Ordered cs b

  -- what is chosen in fewer than n steps
  abbrev GoesIn : ℕ → Type 0
  GoesIn n = (c : Checked) (cs : List Checked) (s : Filling) (bytes : List ℕ) → steps (stand (c ∷ cs) s bytes) < n → Good c s → Goes c cs s (chosen_from (stand (c ∷ cs) s bytes))

  from_empty : (n : ℕ) → GoesIn n → (cs : List Checked) (bytes : List ℕ) → steps (start (fragments cs) bytes) < n → Ordered cs (chosen_in (fragments cs) bytes)
  from_empty n goes [] bytes few = rw (chosen_none empty bytes) refl
  from_empty n goes (c ∷ cs) bytes few =
      let (a, b, e, h, rest) = goes c cs empty bytes few (good-empty c) in
      (events_at time a, events_at time b, ap (events_at time) e ∙ map-append _ a b, rw (names_at time a) ((allows-match c a).0 h), rest)

  goes : (n : ℕ) → GoesIn n
  goes zero c cs s bytes few good = absurd (omega arith)
  goes (suc n) c cs s bytes few good =
      let fewer = next-fewer c.fragment (fragments cs) s bytes (small (c ∷ cs)) good.eight in
      rw (chosen-step c.fragment (fragments cs) s bytes (small (c ∷ cs)) good.eight)
      (step_is c.fragment s (λ x. steps (there x) < n → Goes c cs s (said_by c.fragment x ++ chosen_from (there x))) (first_byte bytes)
      (λ end l. ([], chosen_in (fragments cs) (other_bytes bytes), refl, (allows-end c s good).1 end, from_empty n (goes n) cs (other_bytes bytes) l))
      (λ e l. let (h, may) = needed-may c s good e in named (needed c.fragment s) h may (goes n c cs (comes s (needed c.fragment s)) (other_bytes bytes) l))
      (λ i h b may l. named i h may (goes n c cs (comes s i) (other_bytes bytes) l))
      (omega arith))
    where
      there : Step → Stand
      there = leads_to c.fragment (fragments cs) s (other_bytes bytes)

      named : (i : ℕ) → i < size c → may_come c.fragment s i ≡ true → {w : List ℕ} → (Good c (comes s i) → Goes c cs (comes s i) w) → Goes c cs s ((range_of c.fragment i).name ∷ w)
      named i h may later =
          let name : ℕ = (range_of c.fragment i).name in
          let (a, b, e, allowed, rest) = later (good-comes c s good i h may) in
          (name ∷ a, b, ap (λ (l : List ℕ). name ∷ l) e, allows-name c s good a i h may allowed, rest)

-- ---- every round

-- bytes that pick a word, from a filling of the first fragment on
abbrev Picked : List Checked → Filling → List ℕ → Type 0
Picked cs s w = (bytes : List ℕ) × Bytes bytes × (chosen_from (stand cs s bytes) ≡ w)

-- a byte makes a step
by_byte : (c : Checked) (cs : List Checked) (s : Filling) → Good c s → (x : Step) (byte : ℕ) (bytes : List ℕ) → step_by c.fragment s byte ≡ x
    → chosen_from (stand (c ∷ cs) s (byte ∷ bytes)) ≡ said_by c.fragment x ++ chosen_from (leads_to c.fragment (fragments cs) s bytes x)
by_byte c cs s good x byte bytes e =
    chosen-step c.fragment (fragments cs) s (byte ∷ bytes) (small (c ∷ cs)) good.eight
    ∙ ap (λ (y : Step). said_by c.fragment y ++ chosen_from (leads_to c.fragment (fragments cs) s bytes y)) e

played : (c : Checked) (cs : List Checked) (a b : List ℕ) (s : Filling) → Good c s → Allows c s a → Picked cs empty b → Picked (c ∷ cs) s (a ++ b)
played c cs [] b s good allowed (bytes, are, picks) =
    (0 ∷ bytes, (lit≤ tt, are), by_byte c cs s good Leave 0 bytes (rw (mod-eq_of_lt (zero-lt-suc (size c)), (allows-end c s good).0 allowed) refl) ∙ picks)
played c cs (m ∷ a) b s good allowed picked =
    let (i, h, named, may, after) = allows-first c s good a m allowed in
    let (bytes, are, picks) = played c cs a b (comes s i) (good-comes c s good i h may) after picked in
    let own : suc i < suc (size c) = omega arith in
    (suc i ∷ bytes, (omega (arith, c.count.1), are), by_byte c cs s good (Name i) (suc i) bytes (rw (mod-eq_of_lt own, may) refl) ∙ (λ x. sym named x ∷ picks x))

picked : (cs : List Checked) (w : List Event) → MatchesOrdering (fragments cs) w → Picked cs empty (names w)
picked [] w e = ([], tt, chosen_none empty [] ∙ ap names (sym e))
picked (c ∷ cs) w (a, b, e, m, h) = rw (e, names-append a b) (played c cs (names a) (names b) empty (good-empty c) ((allows-match c (names a)).1 m) (picked cs b h))

-- ---- a round matches its fragments in order, and at one time what does is a round

ordering-join : (fs gs : List Fragment) (a b : List Event) → MatchesOrdering fs a → MatchesOrdering gs b → MatchesOrdering (fs ++ gs) (a ++ b)
ordering-join [] gs a b h g = rw h g
ordering-join (f ∷ fs) gs w b (a, a', e, m, h) g = (a, a' ++ b, ap (λ (l : List Event). l ++ b) e ∙ append_assoc a a' b, m, ordering-join fs gs a' b h g)

ordering-split : (fs gs : List Fragment) (w : List Event) → MatchesOrdering (fs ++ gs) w → (a : List Event) × (b : List Event) × (w ≡ a ++ b) × MatchesOrdering fs a × MatchesOrdering gs b
ordering-split [] gs w h = ([], w, refl, refl, h)
ordering-split (f ∷ fs) gs w (a, v, e, m, h) =
    let (a', b, e', h', g) = ordering-split fs gs v h in
    (a ++ a', b, e ∙ ap (λ (l : List Event). a ++ l) e' ∙ sym (append_assoc a a' b), (a, a', refl, m, h'), g)

module _ (r : Rule) (w : List Event) where
  triggered→ : (i : ℕ) → TriggeredRound r.p i w → MatchesOrdering (r.p ++ (trigger_fragment i ∷ [])) w
  triggered→ i o = rw o.parts (ordering-join r.p (trigger_fragment i ∷ []) o.first (o.trigger ∷ []) o.ordered (trigger→ i o.trigger o.named))

  triggered← : (i : ℕ) → MatchesOrdering (r.p ++ (trigger_fragment i ∷ [])) w → TriggeredRound r.p i w
  triggered← i h =
      let (a, b, e, p, q) = ordering-split r.p (trigger_fragment i ∷ []) w h in
      let (x, e', named) = trigger← i b q in
      record { first = a; trigger = x; parts = e ∙ ap (λ (l : List Event). a ++ l) e'; ordered = p; named = named }

  pub round→ : (k : Kind) → RoundBy r k w → MatchesOrdering (r.p ++ last_fragments k) w
  round→ (once i) o = triggered→ i o
  round→ (repeated i) o = triggered→ i o
  round→ (timed q t) o = rw o.parts (ordering-join r.p q o.first o.second o.ordered o.answered)

module _ (time : ℕ) where
  pub all-rising : (t : ℕ) (w : List ℕ) → t ≤ time → Rising t (events_at time w)
  all-rising t [] h = tt
  all-rising t (m ∷ w) h = (h, all-rising time w (le_refl time))

  all-last : (t : ℕ) (w : List ℕ) → t ≤ time → last_time t (events_at time w) ≤ time
  all-last t [] h = h
  all-last t (m ∷ w) h = all-last time w (le_refl time)

  -- the second of two parts ends no later than the first, if that is not empty
  in-time : (t : ℕ) (w : List ℕ) (a b : List Event) → events_at time w ≡ a ++ b → a ≢ [] → InTime t a b
  in-time t w a [] e d = zero-le
  in-time t w a (x ∷ b) e d =
      let first : time ≤ last_time 0 a = rw (last-any 0 time a d) (rising-last time a (rising-left time a (x ∷ b) (rw e at (all-rising time w (le_refl time))))) in
      let second : last_time x.time b ≤ time = rw (e, last-append 0 a (x ∷ b)) at (all-last 0 w zero-le) in
      omega arith

  module _ (r : Rule) (formed : WellFormed r) (w : List ℕ) where
    p-some : (a : List Event) → MatchesOrdering r.p a → a ≢ []
    p-some a h = let c = checked r.kind r.p formed in ordering-some c.rule.p c.rule.ps a (subst (λ (x : Rule). MatchesOrdering x.p a) (sym c.is) h)

    round← : (k : Kind) → MatchesOrdering (r.p ++ last_fragments k) (events_at time w) → RoundBy r k (events_at time w)
    round← (once i) h = triggered← r (events_at time w) i h
    round← (repeated i) h = triggered← r (events_at time w) i h
    round← (timed q t) h =
        let (a, b, e, p, g) = ordering-split r.p q (events_at time w) h in
        record { first = a; second = b; parts = e; ordered = p; answered = g; in_time = in-time t w a b e (p-some a p) }

-- ---- the claims

pub every-choice-matches : (r : Rule) → WellFormed r → (time : ℕ) (choice : List ℕ) → Round r (events_at time (chosen r choice))
every-choice-matches r w time choice =
    let (cs, e) = round-checked r w in
    let goes_on = from_empty time (suc (steps (start (fragments cs) choice))) (goes time _) cs choice (omega arith) in
    round← time r w (chosen r choice) r.kind (subst (λ (fs : List Fragment). MatchesOrdering fs (events_at time (chosen_in fs choice))) e goes_on)

pub every-round-is-chosen : (r : Rule) → WellFormed r → (time : ℕ) (names : List ℕ) → Round r (events_at time names) → (choice : List ℕ) × Bytes choice × (chosen r choice ≡ names)
every-round-is-chosen r w time names o =
    let (cs, e) = round-checked r w in
    let (choice, are, picks) = picked cs (events_at time names) (rw e (round→ r (events_at time names) r.kind o)) in
    (choice, are, ap (λ (fs : List Fragment). chosen_in fs choice) (sym e) ∙ picks ∙ names_at time names)
