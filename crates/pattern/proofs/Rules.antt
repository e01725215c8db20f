-- A rule as a plan of stages: its matches are what may come from the start of the plan, and the plan's stages have no name in common.
-- Assumes nothing.
use mathlib.Core.Path.{◌≡◌, refl, sym, ◌∙◌, ap, subst}
use mathlib.Core.Logic.{◌⊎◌, inl, inr, ◌≢◌}
use mathlib.Core.Bool.{Bool, true, false, cond, not}
use mathlib.Core.List.{List, [], ◌∷◌, ◌++◌, nil≢cons, append_assoc, append-nil}
use Prim.Native.Nat.{ℕ, ◌+◌, ◌≤◌}
use native.Mathlib.Nat.{le_trans, le_refl}
use native.Mathlib.Omega.{arith}
use lib.Dec.{T, eqb, eqb→eq, eqb_refl, leb→le, le→leb, lit≤}
use Rattle.pattern.specs.Lists.{In, Distinct, is_in}
use Rattle.pattern.specs.Meaning.{AtMost, Event, names, Range, fragment_names, ordering_names, MatchesOrdering, Kind, once, repeated, timed}
use Rattle.pattern.specs.Meaning.{Rule, names_of, On, TriggeredRound, TimedRound, last_time, InTime, Released, MatchesKind, Matches, Rising}
use Rattle.pattern.specs.Model.{trigger_fragment, in_time}
use Rattle.pattern.proofs.Basics.{is_true, either, in_left, in_right, distinct-left, distinct-right, distinct_apart, is_in→, is_in←}
use Rattle.pattern.proofs.Rounds.{Takes, Stage, Plan, Ending, again, release, fresh, repeat→, repeat←, OnNames, Triggered, After, To, BeginsLast, Apart, follows, Chain, round}
use Rattle.pattern.proofs.Fragment.{X, Checked}
use Rattle.pattern.proofs.Product.{match→}
use Rattle.pattern.proofs.Alive.{laws}
use Rattle.pattern.proofs.Orderings.{stages, fragments, rising-last, rising-right, AllTimely, seq→, seq←, timely-p, Round, rounds→, rounds←}

-- ---- rules whose fragments are checked

-- the trigger's fragment, one range [1,1]
abbrev pub trigger : ℕ → Checked
trigger i = record {
  fragment = trigger_fragment i;
  fine = record { distinct = (λ x. x, tt); some = λ r x. subst (λ (y : Range). 1 ≤ y.u) (sym (only r x)) (le_refl 1); order = λ r x. subst (λ (y : Range). AtMost y y.u) (sym (only r x)) (inr (le_refl 1)) };
  count = (lit≤ tt, lit≤ tt);
}
  where
    only : (r : Range) → In r (trigger_fragment i).ranges → r ≡ record { name = i; u = 1; v = 1 }
    only r (inl e) = e
    only r (inr x) = absurd x

pub data CheckedKind : Type 0 where
  once' repeated' : (i : ℕ) → CheckedKind
  timed' : (q : Checked) (qs : List Checked) (t : ℕ) → CheckedKind

pub record CheckedRule : Type 0 where
  pub p : Checked
  pub ps : List Checked
  pub kind : CheckedKind

abbrev pub kind_of : CheckedKind → Kind
kind_of (once' i) = once i
kind_of (repeated' i) = repeated i
kind_of (timed' q qs t) = timed (fragments (q ∷ qs)) t

abbrev pub rule_of : CheckedRule → Rule
rule_of c = record { kind = kind_of c.kind; p = fragments (c.p ∷ c.ps) }

-- the stages after P; kind 0 has none, for its trigger releases the rule
abbrev pub answering : CheckedKind → List Checked
answering (once' i) = []
answering (repeated' i) = trigger i ∷ []
answering (timed' q qs t) = q ∷ qs

abbrev pub ending_of : CheckedKind → Ending
ending_of (once' i) = release i
ending_of (repeated' i) = again
ending_of (timed' q qs t) = again

abbrev pub plan_of : CheckedRule → Plan X
plan_of c = record {
  first = record { frag = c.p; after_p = false };
  others = stages false c.ps ++ (stages true (answering c.kind) ++ []);
  on = λ n. is_in n (names_of (rule_of c));
  in_time = in_time (kind_of c.kind);
}

-- ---- the trigger's fragment matches one event on its name

pub trigger→ : (i : ℕ) (e : Event) → e.name ≡ i → MatchesOrdering (fragments (trigger i ∷ [])) (e ∷ [])
trigger→ i e q = (
  e ∷ [],
  [],
  refl,
  record { choice = (trigger_fragment i).ranges; once = (λ x. x, tt); within = λ r x. x; chosen = λ r x. x; blocks = (e.name ∷ [], [], refl, (1, lit≤ tt, inr (lit≤ tt), ap (λ (n : ℕ). n ∷ []) q), refl) },
  refl,
)

pub trigger← : (i : ℕ) (w : List Event) → MatchesOrdering (fragments (trigger i ∷ [])) w → (e : Event) × (w ≡ e ∷ []) × (e.name ≡ i)
trigger← i w (a, b, e, m, z) = look a (e ∙ ap (λ (l : List Event). a ++ l) z ∙ append-nil a) (match→ (trigger i) (names a) m)
  where
    named : (m : ℕ) → T (X.has (trigger i) m) → m ≡ i
    named m t = pick (either (eqb m i) false t)
      where
        pick : T (eqb m i) ⊎ ⊥ → m ≡ i
        pick (inl h) = eqb→eq m i h
        pick (inr h) = absurd h

    two : (x y : ℕ) (v : List ℕ) → x ≡ i → y ≡ i → Takes X (trigger i) (X.step (trigger i) (X.step (trigger i) (X.start (trigger i)) x) y) v → ⊥
    two x y v p q t = laws.bad (trigger i) (X.step (trigger i) (X.step (trigger i) (X.start (trigger i)) x) y) v (rw (p, q) (again-bad i)) t
      where
        again-bad : (n : ℕ) → T (not (X.good (trigger n) (X.step (trigger n) (X.step (trigger n) (X.start (trigger n)) n) n)))
        again-bad n = let h : eqb n n ≡ true = is_true (eqb n n) (eqb_refl n) in rw h tt

    look : (v : List Event) → w ≡ v → Takes X (trigger i) (X.start (trigger i)) (names v) → (x : Event) × (w ≡ x ∷ []) × (x.name ≡ i)
    look [] q t = absurd (laws.unbegun (trigger i) t)
    look (x ∷ []) q t = (x, q, named x.name t.0)
    look (x ∷ y ∷ v) q t = absurd (two x.name y.name (names v) (named x.name t.0) (named y.name t.1.0) t.1.1)

-- ---- the rounds of kinds 1 and 2

module _ (p : Checked) (ps : List Checked) (i : ℕ) where
  abbrev π₁ : Plan X
  π₁ = plan_of (record { p = p; ps = ps; kind = repeated' i })

  cut₁ : (w : List Event) → TriggeredRound (fragments (p ∷ ps)) i w → Round π₁ (p ∷ ps) (trigger i ∷ []) w
  cut₁ w o = record { first = o.first; second = o.trigger ∷ []; parts = o.parts; ordered = o.ordered; answered = trigger→ i o.trigger o.named; timely = (tt, tt) }

  glue₁ : (w : List Event) → Round π₁ (p ∷ ps) (trigger i ∷ []) w → TriggeredRound (fragments (p ∷ ps)) i w
  glue₁ w o = let (e, q, n) = trigger← i o.second o.answered in record { first = o.first; trigger = e; parts = o.parts ∙ ap (λ (l : List Event). o.first ++ l) q; ordered = o.ordered; named = n }

module _ (p : Checked) (ps : List Checked) (q : Checked) (qs : List Checked) (t : ℕ) where
  abbrev π₂ : Plan X
  π₂ = plan_of (record { p = p; ps = ps; kind = timed' q qs t })

  -- the last event is in time exactly when every event is, since times never fall
  all_in : (end s : ℕ) (w : List Event) → Rising s w → last_time s w ≤ end + t → AllTimely π₂ true end w
  all_in end s [] r h = tt
  all_in end s (e ∷ w) r h = (le→leb e.time (end + t) (le_trans (rising-last e.time w r.1) h), all_in end e.time w r.1 h)

  last-in : (end s : ℕ) (w : List Event) → AllTimely π₂ true end w → s ≤ end + t → last_time s w ≤ end + t
  last-in end s [] i h = h
  last-in end s (e ∷ w) i h = last-in end e.time w i.1 (leb→le e.time (end + t) i.0)

  in-time→ : (s : ℕ) (v w : List Event) → Rising s w → InTime t v w → AllTimely π₂ true (last_time 0 v) w
  in-time→ s v [] r h = tt
  in-time→ s v (e ∷ w) r h = all_in (last_time 0 v) s (e ∷ w) r h

  cut₂ : (s : ℕ) (w : List Event) → Rising s w → TimedRound (fragments (p ∷ ps)) (fragments (q ∷ qs)) t w → Round π₂ (p ∷ ps) (q ∷ qs) w
  cut₂ s w r o =
      let later : Rising (last_time s o.first) o.second = rising-right s o.first o.second (subst (λ (l : List Event). Rising s l) o.parts r) in
      record { first = o.first; second = o.second; parts = o.parts; ordered = o.ordered; answered = o.answered; timely = in-time→ (last_time s o.first) o.first o.second later o.in_time }

  glue₂ : (w : List Event) → Round π₂ (p ∷ ps) (q ∷ qs) w → TimedRound (fragments (p ∷ ps)) (fragments (q ∷ qs)) t w
  glue₂ w o = record { first = o.first; second = o.second; parts = o.parts; ordered = o.ordered; answered = o.answered; in_time = last-in (last_time 0 o.first) 0 o.second o.timely (omega arith) }

-- ---- a match, and what may come from the start

module _ (c : CheckedRule) where
  pub on→ : (w : List Event) → On (rule_of c) w → OnNames X laws (plan_of c) w
  on→ [] h = tt
  on→ (e ∷ w) h = (is_in← e.name (names_of (rule_of c)) h.0, on→ w h.1)

  pub on← : (w : List Event) → OnNames X laws (plan_of c) w → On (rule_of c) w
  on← [] h = tt
  on← (e ∷ w) h = (is_in→ e.name (names_of (rule_of c)) h.0, on← w h.1)

module _ (p : Checked) (ps : List Checked) where
  abbrev rule : CheckedKind → CheckedRule
  rule k = record { p = p; ps = ps; kind = k }

  abbrev π : CheckedKind → Plan X
  π k = plan_of (rule k)

  abbrev FromStart : CheckedKind → List Event → Type 0
  FromStart k w = To X laws (π k) (ending_of k) fresh w

  match→start : (k : CheckedKind) (w : List Event) → Rising 0 w → MatchesKind (rule_of (rule k)) (kind_of k) w → FromStart k w
  match→start (once' i) w r (inl e) = inl e
  match→start (once' i) w r (inr m) =
      let o = m.triggered in
      let e : w ≡ o.first ++ (o.trigger ∷ m.after) = m.parts ∙ ap (λ (l : List Event). l ++ m.after) o.parts ∙ append_assoc o.first (o.trigger ∷ []) m.after in
      let t : Triggered X laws (π (once' i)) i (o.trigger ∷ m.after) = (subst (λ (n : ℕ). T (eqb n i)) (sym o.named) (eqb_refl i), on→ (rule (once' i)) m.after m.on) in
      inr (rw e (seq→ (π (once' i)) false (p ∷ ps) [] (After X laws (π (once' i)) (release i)) 0 o.first (o.trigger ∷ m.after) o.ordered (timely-p (π (once' i)) 0 o.first) t))
  match→start (repeated' i) w r (n, m) = repeat→ X laws (π (repeated' i)) 0 w (n, rounds→ (π (repeated' i)) p ps (trigger i ∷ []) refl (TriggeredRound (fragments (p ∷ ps)) i) (λ s v r' o. cut₁ p ps i v o) n 0 0 w r m)
  match→start (timed' q qs t) w r (n, m) =
      repeat→ X laws (π (timed' q qs t)) 0 w (n, rounds→ (π (timed' q qs t)) p ps (q ∷ qs) refl (TimedRound (fragments (p ∷ ps)) (fragments (q ∷ qs)) t) (cut₂ p ps q qs t) n 0 0 w r m)

  start→match : (k : CheckedKind) (w : List Event) → FromStart k w → MatchesKind (rule_of (rule k)) (kind_of k) w
  start→match (once' i) w (inl e) = inl e
  start→match (once' i) w (inr h) =
      let k = seq← (π (once' i)) false (p ∷ ps) [] (After X laws (π (once' i)) (release i)) 0 w h in
      inr (look k.front k.back k.parts k.holds k.rest)
    where
      look : (a b : List Event) → w ≡ a ++ b → MatchesOrdering (fragments (p ∷ ps)) a → Triggered X laws (π (once' i)) i b → Released (rule_of (rule (once' i))) i w
      look a [] e m t = absurd t
      look a (x ∷ b) e m (n, o) = record {
        round = a ++ (x ∷ []);
        after = b;
        parts = e ∙ sym (append_assoc a (x ∷ []) b);
        triggered = record { first = a; trigger = x; parts = refl; ordered = m; named = eqb→eq x.name i n };
        on = on← (rule (once' i)) b o;
      }
  start→match (repeated' i) w h = let (n, m) = repeat← X laws (π (repeated' i)) 0 w h in (n, rounds← (π (repeated' i)) p ps (trigger i ∷ []) refl (TriggeredRound (fragments (p ∷ ps)) i) (glue₁ p ps i) n 0 w m)
  start→match (timed' q qs t) w h =
      let (n, m) = repeat← X laws (π (timed' q qs t)) 0 w h in
      (n, rounds← (π (timed' q qs t)) p ps (q ∷ qs) refl (TimedRound (fragments (p ∷ ps)) (fragments (q ∷ qs)) t) (glue₂ p ps q qs t) n 0 w m)

pub matches→ : (c : CheckedRule) (w : List Event) → Rising 0 w → Matches (rule_of c) w → To X laws (plan_of c) (ending_of c.kind) fresh w
matches→ c = match→start c.p c.ps c.kind

pub matches← : (c : CheckedRule) (w : List Event) → To X laws (plan_of c) (ending_of c.kind) fresh w → Matches (rule_of c) w
matches← c = start→match c.p c.ps c.kind

-- ---- the stages of a plan have no name in common

abbrev names_in : Stage X → List ℕ
names_in g = fragment_names g.frag.fragment

abbrev stage_names : List (Stage X) → List ℕ
stage_names [] = []
stage_names (g ∷ gs) = names_in g ++ stage_names gs

stage-names : (a : Bool) (fs : List Checked) (gs : List (Stage X)) → stage_names (stages a fs ++ gs) ≡ ordering_names (fragments fs) ++ stage_names gs
stage-names a [] gs = refl
stage-names a (f ∷ fs) gs = ap (λ (l : List ℕ). fragment_names f.fragment ++ l) (stage-names a fs gs) ∙ sym (append_assoc (fragment_names f.fragment) (ordering_names (fragments fs)) (stage_names gs))

-- P's stages come first
abbrev Ordered : List (Stage X) → Type 0
Ordered [] = Unit {0}
Ordered (g ∷ []) = Unit {0}
Ordered (g ∷ h ∷ gs) = T (cond g.after_p h.after_p true) × Ordered (h ∷ gs)

ordered-q : (qs : List Checked) → Ordered (stages true qs ++ [])
ordered-q [] = tt
ordered-q (q ∷ []) = tt
ordered-q (q ∷ q' ∷ qs) = (tt, ordered-q (q' ∷ qs))

ordered : (ps : List Checked) (gs : List (Stage X)) → Ordered gs → Ordered (stages false ps ++ gs)
ordered [] gs h = h
ordered (p ∷ []) [] h = tt
ordered (p ∷ []) (g ∷ gs) h = (tt, h)
ordered (p ∷ p' ∷ ps) gs h = (tt, ordered (p' ∷ ps) gs h)

module _ (π : Plan X) where
  -- each stage but the last is apart from the one after it
  apart : (l : Ending) (g : Stage X) (gs : List (Stage X)) → Distinct (stage_names (g ∷ gs)) → (gs ≡ [] → (m : ℕ) → In m (names_in g) → BeginsLast X laws π l m → ⊥) → Apart X laws π l g gs
  apart l g [] d z m h b = z refl m (is_in→ m (names_in g) h) b
  apart l g (g' ∷ gs) d z m h b = distinct_apart m (names_in g) (names_in g' ++ stage_names gs) d (is_in→ m (names_in g) h) (in_left m (names_in g') (stage_names gs) (is_in→ m (names_in g') b))

  follows_on : (g : Stage X) (gs : List (Stage X)) → Ordered (g ∷ gs) → T (follows X laws π g.after_p gs)
  follows_on g [] o = tt
  follows_on g (h ∷ gs) o = look g.after_p o.0
    where
      look : (a : Bool) → T (cond a h.after_p true) → T (follows X laws π a (h ∷ gs))
      look true t = t
      look false t = tt

  later : (g : Stage X) (gs : List (Stage X)) → Ordered (g ∷ gs) → Ordered gs
  later g [] o = tt
  later g (h ∷ gs) o = o.1

  chain : (l : Ending) (gs : List (Stage X)) → Distinct (stage_names gs) → Ordered gs → ((m : ℕ) → In m (stage_names gs) → T (π.on m)) → ((m : ℕ) → In m (stage_names gs) → BeginsLast X laws π l m → ⊥)
      → Chain X laws π l [] → Chain X laws π l gs
  chain l [] d o c z k = k
  chain l (g ∷ gs) d o c z k = (
    apart l g gs d (λ e m i. z m (in_left m (names_in g) (stage_names gs) i)),
    follows_on g gs o,
    (λ m h. c m (in_left m (names_in g) (stage_names gs) (is_in→ m (names_in g) h))),
    chain l gs (distinct-right (names_in g) (stage_names gs) d) (later g gs o) (λ m i. c m (in_right m (names_in g) (stage_names gs) i)) (λ m i. z m (in_right m (names_in g) (stage_names gs) i)) k,
  )

  -- a round that is followed by itself, of two stages or more
  chain-again : π.others ≢ [] → Distinct (stage_names (round X laws π)) → Ordered (round X laws π) → ((m : ℕ) → In m (stage_names (round X laws π)) → T (π.on m)) → Chain X laws π again (round X laws π)
  chain-again n d o c =
      let g = π.first in
      let gs = π.others in (
        apart again g gs d (λ e. absurd (n e)),
        follows_on g gs o,
        (λ m h. c m (in_left m (names_in g) (stage_names gs) (is_in→ m (names_in g) h))),
        chain again gs (distinct-right (names_in g) (stage_names gs) d) (later g gs o)
            (λ m i. c m (in_right m (names_in g) (stage_names gs) i)) (λ m i b. distinct_apart m (names_in g) (stage_names gs) d (is_in→ m (names_in g) b) i) tt,
      )

some-stage : (fs : List Checked) (q : Checked) (qs : List Checked) → stages false fs ++ (stages true (q ∷ qs) ++ []) ≢ []
some-stage [] q qs = λ e. nil≢cons (sym e)
some-stage (f ∷ fs) q qs = λ e. nil≢cons (sym e)

plan-names : (p : Checked) (ps : List Checked) (k : CheckedKind) → stage_names (stages false (p ∷ ps) ++ (stages true (answering k) ++ [])) ≡ ordering_names (fragments (p ∷ ps)) ++ ordering_names (fragments (answering k))
plan-names p ps k =
    stage-names false (p ∷ ps) (stages true (answering k) ++ [])
    ∙ ap (λ (l : List ℕ). ordering_names (fragments (p ∷ ps)) ++ l) (stage-names true (answering k) [] ∙ append-nil (ordering_names (fragments (answering k))))

module _ (p : Checked) (ps : List Checked) where
  abbrev with : CheckedKind → CheckedRule
  with k = record { p = p; ps = ps; kind = k }

  abbrev names-p : List ℕ
  names-p = ordering_names (fragments (p ∷ ps))

  abbrev plan_stages : CheckedKind → List (Stage X)
  plan_stages k = stages false (p ∷ ps) ++ (stages true (answering k) ++ [])

  chain-timed : (k : CheckedKind) (q : Checked) (qs : List Checked) → answering k ≡ q ∷ qs → names-p ++ ordering_names (fragments (answering k)) ≡ names_of (rule_of (with k)) → Distinct (names_of (rule_of (with k)))
      → Chain X laws (plan_of (with k)) again (plan_stages k)
  chain-timed k q qs e e' d =
      let n : stage_names (plan_stages k) ≡ names_of (rule_of (with k)) = plan-names p ps k ∙ e' in
      let some : stages false ps ++ (stages true (answering k) ++ []) ≢ [] = subst (λ (l : List Checked). stages false ps ++ (stages true l ++ []) ≢ []) (sym e) (some-stage ps q qs) in
      let once : Distinct (stage_names (plan_stages k)) = subst (λ (l : List ℕ). Distinct l) (sym n) d in
      chain-again (plan_of (with k)) some once (ordered (p ∷ ps) (stages true (answering k) ++ []) (ordered-q (answering k))) (λ m i. is_in← m (names_of (rule_of (with k))) (subst (λ (l : List ℕ). In m l) n i))

  chains : (k : CheckedKind) → Distinct (names_of (rule_of (with k))) → Chain X laws (plan_of (with k)) (ending_of k) (plan_stages k)
  chains (once' i) d =
      let c : CheckedRule = with (once' i) in
      let n : stage_names (stages false (p ∷ ps) ++ []) ≡ names-p = plan-names p ps (once' i) ∙ append-nil names-p in
      let once : Distinct (stage_names (stages false (p ∷ ps) ++ [])) = subst (λ (l : List ℕ). Distinct l) (sym n) (distinct-left names-p (i ∷ []) d) in
      let of-p : (m : ℕ) → In m (stage_names (stages false (p ∷ ps) ++ [])) → In m names-p = λ m x. subst (λ (l : List ℕ). In m l) n x in
      chain (plan_of c) (release i) (stages false (p ∷ ps) ++ []) once (ordered (p ∷ ps) [] tt)
      (λ m x. is_in← m (names_of (rule_of c)) (in_left m names-p (i ∷ []) (of-p m x)))
      (λ m x b. distinct_apart m names-p (i ∷ []) d (of-p m x) (inl (eqb→eq m i b)))
      (is_in← i (names_of (rule_of c)) (in_right i names-p (i ∷ []) (inl refl)))
  chains (repeated' i) d = chain-timed (repeated' i) (trigger i) [] refl refl d
  chains (timed' q qs t) d = chain-timed (timed' q qs t) q qs refl refl d

pub chained : (c : CheckedRule) → Distinct (names_of (rule_of c)) → Chain X laws (plan_of c) (ending_of c.kind) (round X laws (plan_of c))
chained c d = chains c.p c.ps c.kind d
