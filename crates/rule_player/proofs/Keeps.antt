-- A monitor that is fed a round keeps the rule. Every observation of the round is taken; the rule's trace so far is continued by the rest of the round to a match, so it is never broken,
-- and at the end it is a match, so it is whole.
-- Assumes nothing.
use mathlib.Core.Path.{◌≡◌, refl, sym, ◌∙◌, ap}
use mathlib.Core.Logic.{inl, inr}
use mathlib.Core.Bool.{false}
use mathlib.Core.List.{List, [], ◌∷◌, ◌++◌, append_assoc, append-nil, map-append}
use Prim.Native.Nat.{ℕ, zero, suc, ◌≤◌, ◌<◌, zero-le}
use native.Mathlib.Nat.{le_refl}
use native.Mathlib.Omega.{arith}
use lib.Dec.{eqb}
use lib.ListN.{length, get_or, length-append, length-map}
use borrow.Author.Tests.{lt-leb, le-ltb}
use Rattle.names.specs.Names.{member}
use Rattle.pattern.specs.Lists.{In, Distinct, is_in}
use Rattle.pattern.specs.Meaning.{Event, names, Range, Fragment, MatchesOrdering, fragment_names, ordering_names, Kind, once, repeated, timed, Rule, names_of, On, MatchesKind, Matches}
use Rattle.pattern.specs.Meaning.{Status, broken, whole, open', Broken, Judged, WellFormed}
use Rattle.pattern.specs.Model.{round_of}
use Rattle.pattern.specs.Judge.{Observation, event, trace_of, latest, latest_from, NeverFalls, EachJudged, Oracle, Right, Verdict, all_whole, some_open, broken_at}
use Rattle.pattern.specs.Judge.{is_broken, is_open, mask, verdict_of, refusal, Kept, nothing, unless_refused, judge_keeps}
use Rattle.pattern.specs.Agreement.{WellFormedRules}
use Rattle.pattern.proofs.Basics.{is_true, by_cond, in_left, in_right, in-append, distinct-left, distinct-right, distinct-map, each_in, is_in←}
use Rattle.pattern.proofs.Block.{match→asked}
use Rattle.pattern.proofs.Growing.{names-append}
use Rattle.pattern.proofs.Numbering.{round-names}
use Rattle.masks.proofs.Statuses.{member-mask}
use Rattle.layout.specs.Pages.{no_rule, rule_at}
use Rattle.layout.proofs.PageLaws.{each_at}
use Rattle.layout.proofs.Length.{names-below}
use Rattle.rule_player.specs.Rounds.{RoundBy, Round, events_at, fed, Spares}
use Rattle.rule_player.proofs.Rounds.{names_at, all-rising, round→}

-- ---- a round is a match, on the rule's names

round-matches : (r : Rule) (k : Kind) (w : List Event) → RoundBy r k w → MatchesKind r k w
round-matches r (once i) w h = inr (record { round = w; after = []; parts = sym (append-nil w); triggered = h; on = tt })
round-matches r (repeated i) w h = (1, (w, [], sym (append-nil w), h, refl))
round-matches r (timed q t) w h = (1, (w, [], sym (append-nil w), h, refl))

ordering-on : (fs : List Fragment) → Distinct (ordering_names fs) → (w : List Event) → MatchesOrdering fs w → (m : ℕ) → In m (names w) → In m (ordering_names fs)
ordering-on [] d w e m i = rw e at i
ordering-on (f ∷ fs) d w (a, b, e, h, rest) m i = elim (in-append m (names a) (names b) (rw (e, names-append a b) at i)) [
  | inl k ↦
      let unique = distinct-map (λ (r : Range). r.name) f.ranges (distinct-left (fragment_names f) (ordering_names fs) d) in
      in_left m (fragment_names f) (ordering_names fs) ((match→asked f unique (names a) h).on m k)
  | inr k ↦ in_right m (fragment_names f) (ordering_names fs) (ordering-on fs (distinct-right (fragment_names f) (ordering_names fs) d) b rest m k)
]

-- ---- observations all at one time

module _ (time : ℕ) where
  fed-falls : (t : ℕ) (l : List ℕ) → t ≤ time → NeverFalls t (fed time l)
  fed-falls t [] h = tt
  fed-falls t (n ∷ l) h = (h, fed-falls time l (le_refl time))

  fed-latest : (t : ℕ) (l : List ℕ) → t ≤ time → latest_from t (fed time l) ≤ time
  fed-latest t [] h = h
  fed-latest t (n ∷ l) h = fed-latest time l (le_refl time)

  all-on : (r : Rule) (l : List ℕ) → ((m : ℕ) → In m l → In m (names_of r)) → On r (events_at time l)
  all-on r [] h = tt
  all-on r (n ∷ l) h = (h n (inl refl), all-on r l (λ m i. h m (inr i)))

  fed-trace : (r : Rule) (l : List ℕ) → ((m : ℕ) → In m l → In m (names_of r)) → trace_of r (fed time l) ≡ events_at time l
  fed-trace r [] h = refl
  fed-trace r (n ∷ l) h = rw (is_true (is_in n (names_of r)) (is_in← n (names_of r) (h n (inl refl))), fed-trace r l (λ m i. h m (inr i))) refl

-- ---- verdicts

-- rule i is not broken; where nothing is left to come, nor is it open
abbrev Keeps : ℕ → List ℕ → Verdict → Type 0
Keeps i rest all_whole = Unit {0}
Keeps i rest (some_open m) = rest ≡ [] → member m i ≡ false
Keeps i rest (broken_at k m) = member m i ≡ false

verdict-keeps : (k i : ℕ) (rest : List ℕ) (ss : List Status) → i < length ss → is_broken (get_or ss i whole) ≡ false → (rest ≡ [] → is_open (get_or ss i whole) ≡ false) → Keeps i rest (verdict_of k ss)
verdict-keeps k i rest ss h b o =
    by_cond (Keeps i rest) (eqb (mask is_broken ss) 0)
    (by_cond (Keeps i rest) (eqb (mask is_open ss) 0) tt (λ e. member-mask is_open ss i whole h ∙ o e))
    (member-mask is_broken ss i whole h ∙ b)

judged-at : (rs : List Rule) (os : List Observation) (ss : List Status) → EachJudged rs os ss → (i : ℕ) → i < length rs
    → (i < length ss) × Judged (rule_at rs i) (trace_of (rule_at rs i) os) (latest os) (get_or ss i whole)
judged-at [] os ss h i l = absurd (omega arith)
judged-at (r ∷ rs) os [] h i l = absurd h
judged-at (r ∷ rs) os (s ∷ ss) h zero l = (omega arith, h.0)
judged-at (r ∷ rs) os (s ∷ ss) h (suc i) l = let (l', j) = judged-at rs os ss h.1 i (omega arith) in (omega (arith, l'), j)

unbroken : (r : Rule) (trace : List Event) (now : ℕ) (s : Status) → Judged r trace now s → (Broken r trace now → ⊥) → (is_broken s ≡ false) × (Matches r trace → is_open s ≡ false)
unbroken r trace now broken j alive = absurd (alive j)
unbroken r trace now whole j alive = (refl, λ m. refl)
unbroken r trace now open' j alive = (refl, λ m. absurd (j.1 m))

-- ---- the judge, along the round

stopped : (oracle : Oracle) (k m : ℕ) (taken os : List Observation) → (judge_keeps oracle (record { taken = taken; verdict = broken_at k m }) os).verdict ≡ broken_at k m
stopped oracle k m taken [] = refl
stopped oracle k m taken (o ∷ os) = stopped oracle k m taken os

module _ (rules : List Rule) (well : WellFormedRules rules) (i : ℕ) (here : i < length rules) (time : ℕ) (names : List ℕ)
    (round : Round (rule_at rules i) (events_at time names)) (few : length names ≤ 4294967295) (oracle : Oracle) (right : Right rules oracle) where
  abbrev r : Rule
  r = rule_at rules i

  formed : WellFormed r
  formed = each_at WellFormed no_rule rules i well.each here

  inside : (n : ℕ) → In n names → In n (names_of r)
  inside n k = rw (round-names r) at (ordering-on (round_of r) (rw (round-names r) formed.distinct) (events_at time names) (round→ r (events_at time names) r.kind round) n (rw (names_at time names) k))

  module _ (seen rest : List ℕ) (parts : seen ++ rest ≡ names) where
    abbrev os : List Observation
    os = fed time seen

    match : Matches r (trace_of r os ++ events_at time rest)
    match = rw (fed-trace time r seen (λ m k. inside m (rw parts at (in_left m seen rest k))), ← map-append _ seen rest, parts) (round-matches r r.kind (events_at time names) round)

    alive : Broken r (trace_of r os) (latest os) → ⊥
    alive b =
        let on = all-on time r rest (λ m k. inside m (rw parts at (in_right m seen rest k))) in
        b (events_at time rest) (record { on = on; rising = all-rising time (latest os) rest (fed-latest time 0 seen zero-le) }) match

    kept : Keeps i rest (verdict_of (length os) (oracle os))
    kept =
        let (l, j) = judged-at rules os (oracle os) (right os (fed-falls time 0 seen zero-le)) i here in
        let (b, o) = unbroken r (trace_of r os) (latest os) (get_or (oracle os) i whole) j alive in
        verdict-keeps (length os) i rest (oracle os) l b (λ e. o (rw (e, append-nil) at match))

  abbrev kept_at : List ℕ → Kept
  kept_at seen = record { taken = fed time seen; verdict = verdict_of (length (fed time seen)) (oracle (fed time seen)) }

  -- from what the judge keeps, along the names that are left
  abbrev Along : List ℕ → Kept → Type 0
  Along rest k = Spares i (judge_keeps oracle k (fed time rest)).verdict

  -- the next observation is taken
  module _ (seen : List ℕ) (n : ℕ) (rest : List ℕ) (parts : seen ++ (n ∷ rest) ≡ names) (v : Verdict) where
    abbrev longer : List ℕ
    longer = seen ++ (n ∷ [])

    taken : (longer ++ rest ≡ names → Keeps i rest (kept_at longer).verdict → Along rest (kept_at longer))
        → Along rest (unless_refused oracle (record { taken = fed time seen; verdict = v }) (event n time) (refusal (latest (fed time seen)) (length (fed time seen)) (event n time))).kept
    taken later =
        let e : longer ++ rest ≡ names = append_assoc seen (n ∷ []) rest ∙ parts in
        let named : n < 64 = each_in (λ (m : ℕ). m < 64) (names_of r) (names-below r formed) n (inside n (rw parts at (in_right n seen (n ∷ rest) (inl refl)))) in
        let room : length (fed time seen) < 4294967295 = omega (arith, few, ap length parts, length-append seen (n ∷ rest), length-map seen (λ (m : ℕ). event m time)) in
        rw (lt-leb 64 n named, le-ltb time (latest (fed time seen)) (fed-latest time 0 seen zero-le), lt-leb 4294967295 (length (fed time seen)) room)
        (rw map-append at (later e (kept longer rest e)))

  along : (rest seen : List ℕ) (v : Verdict) → seen ++ rest ≡ names → Keeps i rest v → Along rest (record { taken = fed time seen; verdict = v })
  along [] seen all_whole e k = tt
  along [] seen (some_open m) e k = k refl
  along [] seen (broken_at n m) e k = k
  along (n ∷ rest) seen all_whole e s = taken seen n rest e all_whole (along rest (seen ++ (n ∷ [])) _)
  along (n ∷ rest) seen (some_open m) e s = taken seen n rest e (some_open m) (along rest (seen ++ (n ∷ [])) _)
  along (n ∷ rest) seen (broken_at k m) e s = rw (stopped oracle k m (fed time seen) (fed time rest)) s

-- by the judge, whichever
pub judge-spares : (rules : List Rule) → WellFormedRules rules → (r : ℕ) → r < length rules → (time : ℕ) (names : List ℕ) → Round (rule_at rules r) (events_at time names) → length names ≤ 4294967295
    → (oracle : Oracle) → Right rules oracle → Spares r (judge_keeps oracle nothing (fed time names)).verdict
judge-spares rules well r here time names round few oracle right = along rules well r here time names round few oracle right names [] all_whole refl tt
