-- Document 02, change 2: "until Q or the trigger comes, a finished P whose last event is on such a range can grow". Since it can, its deadline does not run: the clock alone never breaks the rule
-- (`endless-p-waits`). Whatever the time is, one more event of the range and then a Q, all of it now, make the round whole.
-- Assumes nothing.
use mathlib.Core.Path.{◌≡◌, refl, sym, ap}
use mathlib.Core.Logic.{inl, inr}
use mathlib.Core.List.{List, [], ◌∷◌, ◌++◌, append_assoc, append-nil}
use Prim.Native.Nat.{ℕ, zero, suc}
use native.Mathlib.Nat.{le_refl, le_trans}
use native.Mathlib.Omega.{arith}
use Rattle.pattern.specs.Lists.{In, Distinct, Each}
use Rattle.pattern.specs.Meaning.{Event, names, Range, Fragment, MatchesOrdering, fragment_names, ordering_names, timed, Rule, names_of, On, TimedRound, Rounds, Broken, WellFormedFragment, WellFormed}
use Rattle.pattern.specs.Endless.{all_at, EndsOn}
use Rattle.pattern.proofs.Basics.{in_left, in_right, in_map, each_in, distinct-left, distinct-right}
use Rattle.pattern.proofs.Fragment.{X, Checked}
use Rattle.pattern.proofs.Product.{takes-each, match←}
use Rattle.pattern.proofs.Alive.{laws}
use Rattle.pattern.proofs.Orderings.{last-append}
use Rattle.pattern.proofs.Numbering.{in-fragments, ordering-append}
use Rattle.pattern.proofs.Tracks.{check}
use Rattle.pattern.proofs.Growing.{endless-p-grows}
use Rattle.pattern.proofs.AtOnce.{once-rising, once_last, once-each, once-ordering}

-- rounds, and one more
rounds-snoc : (R : List Event → Type 0) (n : ℕ) (a b : List Event) → Rounds R n a → R b → Rounds R (suc n) (a ++ b)
rounds-snoc R zero a b e o = rw e (b, [], sym (append-nil b), o, refl)
rounds-snoc R (suc n) a b (u, v, e, o', h) o = (u, v ++ b, rw e (append_assoc u v b), o', rounds-snoc R n v b h o)

-- ---- every ordering has a match

abbrev events_of : List ℕ → List Event
events_of [] = []
events_of (m ∷ v) = record { name = m; time = 0 } ∷ events_of v

events-names : (v : List ℕ) → names (events_of v) ≡ v
events-names [] = refl
events-names (m ∷ v) = ap (λ (l : List ℕ). m ∷ l) (events-names v)

module _ (P : ℕ → Type 0) where
  -- each event's name has the property
  abbrev Named : List Event → Type 0
  Named = Each (λ (e : Event). P e.name)

  events-on : (v : List ℕ) (w : List Event) → ((m : ℕ) → In m v → P m) → Named w → Named (events_of v ++ w)
  events-on [] w h k = k
  events-on (m ∷ v) w h k = (h m (inl refl), events-on v w (λ n i. h n (inr i)) k)

  some-match : (q : List Fragment) → Each WellFormedFragment q → Distinct (ordering_names q) → ((m : ℕ) → In m (ordering_names q) → P m) → (w : List Event) × MatchesOrdering q w × Named w
  some-match [] well d h = ([], refl, tt)
  some-match (f ∷ fs) well d h =
      let c : Checked = check f well.0 (distinct-left (fragment_names f) (ordering_names fs) d) in
      let (m, v, t) = laws.some c in
      let (w, ms, k) = some-match fs well.1 (distinct-right (fragment_names f) (ordering_names fs) d) (λ n i. h n (in_right n (fragment_names f) (ordering_names fs) i)) in
      let on = ((takes-each c (m ∷ v) (X.start c)).0 t).on in
      let first = events-on (m ∷ v) w (λ n i. h n (in_left n (fragment_names f) (ordering_names fs) (on n i))) k in
      (events_of (m ∷ v) ++ w, (events_of (m ∷ v), w, refl, rw (events-names v) (match← c (m ∷ v) t), ms), first)

-- ---- one more event and a Q, now

-- P is the fragments fs and then f; P then Q within t
module _ (fs : List Fragment) (f : Fragment) (q : List Fragment) (t : ℕ) where
  abbrev P : List Fragment
  P = fs ++ (f ∷ [])

  abbrev rule : Rule
  rule = record { kind = timed q t; p = fs ++ (f ∷ []) }

  module _ (well : WellFormed rule) (x : Range) (i : In x f.ranges) (endless : x.v ≡ 0) where
    last : In f P
    last = in_right f fs (f ∷ []) (inl refl)

    once : Distinct (fragment_names f)
    once =
        let d : Distinct (ordering_names fs ++ (fragment_names f ++ [])) = rw (ordering-append fs (f ∷ [])) at (distinct-left (ordering_names P) (ordering_names q) well.distinct) in
        distinct-left (fragment_names f) [] (distinct-right (ordering_names fs) (fragment_names f ++ []) d)

    answer : (v : List Event) × MatchesOrdering q v × On rule v
    answer =
        let d = distinct-right (ordering_names P) (ordering_names q) well.distinct in
        some-match (λ (k : ℕ). In k (names_of rule)) q well.kind.0.fragments d (λ k. in_right k (ordering_names P) (ordering_names q))

    waits : (n : ℕ) (rounds w : List Event) → Rounds (TimedRound P q t) n rounds → MatchesOrdering P w → EndsOn x.name w → (now : ℕ) → ¬ Broken rule (rounds ++ w) now
    waits n rounds w h m ends now broken =
        let (v, a, on) = answer in
        let e : Event = record { name = x.name; time = now } in
        let of-p : In x.name (ordering_names P) = in-fragments P f x.name last (in_map (λ (r : Range). r.name) f.ranges x i) in
        let on-e : On rule (e ∷ all_at now v) = (in_left x.name (ordering_names P) (ordering_names q) of-p, once-each now (λ (k : ℕ). In k (names_of rule)) v on) in
        let round : TimedRound P q t ((w ++ (e ∷ [])) ++ all_at now v) = record {
          first = w ++ (e ∷ []);
          second = all_at now v;
          parts = refl;
          ordered = endless-p-grows fs f (each_in WellFormedFragment P well.p.fragments f last) once x i endless w m ends (e ∷ []) (refl, tt);
          answered = once-ordering now q v a;
          in_time = rw (last-append 0 w (e ∷ [])) (le_trans (once_last now 0 v (omega arith)) (omega arith));
        } in
        broken (e ∷ all_at now v) (record { on = on-e; rising = (le_refl now, once-rising now v) })
        (suc n, rw (append_assoc rounds w (e ∷ all_at now v), ← append_assoc w (e ∷ []) (all_at now v)) (rounds-snoc (TimedRound P q t) n rounds ((w ++ (e ∷ [])) ++ all_at now v) h round))

-- the trace is whole rounds and then a P whose last event is on the range
pub endless-p-waits : (fs : List Fragment) (f : Fragment) (q : List Fragment) (t : ℕ) → WellFormed (record { kind = timed q t; p = fs ++ (f ∷ []) }) → (x : Range) → In x f.ranges → x.v ≡ 0
    → (n : ℕ) (rounds w : List Event) → Rounds (TimedRound (fs ++ (f ∷ [])) q t) n rounds → MatchesOrdering (fs ++ (f ∷ [])) w → EndsOn x.name w
    → (now : ℕ) → ¬ Broken (record { kind = timed q t; p = fs ++ (f ∷ []) }) (rounds ++ w) now
endless-p-waits = waits
