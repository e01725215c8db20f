-- Document 02, change 2: a range without an upper end that is under way takes one more, deadlines aside (`endless-takes-one-more`). Along a trace the rule's place is followed together with
-- the word that its stage has taken; after events of the range's fragment that word ends in theirs. Some word completes the fragment from there, and completes it after one more event of the
-- range too (`inserted`), so that this event is no error.
-- Assumes nothing.
use mathlib.Core.Path.{◌≡◌, refl, sym, subst}
use mathlib.Core.Logic.Iff
use mathlib.Core.Logic.{inl, inr, ◌↔◌}
use mathlib.Core.Bool.{Bool, true, false, not, ◌&&◌, and-false}
use mathlib.Core.List.{List, [], ◌∷◌, ◌++◌, append_assoc, append-nil}
use Prim.Native.Nat.{ℕ, ◌+◌}
use native.Mathlib.Nat.{le_refl}
use lib.Dec.{T, eqb, leb-zero, not_T}
use Rattle.pattern.specs.Lists.{In, Distinct, Each, is_in}
use Rattle.pattern.specs.Meaning.{Event, names, Range, Fragment, fragment_names, Kind, once, repeated, timed, Rule, names_of, Broken, WellFormed}
use Rattle.pattern.specs.Model.{round_of, fragment_at, in_time}
use Rattle.pattern.specs.Endless.{at_once, UnderWay}
use Rattle.pattern.proofs.Basics.{by_cond, by-test, both_l, test, is_true, in_left, in_map, is_in→, is_in←}
use Rattle.pattern.proofs.Rounds.{Takes, Stage, Ending, again, release, Place, fresh, free, dead, at, timely, end_of, begin, enter, inside, go, Fits, run, run-append, run_fits}
use Rattle.pattern.proofs.Fragment.{X, Held, Checked}
use Rattle.pattern.proofs.Product.{match→, match←}
use Rattle.pattern.proofs.Alive.{laws}
use Rattle.pattern.proofs.Deadline.{pressed, is_broken}
use Rattle.pattern.proofs.Rules.{CheckedRule, rule_of, plan_of, ending_of, chained}
use Rattle.pattern.proofs.Standing.{place_after, is-broken, not-broken}
use Rattle.pattern.proofs.Numbering.{plain, extra, stages_of, round-plain, in-fragments, same-fragment, round-names, numbered}
use Rattle.pattern.proofs.Tracks.{checked}
use Rattle.pattern.proofs.Growing.{Going, going-after, inserted, ends-names}
use Rattle.pattern.proofs.AtOnce.{once-append, once_last, once-rising, once-broken, once-under-way}

-- ---- the fragment

-- the state s is the one after the word a: from there the fragment takes what it takes after a
abbrev Residual : Checked → List ℕ → Held → Type 0
Residual f a s = (v : List ℕ) → Takes X f s v ↔ Takes X f (X.start f) (a ++ v)

residual-step : (f : Checked) (a : List ℕ) (s : Held) (m : ℕ) → T (X.has f m) → Residual f a s → Residual f (a ++ (m ∷ [])) (X.step f s m)
residual-step f a s m t h v = rw (append_assoc a (m ∷ []) v) (λ k. (h (m ∷ v)).0 (t, k), λ k. ((h (m ∷ v)).1 k).1)

module _ (f : Checked) (x : Range) (i : In x f.fragment.ranges) (endless : x.v ≡ 0) where
  endless-fine : (a : List ℕ) (s : Held) → Going f.fragment x a → Residual f a s → laws.Sane f s → X.good f (X.step f s x.name) ≡ true
  endless-fine a s going h sane =
      let (v, t) = laws.live f s sane in
      let m = inserted f.fragment f.fine.distinct f.fine.some x i endless a v going (match← f (a ++ v) ((h v).0 t)) in
      let k = (h (x.name ∷ v)).1 (match→ f (a ++ (x.name ∷ v)) m) in
      elim (test (X.good f (X.step f s x.name))) [ inl g ↦ is_true (X.good f (X.step f s x.name)) g | inr b ↦ absurd (laws.bad f (X.step f s x.name) v b k.1) ]

-- ---- the places that a rule comes to

-- at the time 0 nothing is late
in-time : (k : Kind) (end : ℕ) → in_time k end 0 ≡ true
in-time (once i) end = refl
in-time (repeated i) end = refl
in-time (timed q t) end = leb-zero (end + t)

module _ (c : CheckedRule) (d : Distinct (names_of (rule_of c))) (n : ℕ) (x : Range) (i : In x (fragment_at (rule_of c) n).ranges) (endless : x.v ≡ 0) where
  abbrev r : Rule
  r = rule_of c

  abbrev f : Fragment
  f = fragment_at (rule_of c) n

  abbrev OfF : ℕ → Type 0
  OfF m = In m (fragment_names (fragment_at (rule_of c) n))

  abbrev after : Place X → Event → Place X
  after = go X laws (plan_of c) (ending_of c.kind)

  abbrev along : Place X → List Event → Place X
  along = run X laws (plan_of c) (ending_of c.kind)

  abbrev Fitting : Place X → Type 0
  Fitting = Fits X laws (plan_of c) (ending_of c.kind)

  -- at the time 0
  abbrev Unbroken : Place X → Type 0
  Unbroken p = T (not (is_broken X laws (plan_of c) p 0))

  abbrev timely_for : Stage X → ℕ → Event → Bool
  timely_for g end e = timely X laws (plan_of c) g.after_p end e.time

  timely-now : (a : Bool) (end : ℕ) → timely X laws (plan_of c) a end 0 ≡ true
  timely-now false end = refl
  timely-now true end = in-time r.kind end

  -- a stage that has a name of the range's fragment is that fragment
  abbrev Own : Stage X → Type 0
  Own g = (m : ℕ) → OfF m → T (X.has g.frag m) → g.frag.fragment ≡ f

  here : In f (round_of r)
  here = numbered (round_of r) n x i

  own_name : OfF x.name
  own_name = in_map (λ (y : Range). y.name) f.ranges x i

  owns : (gs : List (Stage X)) → ((g : Fragment) → In g (plain gs) → In g (round_of r)) → Each Own gs
  owns [] h = tt
  owns (g ∷ gs) h = (
    λ m k t. same-fragment (round_of r) (rw (round-names r) d) g.frag.fragment f (h g.frag.fragment (inl refl)) here m (is_in→ m (fragment_names g.frag.fragment) t) k,
    owns gs (λ g' k. h g' (inr k)),
  )

  known : Each Own (stages_of c)
  known = owns (stages_of c) (λ g k. subst (In g) (sym (round-plain c)) (in_left g (plain (stages_of c)) (extra c.kind) k))

  -- the places where events lead whose names are w: the word of the stage ends in w
  abbrev Begins : Checked → List ℕ → Type 0
  Begins g [] = Unit {0}
  Begins g (m ∷ w) = T (X.has g m)

  data Led : List ℕ → Place X → Type 0 where
    nowhere : Led [] fresh
    lost : {w : List ℕ} → Led w dead
    let_go : {w : List ℕ} → Led w free
    into : {w : List ℕ} {g : Stage X} {s : Held} {rest : List (Stage X)} {end : ℕ} → Each Own (g ∷ rest) → Begins g.frag w → (a : List ℕ) → Residual g.frag (a ++ w) s
        → Led w (at g s rest end)

  -- ---- one event, of whatever fragment

  module _ (e : Event) where
    abbrev Here : Place X → Type 0
    Here = Led (e.name ∷ [])

    begin-led : (g : Stage X) (gs : List (Stage X)) (end : ℕ) → Each Own (g ∷ gs) → Here (begin X laws (plan_of c) g gs end e)
    begin-led g gs end k = by-test Here (X.has g.frag e.name && timely_for g end e) (λ b.
        let t : T (X.has g.frag e.name) = both_l (X.has g.frag e.name) (timely_for g end e) b in
        into k t [] (residual-step g.frag [] (X.start g.frag) e.name t (λ v. Iff.rfl))) lost

    enter-led : (l : Ending) (gs : List (Stage X)) (end : ℕ) → Each Own gs → Here (enter X laws (plan_of c) l gs end e)
    enter-led again [] end k = begin-led (plan_of c).first (plan_of c).others end known
    enter-led (release m) [] end k = by_cond Here (eqb e.name m) let_go lost
    enter-led l (g ∷ gs) end k = begin-led g gs end k

    go-led : {w : List ℕ} {p : Place X} → Led w p → Here (after p e)
    go-led nowhere = begin-led (plan_of c).first (plan_of c).others 0 known
    go-led lost = lost
    go-led let_go = by_cond Here ((plan_of c).on e.name) let_go lost
    go-led (into {w} {g} {s} {rest} {end} k b a h) = by-test Here (X.has g.frag e.name) goes (by_cond Here (X.closed g.frag s) (enter-led (ending_of c.kind) rest end k.1) lost)
      where
        s' : Held
        s' = X.step g.frag s e.name

        goes : T (X.has g.frag e.name) → Here (inside X laws (plan_of c) g s' rest end e)
        goes t = by_cond Here (timely_for g end e && X.good g.frag s') (into k t (a ++ w) (residual-step g.frag (a ++ w) s e.name t h)) lost

  led : {w : List ℕ} {p : Place X} (a : List Event) → Led w p → (w' : List ℕ) × Led w' (along p a)
  led {w} {p} [] h = (w, h)
  led {w} {p} (e ∷ a) h = led {w = e.name ∷ []} {p = after p e} a (go-led e h)

  -- ---- events of the fragment, the first of them on m

  has-is : (g : Stage X) (m : ℕ) → g.frag.fragment ≡ f → OfF m → X.has g.frag m ≡ true
  has-is g m q k = rw q (is_true (is_in m (fragment_names f)) (is_in← m (fragment_names f) k))

  module _ (m : ℕ) (of-f : OfF m) where
    goes_on : {w : List ℕ} {p : Place X} (e : Event) → OfF e.name → Led (m ∷ w) p → Led (m ∷ (w ++ (e.name ∷ []))) (after p e)
    goes_on e k lost = lost
    goes_on {w} e k let_go = by_cond (Led (m ∷ (w ++ (e.name ∷ [])))) ((plan_of c).on e.name) let_go lost
    goes_on {w} e k (into {g = g} {s = s} {rest = rest} {end = end} o b a h) =
        let t : X.has g.frag e.name ≡ true = has-is g e.name (o.0 m of-f b) k in
        let s' : Held = X.step g.frag s e.name in
        let h' : Residual g.frag (a ++ (m ∷ (w ++ (e.name ∷ [])))) s' = rw append_assoc at (residual-step g.frag (a ++ (m ∷ w)) s e.name (rw t tt) h) in
        rw t (by_cond (Led (m ∷ (w ++ (e.name ∷ [])))) (timely_for g end e && X.good g.frag s') (into o b a h') lost)

    go_on : {w : List ℕ} {p : Place X} (b : List Event) → Each (λ (e : Event). OfF e.name) b → Led (m ∷ w) p → Led (m ∷ (w ++ names b)) (along p b)
    go_on [] k h = rw append-nil h
    go_on {w} {p} (e ∷ b) k h = rw (← append_assoc w (e.name ∷ []) (names b)) (go_on {w = w ++ (e.name ∷ [])} {p = after p e} b k.1 (goes_on e k.0 h))

    -- "can this range take one more"
    takes : {w : List ℕ} {p : Place X} → Going f x (m ∷ w) → Led (m ∷ w) p → Fitting p → Unbroken p → Unbroken (after p (record { name = x.name; time = 0 }))
    takes going lost k u = absurd u
    takes going let_go k u = rw (is_true (is_in x.name (names_of r)) (is_in← x.name (names_of r) (rw (round-names r) at (in-fragments (round_of r) f x.name here own_name)))) tt
    takes {w} going (into {g = g} {s = s} {rest = rest} {end = end} o b a h) k u =
        let q : g.frag.fragment ≡ f = o.0 m of-f b in
        let s' : Held = X.step g.frag s x.name in
        let fine : X.good g.frag s' ≡ true = endless-fine g.frag x (rw q i) endless (a ++ (m ∷ w)) s (rw q (going-after f x a (m ∷ w) going)) h k.1 in
        let kept : in_time r.kind (end_of X laws (plan_of c) g.after_p end 0) 0 ≡ true = in-time r.kind (end_of X laws (plan_of c) g.after_p end 0) in
        rw (has-is g x.name q own_name, timely-now g.after_p end, fine, kept, and-false (pressed X laws (plan_of c) g.after_p g s' rest)) tt

  part-takes : (before part : List Event) → Each (λ (e : Event). OfF e.name) part → Going f x (names part) → Unbroken (place_after c (before ++ part))
      → Unbroken (place_after c ((before ++ part) ++ (record { name = x.name; time = 0 } ∷ [])))
  part-takes before [] k going u = absurd going.0
  part-takes before (e ∷ part) k going u =
      let (w, h) = led before nowhere in
      let whole : List Event = before ++ (e ∷ part) in
      let h' : Led (e.name ∷ names part) (place_after c whole) = rw (run-append X laws (plan_of c) (ending_of c.kind) fresh before (e ∷ part)) (go_on e.name k.0 part k.1 (go-led e h)) in
      let fits = run_fits X laws (plan_of c) (ending_of c.kind) fresh whole (chained c d) tt in
      rw (run-append X laws (plan_of c) (ending_of c.kind) fresh whole) (takes e.name k.0 going h' fits u)

  one_more : (trace : List Event) (latest time : ℕ) → UnderWay (rule_of c) n x trace → ¬ Broken (rule_of c) trace latest
      → ¬ Broken (rule_of c) (at_once (trace ++ (record { name = x.name; time = time } ∷ []))) 0
  one_more trace latest time u alive =
      let e : Event = record { name = x.name; time = time } in
      let o = once-under-way r n x trace u in
      let broken-before = is-broken c d (at_once trace) 0 (once-rising 0 trace) (once_last 0 0 trace (le_refl 0)) in
      let unbroken : Unbroken (place_after c (at_once trace)) = not_T (is_broken X laws (plan_of c) (place_after c (at_once trace)) 0) (λ b. alive (once-broken r trace latest (broken-before b))) in
      let next = part-takes o.before o.part o.inside (o.begun, λ s. ends-names x.name o.part (o.unclosed s)) (rw o.parts at unbroken) in
      let longer : List Event = trace ++ (e ∷ []) in
      not-broken c d (at_once longer) 0 (once-rising 0 longer) (once_last 0 0 longer (le_refl 0)) (rw (once-append 0 trace (e ∷ []), o.parts) next)

-- "Deadlines aside, and while the rule isn't broken, 'can this range take one more' is now yes for such a range from its first event until the next fragment begins or, in a fragment that isn't
-- shuffled, a sibling closes its block"
pub endless-takes-one-more : (r : Rule) → WellFormed r → (n : ℕ) (x : Range) → In x (fragment_at r n).ranges → x.v ≡ 0 → (trace : List Event) → UnderWay r n x trace
    → (latest : ℕ) → ¬ Broken r trace latest → (time : ℕ) → ¬ Broken r (at_once (trace ++ (record { name = x.name; time = time } ∷ []))) 0
endless-takes-one-more r w n x i endless trace u latest alive time =
    let c = checked r.kind r.p w in
    let longer : List Event = trace ++ (record { name = x.name; time = time } ∷ []) in
    subst (λ (r : Rule). Distinct (names_of r) → In x (fragment_at r n).ranges → UnderWay r n x trace → ¬ Broken r trace latest → ¬ Broken r (at_once longer) 0)
    c.is (λ d i. one_more c.rule d n x i endless trace latest time) w.distinct i u alive
