-- The model's state of a rule stands for a place of its plan: `keeps`, an event moves both alike; `status-is`, both have one status.
-- Assumes nothing.
use mathlib.Core.Path.{◌≡◌, refl, sym, ◌∙◌, ap, subst}
use mathlib.Core.Logic.{inl, inr}
use mathlib.Core.Bool.{Bool, true, false, cond, not, ◌&&◌, ◌||◌, and-false, and-true}
use mathlib.Core.List.{List, [], ◌∷◌, ◌++◌}
use Prim.Native.Nat.{ℕ, zero, suc, ◌+◌}
use native.Mathlib.Omega.{arith}
use lib.Dec.{T, eqb, le→leb}
use lib.ListN.{length, drop, get_or, replicate}
use Rattle.pattern.specs.Lists.{In, is_in}
use Rattle.pattern.specs.Meaning.{Event, Range, Fragment, fragment_names, Kind, Rule, names_of}
use Rattle.pattern.specs.Recogniser.{State, unbegun, Class, move, is_error, slots, not_begun, within}
use Rattle.pattern.specs.Model.{RuleState, trigger_fragment, no_fragment, in_time, is_once, fragment_at, has, following, after_p, released, late, class_of, moved, tallied, passes, stay, begin, step, end_after}
use Rattle.pattern.specs.Model as M
use Rattle.pattern.proofs.Basics.{some_in, by_cond, both, both_l, is_true, is_false, and-true-or, test, in_map}
use Rattle.pattern.proofs.Rounds.{Plan, Stage, Place, fresh, free, dead, at, Ending, again, release, Fits, timely, end_of, go, enter, ended}
use Rattle.pattern.proofs.Rounds as R
use Rattle.pattern.proofs.Running.{slot}
use Rattle.pattern.proofs.Fragment.{X, Held, Sane, slots-start}
use Rattle.pattern.proofs.Alive.{laws, running}
use Rattle.pattern.proofs.Orderings.{stages, fragments}
use Rattle.pattern.proofs.Rules.{CheckedRule, CheckedKind, once', repeated', timed', kind_of, rule_of, answering, ending_of, plan_of}
use Rattle.pattern.proofs.Keeps.{Erred, stays-erred, erred-stays, held, stepped, moves-same, tallies-same, errs-at, late-errs, inside_is, inside-errs, foreign-errs, passing-is, incomplete-errs}
use Rattle.pattern.proofs.Numbering.{stages_of, length-stages, drop-next, drop-length, fragment-is, after_is, last-is, not-released}

-- an event of a stage is late where it is not timely
late-timely : (π : Plan X) (a : Bool) (end now : ℕ) → (a && not (π.in_time end now)) ≡ not (timely X laws π a end now)
late-timely π true end now = refl
late-timely π false end now = refl

-- only a rule of kind 0 ends by being released
once_is : (i : ℕ) (k : CheckedKind) → ending_of k ≡ release i → k ≡ once' i
once_is i (once' n) w = let v : n ≡ i = cc in ap once' v
once_is i (repeated' n) w = let v : ◌≡◌ {A = ℕ} 0 1 = cc in absurd (omega arith)
once_is i (timed' a b t) w = let v : ◌≡◌ {A = ℕ} 0 1 = cc in absurd (omega arith)

-- the trigger's fragment stands past those of P
get_d_past : (i : ℕ) (fs : List Fragment) (n : ℕ) → length fs ≡ n → get_or (fs ++ (trigger_fragment i ∷ [])) n no_fragment ≡ trigger_fragment i
get_d_past i [] n w = rw (← w)
get_d_past i (x ∷ fs) zero w = absurd (omega (arith, w))
get_d_past i (x ∷ fs) (suc n) w = get_d_past i fs n (omega (arith, w))

module _ (c : CheckedRule) where
  abbrev r : Rule
  r = rule_of c

  abbrev π : Plan X
  π = plan_of c

  -- what a state stands for
  abbrev pub Stands : RuleState → Place X → Type 0
  Stands st fresh = st ≡ M.fresh (rule_of c)
  Stands st free = T (released (rule_of c) st)
  Stands st dead = Erred (rule_of c) st
  Stands st (at g s rest end) = (drop st.fragment (stages_of c) ≡ g ∷ rest) × (held st ≡ s) × (st.end ≡ end)

  -- a place where the test is passed, broken where it is not
  stands-cond : (b : Bool) (st : RuleState) (p : Place X) → (T b → Stands st p) → (T (not b) → Stands st dead) → Stands st (cond b p dead)
  stands-cond true st p yes' no' = yes' tt
  stands-cond false st p yes' no' = no' tt

  -- the end of P after an event of the stage; the stage in that event
  abbrev end_by : Stage X → ℕ → Event → ℕ
  end_by g end e = end_of X laws (plan_of c) g.after_p end e.time

  abbrev timely_for : Stage X → ℕ → Event → Bool
  timely_for g end e = timely X laws (plan_of c) g.after_p end e.time

  end_is : (n : ℕ) (a : Bool) (end now : ℕ) → after_p r n ≡ a → end_after r n end now ≡ end_of X laws π a end now
  end_is n true end now q = rw q
  end_is n false end now q = rw q

  -- the names of the stage with number n
  has-stage : (n : ℕ) (g : Stage X) (rest : List (Stage X)) → drop n (stages_of c) ≡ g ∷ rest → (m : ℕ) → has r n m ≡ X.has g.frag m
  has-stage n g rest q m = ap (λ (f : Fragment). is_in m (fragment_names f)) (fragment-is c n g rest q)

  -- the stage g, of which the event e is the first
  abbrev first_of : Stage X → List (Stage X) → ℕ → Event → Place X
  first_of g rest end e = at g (X.step g.frag (X.start g.frag) e.name) rest (end_of X laws (plan_of c) g.after_p end e.time)

  begin-stands : (n : ℕ) (g : Stage X) (rest : List (Stage X)) (end : ℕ) (e : Event) → drop n (stages_of c) ≡ g ∷ rest → T (X.has g.frag e.name) → Stands (begin r n end e) (first_of g rest end e)
  begin-stands n g rest end e q h =
      let f = fragment-is c n g rest q in
      let ss : (begin r n end e).states ≡ (X.step g.frag (X.start g.frag) e.name).states = rw (not-released c n g rest q, f) in
      let cs : (begin r n end e).counts ≡ (X.step g.frag (X.start g.frag) e.name).counts = rw f in
      (q, (λ k. record { states = ss k; counts = cs k }), end_is n g.after_p end e.time (after_is c n g rest q))

  -- ---- within a stage

  module _ (st : RuleState) (g : Stage X) (rest : List (Stage X)) (q : drop st.fragment (stages_of c) ≡ g ∷ rest) (sane : Sane g.frag (held st)) (e : Event) where
    abbrev f-is : fragment_at (rule_of c) st.fragment ≡ g.frag.fragment
    f-is = fragment-is c st.fragment g rest q

    abbrev free-not : T (not (released (rule_of c) st))
    free-not = rw (not-released c st.fragment g rest q) tt

    has-is : has r st.fragment e.name ≡ X.has g.frag e.name
    has-is = has-stage st.fragment g rest q e.name

    -- ---- an event of the stage

    module _ (h : T (X.has g.frag e.name)) where
      abbrev s' : Held
      s' = X.step g.frag (held st) e.name

      abbrev timed : Bool
      timed = timely X laws (plan_of c) g.after_p st.end e.time

      here : T (has r st.fragment e.name)
      here = rw has-is h

      late_is : late r st e ≡ not timed
      late_is = rw (is_true (has r st.fragment e.name) here, after_is c st.fragment g rest q) (late-timely π g.after_p st.end e.time)

      in-time : T timed → T (not (late r st e))
      in-time t = rw (late_is, is_true timed t) tt

      goes_on : T timed → Stands (step r st e) (at g s' rest (end_by g st.end e))
      goes_on t =
          let z : step r st e ≡ stepped r st g.frag e = inside_is r st g.frag f-is sane free-not e here (in-time t) in
          subst (λ (x : RuleState). Stands x (at g s' rest (end_by g st.end e))) (sym z) (q, refl, end_is st.fragment g.after_p st.end e.time (after_is c st.fragment g rest q))

      fails : T (not (timed && X.good g.frag s')) → Erred r (step r st e)
      fails b = elim (test timed) [
        | inl t ↦ inside-errs r st g.frag f-is sane free-not e here (in-time t) (rw (is_true timed t) at b)
        | inr t ↦ late-errs r st g.frag f-is sane free-not e (rw late_is t)
      ]

      stands-inside : Stands (step r st e) (R.inside X laws π g (X.step g.frag (held st) e.name) rest st.end e)
      stands-inside = stands-cond (timed && X.good g.frag s') (step r st e) (at g s' rest (end_by g st.end e)) (λ b. goes_on (both_l timed (X.good g.frag s') b)) fails

    -- ---- an event of another: where it is not late, is of the following fragment and this one is complete, that one begins

    module _ (away : T (not (X.has g.frag e.name))) where
      gone : T (not (has r st.fragment e.name))
      gone = rw has-is away

      stands-onward : (p : Place X) (named timed : Bool) → has r (following r st.fragment) e.name ≡ named → late r st e ≡ not timed → (T named → Stands (begin r (following r st.fragment) st.end e) p)
          → Stands (step r st e) (cond (X.closed g.frag (held st)) (cond (named && timed) p dead) dead)
      stands-onward p false timed there late_is begins =
          let strange : Erred r (step r st e) = foreign-errs r st g.frag f-is sane free-not e gone (rw there tt) in
          by_cond (Stands (step r st e)) (X.closed g.frag (held st)) strange strange
      stands-onward p true false there late_is begins =
          let too-late : Erred r (step r st e) = late-errs r st g.frag f-is sane free-not e (rw late_is tt) in
          by_cond (Stands (step r st e)) (X.closed g.frag (held st)) too-late too-late
      stands-onward p true true there late_is begins = stands-cond (X.closed g.frag (held st)) (step r st e) p passes_on (incomplete-errs r st g.frag f-is sane free-not e gone (rw late_is tt) (rw there tt))
        where
          passes_on : T (X.closed g.frag (held st)) → Stands (step r st e) p
          passes_on k =
              let z : step r st e ≡ begin r (following r st.fragment) st.end e = passing-is r st g.frag f-is sane free-not e gone (rw late_is tt) (rw there tt) k in
              subst (λ (x : RuleState). Stands x p) (sym z) (begins tt)

      -- the following stage, by its number
      stands-enter : (n : ℕ) (g' : Stage X) (rest' : List (Stage X)) → drop n (stages_of c) ≡ g' ∷ rest' → following r st.fragment ≡ n
          → Stands (step r st e) (cond (X.closed g.frag (held st)) (R.begin X laws π g' rest' st.end e) dead)
      stands-enter n g' rest' q' z =
          let there : has r (following r st.fragment) e.name ≡ X.has g'.frag e.name = rw z (has-stage n g' rest' q' e.name) in
          let late_is : late r st e ≡ not (timely_for g' st.end e) = rw (is_false (has r st.fragment e.name) gone, z, after_is c n g' rest' q') (late-timely π g'.after_p st.end e.time) in
          stands-onward (first_of g' rest' st.end e) (X.has g'.frag e.name) (timely_for g' st.end e) there late_is (λ h. rw z (begin-stands n g' rest' st.end e q' h))

      -- what the stage's number says of where the round ends
      ends_with : (gs : List (Stage X)) → rest ≡ gs → M.is_last r st.fragment ≡ ended X laws π (ending_of c.kind) gs
      ends_with gs z = last-is c st.fragment g rest q ∙ ap (ended X laws π (ending_of c.kind)) z

      -- what follows the stage
      stands-follow : (l : Ending) (gs : List (Stage X)) → rest ≡ gs → ending_of c.kind ≡ l → Stands (step r st e) (cond (X.closed g.frag (held st)) (enter X laws π l gs st.end e) dead)
      stands-follow l (g' ∷ gs) z y = stands-enter (suc st.fragment) g' gs (drop-next st.fragment (stages_of c) g rest q ∙ z) (rw (ends_with (g' ∷ gs) z))
      stands-follow again [] z y = stands-enter 0 π.first π.others refl (rw (ends_with [] z, y))
      stands-follow (release i) [] z y =
          subst (λ (b : Bool). Stands (step r st e) (cond (X.closed g.frag (held st)) (cond b free dead) dead)) (and-true-or (eqb e.name i))
          (stands-onward free (eqb e.name i || false) true (rw follow-is (ap (λ (f : Fragment). is_in e.name (fragment_names f)) trigger-is)) never-late (λ h. rw follow-is freed))
        where
          k-is : c.kind ≡ once' i
          k-is = once_is i c.kind y

          follow-is : following r st.fragment ≡ suc st.fragment
          follow-is = rw (ends_with [] z, y)

          -- P ends here
          end-of-p : length (fragments (c.p ∷ c.ps)) ≡ suc st.fragment
          end-of-p =
              let none : length (stages true (answering c.kind) ++ []) ≡ 0 = ap (λ (k : CheckedKind). length (stages true (answering k) ++ [])) k-is in
              let here : length (stages_of c) ≡ st.fragment + 1 = drop-length st.fragment (stages_of c) g rest q ∙ ap (λ (x : List (Stage X)). st.fragment + suc (length x)) z in
              omega (arith, none, here, length-stages false (c.p ∷ c.ps) (stages true (answering c.kind) ++ []))

          trigger-is : fragment_at r (suc st.fragment) ≡ trigger_fragment i
          trigger-is =
              ap (λ (k : Kind). get_or (fragments (c.p ∷ c.ps) ++ M.last_fragments k) (suc st.fragment) no_fragment) (ap kind_of k-is)
              ∙ get_d_past i (fragments (c.p ∷ c.ps)) (suc st.fragment) end-of-p

          -- kind 0 knows no time
          belongs : Bool
          belongs = after_p r (cond (has r st.fragment e.name) st.fragment (following r st.fragment))

          never-late : late r st e ≡ false
          never-late = ap (λ (k : CheckedKind). belongs && not (in_time (kind_of k) st.end e.time)) k-is ∙ and-false belongs

          freed : T (released r (begin r (suc st.fragment) st.end e))
          freed =
              let first : T (is_once r.kind) = subst (λ (k : CheckedKind). T (is_once (kind_of k))) (sym k-is) tt in
              let past : T (after_p r (suc st.fragment)) = le→leb (length (fragments (c.p ∷ c.ps))) (suc st.fragment) (omega (arith, end-of-p)) in
              both (is_once r.kind) (after_p r (suc st.fragment)) first past

    abbrev Goes : Bool → Type 0
    Goes b = X.has g.frag e.name ≡ b → Stands (step (rule_of c) st e) (go X laws (plan_of c) (ending_of c.kind) (at g (held st) rest st.end) e)

    stands_at_lem : (b : Bool) → Goes b
    stands_at_lem true h = rw h (stands-inside (rw h tt))
    stands_at_lem false h = rw h (stands-follow (rw h tt) (ending_of c.kind) rest refl refl)

  -- ---- the first event

  module _ (e : Event) where
    abbrev begun : Held
    begun = X.step c.p (X.start c.p) e.name

    abbrev f : Fragment
    f = c.p.fragment

    abbrev unbegun-states : List State
    unbegun-states = not_begun c.p.fragment.ranges 8

    abbrev cl : Range → Class
    cl = class_of (rule_of c) (M.fresh (rule_of c)) e

    fresh-not : released r (M.fresh r) ≡ false
    fresh-not = not-released c 0 π.first π.others refl

    after-zero : after_p r 0 ≡ false
    after-zero = after_is c 0 π.first π.others refl

    fresh-goes : T (X.has c.p e.name) → Stands (step r (M.fresh r) e) (at π.first begun π.others e.time)
    fresh-goes h = subst (λ (x : RuleState). Stands x (at π.first begun π.others e.time)) (sym stays) (refl, (λ i. record { states = ss i; counts = cs i }), rw after-zero)
      where
        here : has r 0 e.name ≡ true
        here = is_true (X.has c.p e.name) h

        inside : (x : Range) → cl x ≡ within e.name x
        inside x = let on-time : late r (M.fresh r) e ≡ false = rw (here, after-zero) in rw (on-time, here)

        stays : step r (M.fresh r) e ≡ stay r (M.fresh r) e
        stays = let p : passes r (M.fresh r) e ≡ false = rw here in rw (fresh-not, p)

        ss : moved r (M.fresh r) e ≡ begun.states
        ss = moves-same f.join cl (within e.name) f.ranges unbegun-states (replicate 8 0) inside

        cs : tallied r (M.fresh r) e ≡ begun.counts
        cs = tallies-same cl (within e.name) f.ranges unbegun-states (replicate 8 0) inside

    -- a range that has not begun sees an event that is not of its fragment as *next* or *other*: both are errors to it
    fresh-fails : T (not (X.has c.p e.name)) → Erred r (step r (M.fresh r) e)
    fresh-fails h =
        let (x, i) = some_in f.ranges c.p.count.0 in
        let k : In (slot x unbegun 0) (slots f.ranges unbegun-states (replicate 8 0)) = rw (slots-start f.ranges 8 c.p.count.1) (in_map (λ (y : Range). slot y unbegun 0) f.ranges x i) in
        stays-erred r (M.fresh r) e (rw fresh-not tt) (errs-at f.join f.ranges unbegun-states (replicate 8 0) cl (slot x unbegun 0) k (errs x))
      where
        away : has r 0 e.name ≡ false
        away = is_false (X.has c.p e.name) h

        Errs : Range → Class → Type 0
        Errs x k = T (is_error (move f.join x 0 unbegun k))

        errs : (x : Range) → T (is_error (move f.join x 0 unbegun (cl x)))
        errs x = by_cond (Errs x) (late r (M.fresh r) e) tt (rw away (by_cond (Errs x) (has r (following r 0) e.name) tt tt))

  -- ---- one event moves both alike

  fresh-stands : (e : Event) → Stands (step r (M.fresh r) e) (cond (X.has c.p e.name && true) (at π.first (begun e) π.others e.time) dead)
  fresh-stands e = rw (and-true (X.has c.p e.name)) (stands-cond (X.has c.p e.name) (step r (M.fresh r) e) (at π.first (begun e) π.others e.time) (fresh-goes e) (fresh-fails e))

  pub keeps : (st : RuleState) (p : Place X) (e : Event) → T (is_in e.name (names_of (rule_of c))) → Fits X laws (plan_of c) (ending_of c.kind) p → Stands st p
      → Stands (step (rule_of c) st e) (go X laws (plan_of c) (ending_of c.kind) p e)
  keeps st fresh e o f z = subst (λ (x : RuleState). Stands (step r x e) (go X laws π (ending_of c.kind) fresh e)) (sym z) (fresh-stands e)
  keeps st free e o f h = rw (is_true (released r st) h, is_true (is_in e.name (names_of r)) o) h
  keeps st dead e o f h = erred-stays r st e h
  keeps st (at g s rest end) e o f (q, z, y) = at_place (running g.frag s f.1)
    where
      at_place : Sane g.frag s → Stands (step r st e) (go X laws π (ending_of c.kind) (at g s rest end) e)
      at_place sane =
          let here = stands_at_lem st g rest q (subst (λ (x : Held). Sane g.frag x) (sym z) sane) e (X.has g.frag e.name) refl in
          subst (λ (x : Held). Stands (step r st e) (go X laws π (ending_of c.kind) (at g x rest end) e)) z (subst (λ (n : ℕ). Stands (step r st e) (go X laws π (ending_of c.kind) (at g (held st) rest n) e)) y here)
