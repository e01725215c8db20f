-- The model's status of a rule's state is the status of the place that it stands for.
-- Assumes nothing.
use mathlib.Core.Path.{◌≡◌, refl, sym, ◌∙◌, ap, subst}
use mathlib.Core.Bool.{Bool, true, false, cond, not, ◌&&◌, and-false}
use mathlib.Core.List.{List, [], ◌∷◌}
use Prim.Native.Nat.{ℕ, suc, ◌+◌}
use lib.Dec.{T, leb, not_T}
use lib.ListN.{drop, replicate}
use Rattle.pattern.specs.Lists.{In, any_of}
use Rattle.pattern.specs.Meaning.{Range, Fragment, Rule, whole}
use Rattle.pattern.specs.Recogniser.{State, unbegun, waiting, counting, done, is_unbegun, is_error, Slot, slots, not_begun, erred, complete, can_grow}
use Rattle.pattern.specs.Model.{RuleState, in_time, fragment_at, is_last, following, after_p, slots_of, join_of, released, at_rest, pressed, overdue, status_at}
use Rattle.pattern.specs.Model as M
use Rattle.pattern.proofs.Basics.{some_in, either_l, either_r, is_true, is_false, in_map, any→, any←}
use Rattle.pattern.proofs.Rounds.{Plan, Stage, Place, fresh, free, dead, at, again, Fits, ended}
use Rattle.pattern.proofs.Deadline as D
use Rattle.pattern.proofs.Running.{slot}
use Rattle.pattern.proofs.Fragment.{X, Held, slots_in, Open, waits, counts, over, Sane, slots-start}
use Rattle.pattern.proofs.Alive.{laws, running}
use Rattle.pattern.proofs.Rules.{CheckedRule, CheckedKind, once', repeated', timed', kind_of, rule_of, ending_of, plan_of}
use Rattle.pattern.proofs.Standing.{status_of}
use Rattle.pattern.proofs.Keeps.{held}
use Rattle.pattern.proofs.Numbering.{stages_of, fragment-is, after_is, last-is, not-released, drop-next}
use Rattle.pattern.proofs.Places.{Stands}

module _ (c : CheckedRule) where
  abbrev r : Rule
  r = rule_of c

  abbrev π : Plan X
  π = plan_of c

  abbrev some_unbegun : List Slot → Bool
  some_unbegun = any_of (λ (y : Slot). is_unbegun y.state)

  at-rest-whole : (st : RuleState) (now : ℕ) → T (at_rest r st) → status_at r st now ≡ whole
  at-rest-whole st now t = rw (is_true (at_rest r st) t)

  -- a fresh rule is at rest
  pub fresh-rests : T (at_rest (rule_of c) (M.fresh (rule_of c)))
  fresh-rests =
      let rs : List Range = c.p.fragment.ranges in
      let (x, i) = some_in rs c.p.count.0 in
      let k : In (slot x unbegun 0) (slots rs (not_begun rs 8) (replicate 8 0)) = rw (slots-start rs 8 c.p.count.1) (in_map (λ (y : Range). slot y unbegun 0) rs x i) in
      either_r (released r (M.fresh r)) (some_unbegun (slots_of r (M.fresh r))) (any← (λ (y : Slot). is_unbegun y.state) (slots rs (not_begun rs 8) (replicate 8 0)) (slot x unbegun 0) k tt)

  module _ (st : RuleState) (g : Stage X) (rest : List (Stage X)) (q : drop st.fragment (stages_of c) ≡ g ∷ rest) (sane : Sane g.frag (held st)) (now : ℕ) where
    abbrev xs : List Slot
    xs = slots_in g.frag (held st)

    abbrev closed : Bool
    closed = X.closed g.frag (held st)

    abbrev grows : Bool
    grows = X.grows g.frag (held st)

    f-is : fragment_at r st.fragment ≡ g.frag.fragment
    f-is = fragment-is c st.fragment g rest q

    slots-are : slots_of r st ≡ xs
    slots-are = ap (λ (f : Fragment). slots f.ranges st.states st.counts) f-is

    -- a slot of a fragment that has begun is counting, waiting or done
    no_slot : (t : State → Bool) → t counting ≡ false → t waiting ≡ false → t done ≡ false → any_of (λ (x : Slot). t x.state) xs ≡ false
    no_slot t a b d = is_false (any_of (λ (x : Slot). t x.state) xs) (not_T (any_of (λ (x : Slot). t x.state) xs) (λ h. let (x, i, u) = any→ (λ (y : Slot). t y.state) xs h in none x u (sane.each x i)))
      where
        none : (x : Slot) → T (t x.state) → Open g.frag.fragment.join x → ⊥
        none x u (counts z h) = subst T (ap t z ∙ a) u
        none x u (waits z) = subst T (ap t z ∙ b) u
        none x u (over z p) = subst T (ap t z ∙ d) u

    restless : at_rest r st ≡ false
    restless = rw (not-released c st.fragment g rest q, slots-are) (no_slot is_unbegun refl refl refl)

    errorless : erred (slots_of r st) ≡ false
    errorless = rw slots-are (no_slot is_error refl refl refl)

    complete-is : complete (join_of r st) (slots_of r st) ≡ closed
    complete-is = ap (λ (f : Fragment). complete f.join (slots f.ranges st.states st.counts)) f-is

    grows-is : can_grow (join_of r st) (slots_of r st) ≡ grows
    grows-is = ap (λ (f : Fragment). can_grow f.join (slots f.ranges st.states st.counts)) f-is

    -- what the stage's number says of where the round ends
    ends_with : (gs : List (Stage X)) → rest ≡ gs → is_last r st.fragment ≡ ended X laws π (ending_of c.kind) gs
    ends_with gs z = last-is c st.fragment g rest q ∙ ap (ended X laws π (ending_of c.kind)) z

    -- where the round is followed by itself, what follows P's last fragment is Q
    answers-is : (gs : List (Stage X)) → rest ≡ gs → ending_of c.kind ≡ again → after_p r (following r st.fragment) ≡ D.answers X laws π gs
    answers-is (g' ∷ gs) z l = rw (ends_with (g' ∷ gs) z) (after_is c (suc st.fragment) g' gs (drop-next st.fragment (stages_of c) g rest q ∙ z))
    answers-is [] z l = rw (ends_with [] z, l) (after_is c 0 π.first π.others refl)

    ended-none : (gs : List (Stage X)) → ended X laws π again gs ≡ D.none X laws π gs
    ended-none [] = refl
    ended-none (x ∷ gs) = refl

    abbrev pressed_by : Bool
    pressed_by = D.pressed X laws (plan_of c) g.after_p g (held st) rest

    pressed-by : (a : Bool) → cond a (not (closed && D.none X laws π rest)) (D.answers X laws π rest && closed && not grows) ≡ D.pressed X laws π a g (held st) rest
    pressed-by true = refl
    pressed-by false = refl

    pressed-is : ending_of c.kind ≡ again → pressed r st ≡ pressed_by
    pressed-is l = rw (after_is c st.fragment g rest q, complete-is, grows-is, answers-is rest refl l, ends_with rest refl, l, ended-none rest) (pressed-by g.after_p)

    -- broken by the clock: only kind 2 has a deadline
    overdue-by : (k : CheckedKind) → c.kind ≡ k → (pressed r st && not (in_time (kind_of k) st.end now)) ≡ (pressed_by && not (in_time (kind_of k) st.end now))
    overdue-by (once' i) z = and-false (pressed r st) ∙ sym (and-false pressed_by)
    overdue-by (repeated' i) z = and-false (pressed r st) ∙ sym (and-false pressed_by)
    overdue-by (timed' a b t) z = ap (λ (x : Bool). x && not (leb now (st.end + t))) (pressed-is (ap ending_of z))

    overdue-is : overdue r st now ≡ D.is_broken X laws π (at g (held st) rest st.end) now
    overdue-is = overdue-by c.kind refl

    status-at : status_at r st now ≡ status_of c (at g (held st) rest st.end) now
    status-at = rw (restless, errorless, overdue-is, complete-is, last-is c st.fragment g rest q)

  pub status-is : (st : RuleState) (p : Place X) (now : ℕ) → Fits X laws (plan_of c) (ending_of c.kind) p → Stands c st p → status_at (rule_of c) st now ≡ status_of c p now
  status-is st fresh now f z = ap (λ (x : RuleState). status_at r x now) z ∙ at-rest-whole (M.fresh r) now fresh-rests
  status-is st free now f h = at-rest-whole st now (either_l (released r st) (some_unbegun (slots_of r st)) h)
  status-is st dead now f h = rw (is_false (at_rest r st) h.restless, is_true (erred (slots_of r st)) h.erred)
  status-is st (at g s rest end) now f (q, z, y) =
      let sane : Sane g.frag (held st) = subst (λ (x : Held). Sane g.frag x) (sym z) (running g.frag s f.1) in
      status-at st g rest q sane now ∙ ap (λ (x : Held). status_of c (at g x rest st.end) now) z ∙ ap (λ (n : ℕ). status_of c (at g s rest n) now) y
