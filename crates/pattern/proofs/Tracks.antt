-- One rule: a state of the model follows the rule's trace from the fresh state on, and says of it what the meaning says.
-- Assumes nothing.
use mathlib.Core.Path.{◌≡◌, refl, sym, ap, subst}
use mathlib.Core.List.{List, [], ◌∷◌, ◌++◌}
use Prim.Native.Nat.{ℕ, ◌≤◌}
use native.Mathlib.Nat.{not-suc-le-zero}
use lib.Dec.{T}
use Rattle.pattern.specs.Lists.{Distinct, Each, is_in}
use Rattle.pattern.specs.Meaning.{Event, Fragment, fragment_names, ordering_names, kind_names, Kind, once, repeated, timed, Rule, names_of, last_time, Rising, Judged, WellFormedRange, WellFormedFragment, WellFormedOrdering, WellFormedKind, WellFormed}
use Rattle.pattern.specs.Model.{RuleState, fresh, step, status_at, at_rest}
use Rattle.pattern.proofs.Basics.{each_in, distinct-left, distinct-right}
use Rattle.pattern.proofs.Rounds as R
use Rattle.pattern.proofs.Fragment.{X, Checked}
use Rattle.pattern.proofs.Alive.{laws}
use Rattle.pattern.proofs.Orderings.{fragments}
use Rattle.pattern.proofs.Rules.{CheckedRule, CheckedKind, once', repeated', timed', rule_of, kind_of, ending_of, plan_of, chained}
use Rattle.pattern.proofs.Standing.{place_after, judged}
use Rattle.pattern.proofs.Places.{Stands, keeps}
use Rattle.pattern.proofs.Status.{fresh-rests, status-is}

-- ---- a well-formed rule's fragments are checked

abbrev pub check : (f : Fragment) → WellFormedFragment f → Distinct (fragment_names f) → Checked
check f w d = record {
  fragment = f;
  fine = record { distinct = d; some = λ r i. (each_in WellFormedRange f.ranges w.ranges r i).some; order = λ r i. (each_in WellFormedRange f.ranges w.ranges r i).order };
  count = w.count;
}

checks : (fs : List Fragment) → Each WellFormedFragment fs → Distinct (ordering_names fs) → List Checked
checks [] w d = []
checks (f ∷ fs) w d = check f w.0 (distinct-left (fragment_names f) (ordering_names fs) d) ∷ checks fs w.1 (distinct-right (fragment_names f) (ordering_names fs) d)

checks-are : (fs : List Fragment) (w : Each WellFormedFragment fs) (d : Distinct (ordering_names fs)) → fragments (checks fs w d) ≡ fs
unfolding checks
checks-are [] w d = refl
checks-are (f ∷ fs) w d = ap (λ (l : List Fragment). f ∷ l) (checks-are fs w.1 (distinct-right (fragment_names f) (ordering_names fs) d))

pub record CheckedFor (r : Rule) : Type 0 where
  pub rule : CheckedRule
  pub is : rule_of rule ≡ r

-- P has a first fragment, and so has Q
module _ (f : Fragment) (fs : List Fragment) (w : WellFormedOrdering (f ∷ fs)) (d : Distinct (ordering_names (f ∷ fs))) where
  head : Checked
  head = check f w.fragments.0 (distinct-left (fragment_names f) (ordering_names fs) d)

  tail : List Checked
  tail = checks fs w.fragments.1 (distinct-right (fragment_names f) (ordering_names fs) d)

  whole_is : fragments (head ∷ tail) ≡ f ∷ fs
  unfolding head tail
  whole_is = ap (λ (l : List Fragment). f ∷ l) (checks-are fs w.fragments.1 (distinct-right (fragment_names f) (ordering_names fs) d))

checked-kind : (k : Kind) → WellFormedKind k → Distinct (kind_names k) → (ck : CheckedKind) × (kind_of ck ≡ k)
checked-kind (once i) w d = (once' i, refl)
checked-kind (repeated i) w d = (repeated' i, refl)
checked-kind (timed [] t) w d = absurd (not-suc-le-zero w.0.count.0)
checked-kind (timed (q ∷ qs) t) w d = (timed' (head q qs w.0 d) (tail q qs w.0 d) t, ap (λ (l : List Fragment). timed l t) (whole_is q qs w.0 d))

pub checked : (k : Kind) (p : List Fragment) → WellFormed (record { kind = k; p = p }) → CheckedFor (record { kind = k; p = p })
checked k [] w = absurd (not-suc-le-zero w.p.count.0)
checked k (f ∷ fs) w =
    let d = distinct-left (ordering_names (f ∷ fs)) (kind_names k) w.distinct in
    let (ck, e) = checked-kind k w.kind (distinct-right (ordering_names (f ∷ fs)) (kind_names k) w.distinct) in
    let e' = whole_is f fs w.p d in
    record { rule = record { p = head f fs w.p d; ps = tail f fs w.p d; kind = ck }; is = λ i. record { kind = e i; p = e' i } }

-- ---- the state follows the trace

pub record Tracks (r : Rule) (trace : List Event) (st : RuleState) : Type 0 where
  pub checked : CheckedFor r
  pub distinct : Distinct (names_of r)
  pub stands : Stands checked.rule st (place_after checked.rule trace)

pub tracks-fresh : (r : Rule) → WellFormed r → Tracks r [] (fresh r)
tracks-fresh r w = let c = checked r.kind r.p w in record { checked = c; distinct = w.distinct; stands = ap fresh (sym c.is) }

-- a fresh rule is at rest
pub fresh-at-rest : (r : Rule) → WellFormed r → T (at_rest r (fresh r))
fresh-at-rest r w = let c = checked r.kind r.p w in subst (λ (x : Rule). T (at_rest x (fresh x))) c.is (fresh-rests c.rule)

pub tracks-step : (r : Rule) (trace : List Event) (st : RuleState) (e : Event) → T (is_in e.name (names_of r)) → Tracks r trace st → Tracks r (trace ++ (e ∷ [])) (step r st e)
tracks-step r trace st e i t =
    let c = t.checked.rule in
    let z = t.checked.is in
    let d : Distinct (names_of (rule_of c)) = subst (λ (x : Rule). Distinct (names_of x)) (sym z) t.distinct in
    let h = keeps c st (place_after c trace) e (subst (λ (x : Rule). T (is_in e.name (names_of x))) (sym z) i) (R.run_fits X laws (plan_of c) (ending_of c.kind) R.fresh trace (chained c d) tt) t.stands in
    let there : R.Place X = R.go X laws (plan_of c) (ending_of c.kind) (place_after c trace) e in
    let h' : Stands c (step r st e) there = subst (λ (x : Rule). Stands c (step x st e) there) z h in
    record { checked = t.checked; distinct = t.distinct; stands = subst (λ (x : R.Place X). Stands c (step r st e) x) (sym (R.run-append X laws (plan_of c) (ending_of c.kind) R.fresh trace (e ∷ []))) h' }

pub tracks-status : (r : Rule) (trace : List Event) (st : RuleState) (latest : ℕ) → Rising 0 trace → last_time 0 trace ≤ latest → Tracks r trace st → Judged r trace latest (status_at r st latest)
tracks-status r trace st latest rising past t =
    let c = t.checked.rule in
    let z = t.checked.is in
    let d : Distinct (names_of (rule_of c)) = subst (λ (x : Rule). Distinct (names_of x)) (sym z) t.distinct in
    let h = status-is c st (place_after c trace) latest (R.run_fits X laws (plan_of c) (ending_of c.kind) R.fresh trace (chained c d) tt) t.stands in
    subst (λ (x : Rule). Judged x trace latest (status_at x st latest)) z (rw h (judged c d trace latest rising past))
