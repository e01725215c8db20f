-- An ordering's matches, cut off the front of a list of events, and the stages that take them: the one place where a list is split. P and Q differ in a flag only.
-- Assumes nothing.
use mathlib.Core.Path.{◌≡◌, refl, sym, ◌∙◌, ap, subst}
use mathlib.Core.Logic.{inl, inr, ◌≢◌}
use mathlib.Core.Bool.{Bool, true, false}
use mathlib.Core.List.{List, [], ◌∷◌, ◌++◌, nil≢cons, append_assoc}
use Prim.Native.Nat.{ℕ, zero, suc, ◌≤◌}
use native.Mathlib.Nat.{le_trans, le_refl}
use lib.Dec.{T}
use Rattle.pattern.specs.Meaning.{Event, names, Fragment, MatchesOrdering, last_time, Rounds, Rising}
use Rattle.pattern.proofs.Rounds.{Takes, Stage, Plan, Lang, timely, end_of, Until, Seq, Turns, round}
use Rattle.pattern.proofs.Fragment.{X, Held, Checked}
use Rattle.pattern.proofs.Product.{match→, match←}
use Rattle.pattern.proofs.Alive.{laws}

-- the stages of an ordering, of P or of Q
abbrev pub stages : Bool → List Checked → List (Stage X)
stages a [] = []
stages a (f ∷ fs) = record { frag = f; after_p = a } ∷ stages a fs

abbrev pub fragments : List Checked → List Fragment
fragments [] = []
fragments (f ∷ fs) = f.fragment ∷ fragments fs

-- ---- times

pub last-append : (d : ℕ) (a b : List Event) → last_time d (a ++ b) ≡ last_time (last_time d a) b
last-append d [] b = refl
last-append d (e ∷ a) b = last-append e.time a b

-- the last time of a list that is not empty does not depend on the default
pub last-any : (d d' : ℕ) (a : List Event) → a ≢ [] → last_time d a ≡ last_time d' a
last-any d d' [] n = absurd (n refl)
last-any d d' (e ∷ a) n = refl

pub rising-left : (s : ℕ) (a b : List Event) → Rising s (a ++ b) → Rising s a
rising-left s [] b h = tt
rising-left s (e ∷ a) b h = (h.0, rising-left e.time a b h.1)

pub rising-right : (s : ℕ) (a b : List Event) → Rising s (a ++ b) → Rising (last_time s a) b
rising-right s [] b h = h
rising-right s (e ∷ a) b h = rising-right e.time a b h.1

pub rising-append : (s : ℕ) (a b : List Event) → Rising s a → Rising (last_time s a) b → Rising s (a ++ b)
rising-append s [] b h k = k
rising-append s (e ∷ a) b h k = (h.0, rising-append e.time a b h.1 k)

pub rising-last : (s : ℕ) (a : List Event) → Rising s a → s ≤ last_time s a
rising-last s [] h = le_refl s
rising-last s (e ∷ a) h = le_trans h.0 (rising-last e.time a h.1)

pub rising-from : (s t : ℕ) (a : List Event) → s ≤ t → Rising t a → Rising s a
rising-from s t [] l h = tt
rising-from s t (e ∷ a) l h = (le_trans l h.0, h.1)

module _ (π : Plan X) where
  -- every event is in time, and the end of P after them
  abbrev pub AllTimely : Bool → ℕ → List Event → Type 0
  AllTimely a end [] = Unit {0}
  AllTimely a end (e ∷ w) = T (timely X laws π a end e.time) × AllTimely a (end_of X laws π a end e.time) w

  abbrev pub end_after : Bool → ℕ → List Event → ℕ
  end_after a end [] = end
  end_after a end (e ∷ w) = end_after a (end_of X laws π a end e.time) w

  pub timely-p : (end : ℕ) (w : List Event) → AllTimely false end w
  timely-p end [] = tt
  timely-p end (e ∷ w) = (tt, timely-p e.time w)

  pub end-p : (end : ℕ) (w : List Event) → end_after false end w ≡ last_time end w
  end-p end [] = refl
  end-p end (e ∷ w) = end-p e.time w

  pub end-q : (end : ℕ) (w : List Event) → end_after true end w ≡ end
  end-q end [] = refl
  end-q end (e ∷ w) = end-q end w

  module _ (a : Bool) where
    end-append : (end : ℕ) (v w : List Event) → end_after a end (v ++ w) ≡ end_after a (end_after a end v) w
    end-append end [] w = refl
    end-append end (e ∷ v) w = end-append (end_of X laws π a end e.time) v w

    timely-append : (end : ℕ) (v w : List Event) → AllTimely a end v → AllTimely a (end_after a end v) w → AllTimely a end (v ++ w)
    timely-append end [] w h k = k
    timely-append end (e ∷ v) w h k = (h.0, timely-append (end_of X laws π a end e.time) v w h.1 k)

    timely-left : (end : ℕ) (v w : List Event) → AllTimely a end (v ++ w) → AllTimely a end v
    timely-left end [] w h = tt
    timely-left end (e ∷ v) w h = (h.0, timely-left (end_of X laws π a end e.time) v w h.1)

    timely-right : (end : ℕ) (v w : List Event) → AllTimely a end (v ++ w) → AllTimely a (end_after a end v) w
    timely-right end [] w h = h
    timely-right end (e ∷ v) w h = timely-right (end_of X laws π a end e.time) v w h.1

    abbrev stage : Checked → Stage X
    stage f = record { frag = f; after_p = a }

    -- ---- one stage

    until→ : (C : Lang) (f : Checked) (v w : List Event) (s : Held) (end : ℕ) → Takes X f s (names v) → AllTimely a end v → C (end_after a end v) w → Until X laws π C (stage f) s end (v ++ w)
    until→ C f [] [] s end t i c = (t, c)
    until→ C f [] (e ∷ w) s end t i c = inr (t, c)
    until→ C f (e ∷ v) w s end t i c = inl (t.0, i.0, until→ C f v w (X.step f s e.name) (end_of X laws π a end e.time) t.1 i.1 c)

    -- a cut of the list in two
    pub record Cut (Front : List Event → Type 0) (C : Lang) (end : ℕ) (w : List Event) : Type 0 where
      pub front : List Event
      pub back : List Event
      pub parts : w ≡ front ++ back
      pub holds : Front front
      pub timely : AllTimely a end front
      pub rest : C (end_after a end front) back

    until← : (C : Lang) (f : Checked) (w : List Event) (s : Held) (end : ℕ) → Until X laws π C (stage f) s end w → Cut (λ v. Takes X f s (names v)) C end w
    until← C f [] s end (t, c) = record { front = []; back = []; parts = refl; holds = t; timely = tt; rest = c }
    until← C f (e ∷ w) s end (inl (h, t, u)) =
        let k = until← C f w (X.step f s e.name) (end_of X laws π a end e.time) u in
        record { front = e ∷ k.front; back = k.back; parts = ap (λ (l : List Event). e ∷ l) k.parts; holds = (h, k.holds); timely = (t, k.timely); rest = k.rest }
    until← C f (e ∷ w) s end (inr (t, c)) = record { front = []; back = e ∷ w; parts = refl; holds = t; timely = tt; rest = c }

    -- ---- an ordering

    pub seq→ : (fs : List Checked) (gs : List (Stage X)) (K : Lang) (end : ℕ) (v w : List Event) → MatchesOrdering (fragments fs) v → AllTimely a end v → Seq X laws π gs K (end_after a end v) w
        → Seq X laws π (stages a fs ++ gs) K end (v ++ w)
    seq→ [] gs K end v w m i h = rw m (rw m at h)
    seq→ (f ∷ fs) gs K end v w (v₁, v₂, e, m, ms) i h =
        let i' : AllTimely a end (v₁ ++ v₂) = rw e at i in
        let h' : Seq X laws π gs K (end_after a (end_after a end v₁) v₂) w = rw (e, end-append) at h in
        let later : Seq X laws π (stages a fs ++ gs) K (end_after a end v₁) (v₂ ++ w) = seq→ fs gs K (end_after a end v₁) v₂ w ms (timely-right end v₁ v₂ i') h' in
        rw (e, append_assoc) (until→ (Seq X laws π (stages a fs ++ gs) K) f v₁ (v₂ ++ w) (X.start f) end (match→ f (names v₁) m) (timely-left end v₁ v₂ i') later)

    pub seq← : (fs : List Checked) (gs : List (Stage X)) (K : Lang) (end : ℕ) (w : List Event) → Seq X laws π (stages a fs ++ gs) K end w → Cut (MatchesOrdering (fragments fs)) (Seq X laws π gs K) end w
    seq← [] gs K end w h = record { front = []; back = w; parts = refl; holds = refl; timely = tt; rest = h }
    seq← (f ∷ fs) gs K end w h =
        let k = until← (Seq X laws π (stages a fs ++ gs) K) f w (X.start f) end h in
        let n = seq← fs gs K (end_after a end k.front) k.back k.rest in
        record {
          front = k.front ++ n.front;
          back = n.back;
          parts = k.parts ∙ ap (λ (l : List Event). k.front ++ l) n.parts ∙ sym (append_assoc k.front n.front n.back);
          holds = (k.front, n.front, refl, match← f (names k.front) k.holds, n.holds);
          timely = timely-append end k.front n.front k.timely n.timely;
          rest = rw end-append n.rest;
        }

-- the events of an ordering are some
pub ordering-some : (f : Checked) (fs : List Checked) (w : List Event) → MatchesOrdering (fragments (f ∷ fs)) w → w ≢ []
ordering-some f fs w ([], b, e, m, ms) = absurd (laws.unbegun f (match→ f [] m))
ordering-some f fs w (x ∷ a, b, e, m, ms) = λ (z : w ≡ []). nil≢cons (sym z ∙ e)

-- ---- rounds: a P and then a Q, each event of Q in time

pub record Round (π : Plan X) (ps qs : List Checked) (w : List Event) : Type 0 where
  pub first : List Event
  pub second : List Event
  pub parts : w ≡ first ++ second
  pub ordered : MatchesOrdering (fragments ps) first
  pub answered : MatchesOrdering (fragments qs) second
  pub timely : AllTimely π true (last_time 0 first) second

module _ (π : Plan X) (p : Checked) (ps qs : List Checked) (plan : round X laws π ≡ stages false (p ∷ ps) ++ (stages true qs ++ [])) (One : List Event → Type 0) where
  pub rounds→ : ((s : ℕ) (w : List Event) → Rising s w → One w → Round π (p ∷ ps) qs w) → (n s end : ℕ) (w : List Event) → Rising s w → Rounds One n w → Turns X laws π n end w
  rounds→ cut zero s end w r h = h
  rounds→ cut (suc n) s end w r (a, b, e, o, h) =
      let c = cut s a (rising-left s a b (rw e at r)) o in
      let v = c.first in
      let e' : w ≡ v ++ (c.second ++ b) = e ∙ ap (λ (l : List Event). l ++ b) c.parts ∙ append_assoc v c.second b in
      let t : AllTimely π true (end_after π false end v) c.second = rw (end-p π end v, last-any end 0 v (ordering-some p ps v c.ordered)) c.timely in
      subst (λ (l : List (Stage X)). Seq X laws π l (Turns X laws π n) end w) (sym plan) (rw e' (seq→ π false (p ∷ ps) (stages true qs ++ []) (Turns X laws π n) end v (c.second ++ b) c.ordered (timely-p π end v)
      (seq→ π true qs [] (Turns X laws π n) (end_after π false end v) c.second b c.answered t
      (rounds→ cut n (last_time s a) (end_after π true (end_after π false end v) c.second) b (rising-right s a b (rw e at r)) h))))

  pub rounds← : ((w : List Event) → Round π (p ∷ ps) qs w → One w) → (n end : ℕ) (w : List Event) → Turns X laws π n end w → Rounds One n w
  rounds← glue zero end w h = h
  rounds← glue (suc n) end w h =
      let k = seq← π false (p ∷ ps) (stages true qs ++ []) (Turns X laws π n) end w (subst (λ (l : List (Stage X)). Seq X laws π l (Turns X laws π n) end w) plan h) in
      let m = seq← π true qs [] (Turns X laws π n) (end_after π false end k.front) k.back k.rest in
      let v = k.front in
      let timely : AllTimely π true (last_time 0 v) m.front = subst (λ (x : ℕ). AllTimely π true x m.front) (end-p π end v ∙ last-any end 0 v (ordering-some p ps v k.holds)) m.timely in (
        v ++ m.front,
        m.back,
        k.parts ∙ ap (λ (l : List Event). v ++ l) m.parts ∙ sym (append_assoc v m.front m.back),
        glue (v ++ m.front) (record { first = v; second = m.front; parts = refl; ordered = k.holds; answered = m.holds; timely = timely }),
        rounds← glue n (end_after π true (end_after π false end v) m.front) m.back m.rest,
      )
