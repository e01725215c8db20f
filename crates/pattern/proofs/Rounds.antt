-- Rounds of stages, over any recogniser of fragments. A stage is a fragment of P or of Q (the trigger's counts as one of Q). What is left to come after some events
-- is a language of the events to come, `To`; the step that one event makes in it is `go`; and a language with no rest, `whole`. Joins, bounds and states of ranges don't occur here,
-- and time only in one test, `in_time end now`.
-- Assumes nothing.
use mathlib.Core.Path.{◌≡◌, refl, sym}
use mathlib.Core.Logic.{◌⊎◌, inl, inr}
use mathlib.Core.Bool.{Bool, true, false, cond, not, ◌&&◌}
use mathlib.Core.List.{List, [], ◌∷◌, ◌++◌, nil≢cons}
use Prim.Native.Nat.{ℕ, zero, suc}
use lib.Dec.{T, eqb}
use Rattle.pattern.specs.Lists.{Each}
use Rattle.pattern.specs.Meaning.{Event}
use Rattle.pattern.proofs.Basics.{both, both_l, both_r, test}

-- ---- a recogniser of fragments, and what is asked of it

pub record Recogniser : Type 1 where
  pub Frag : Type 0
  pub St : Type 0
  pub has : Frag → ℕ → Bool
  pub start : Frag → St
  pub step : Frag → St → ℕ → St
  -- may be followed; has no error; can take one event more
  pub closed : Frag → St → Bool
  pub good : Frag → St → Bool
  pub grows : Frag → St → Bool

module _ (X : Recogniser) where
  -- the word is on the fragment's names, and the fragment may be followed after it
  abbrev pub Takes : X.Frag → X.St → List ℕ → Type 0
  Takes f s [] = T (X.closed f s)
  Takes f s (m ∷ w) = T (X.has f m) × Takes f (X.step f s m) w

  pub record Laws : Type 1 where
    -- what holds of the states that events without error lead to
    pub Sane : X.Frag → X.St → Type 0
    pub first : (f : X.Frag) (m : ℕ) → T (X.has f m) → Sane f (X.step f (X.start f) m)
    pub next : (f : X.Frag) (s : X.St) (m : ℕ) → Sane f s → T (X.has f m) → T (X.good f (X.step f s m)) → Sane f (X.step f s m)
    pub bad : (f : X.Frag) (s : X.St) (w : List ℕ) → T (not (X.good f s)) → Takes f s w → ⊥
    pub some : (f : X.Frag) → (m : ℕ) × (w : List ℕ) × Takes f (X.start f) (m ∷ w)
    pub unbegun : (f : X.Frag) → T (X.closed f (X.start f)) → ⊥
    pub live : (f : X.Frag) (s : X.St) → Sane f s → (w : List ℕ) × Takes f s w
    pub ends : (f : X.Frag) (s : X.St) (m : ℕ) (w : List ℕ) → Sane f s → T (not (X.grows f s)) → Takes f s (m ∷ w) → ⊥
    pub more : (f : X.Frag) (s : X.St) → Sane f s → T (X.closed f s) → T (X.grows f s) → (m : ℕ) × (w : List ℕ) × Takes f s (m ∷ w)

  pub record Stage : Type 0 where
    pub frag : X.Frag
    pub after_p : Bool

  -- the round of a rule, its names and its test of time
  pub record Plan : Type 0 where
    pub first : Stage
    pub others : List Stage
    pub on : ℕ → Bool
    pub in_time : ℕ → ℕ → Bool

-- how a round ends: the next begins, or the event i releases the rule
pub data Ending : Type 0 where
  again : Ending
  release : (i : ℕ) → Ending

-- where a rule stands: nothing has come; within a stage, with those after it and the end of P so far; released; broken
pub data Place (X : Recogniser) : Type 0 where
  fresh free dead : Place X
  at : (g : Stage X) (s : X.St) (rest : List (Stage X)) (end : ℕ) → Place X

-- a language of events to come, after a P that ended at a time
abbrev pub Lang : Type 1
Lang = ℕ → List Event → Type 0

module _ (X : Recogniser) (L : Laws X) (π : Plan X) where
  abbrev pub round : List (Stage X)
  round = π.first ∷ π.others

  -- an event of a stage is in time, and what the end of P is after it
  abbrev pub timely : Bool → ℕ → ℕ → Bool
  timely false end now = true
  timely true end now = π.in_time end now

  abbrev pub end_of : Bool → ℕ → ℕ → ℕ
  end_of false end now = now
  end_of true end now = end

  -- a word of the stage g from the state s, and then a word of C
  abbrev pub Until : Lang → Stage X → X.St → Lang
  Until C g s end [] = T (X.closed g.frag s) × C end []
  Until C g s end (e ∷ w) =
      (T (X.has g.frag e.name) × T (timely g.after_p end e.time) × Until C g (X.step g.frag s e.name) (end_of g.after_p end e.time) w)
      ⊎ (T (X.closed g.frag s) × C end (e ∷ w))

  abbrev pub Seq : List (Stage X) → Lang → Lang
  Seq [] K = K
  Seq (g ∷ gs) K = Until (Seq gs K) g (X.start g.frag)

  abbrev pub Turns : ℕ → Lang
  Turns zero end w = w ≡ []
  Turns (suc n) end w = Seq round (Turns n) end w

  abbrev pub Repeat : Lang
  Repeat end w = (n : ℕ) × Turns n end w

  map-until : (C D : Lang) → ((end : ℕ) (w : List Event) → C end w → D end w) → (g : Stage X) (s : X.St) (end : ℕ) (w : List Event) → Until C g s end w → Until D g s end w
  map-until C D f g s end [] (c, d) = (c, f end [] d)
  map-until C D f g s end (e ∷ w) (inl (h, t, u)) = inl (h, t, map-until C D f g (X.step g.frag s e.name) (end_of g.after_p end e.time) w u)
  map-until C D f g s end (e ∷ w) (inr (c, d)) = inr (c, f end (e ∷ w) d)

  map-seq : (C D : Lang) → ((end : ℕ) (w : List Event) → C end w → D end w) → (gs : List (Stage X)) (end : ℕ) (w : List Event) → Seq gs C end w → Seq gs D end w
  map-seq C D f [] end w h = f end w h
  map-seq C D f (g ∷ gs) end w h = map-until (Seq gs C) (Seq gs D) (map-seq C D f gs) g (X.start g.frag) end w h

  pull-until : (C : ℕ → Lang) (g : Stage X) (s : X.St) (end : ℕ) (w : List Event) → Until (λ end' w'. (n : ℕ) × C n end' w') g s end w → (n : ℕ) × Until (C n) g s end w
  pull-until C g s end [] (c, (n, d)) = (n, (c, d))
  pull-until C g s end (e ∷ w) (inl (h, t, u)) = let (n, v) = pull-until C g (X.step g.frag s e.name) (end_of g.after_p end e.time) w u in (n, inl (h, t, v))
  pull-until C g s end (e ∷ w) (inr (c, (n, d))) = (n, inr (c, d))

  pull-seq : (C : ℕ → Lang) (gs : List (Stage X)) (end : ℕ) (w : List Event) → Seq gs (λ end' w'. (n : ℕ) × C n end' w') end w → (n : ℕ) × Seq gs (C n) end w
  pull-seq C [] end w h = h
  pull-seq C (g ∷ gs) end w h =
      let pulled = map-until (Seq gs (λ end' w'. (n : ℕ) × C n end' w')) (λ end' w'. (n : ℕ) × Seq gs (C n) end' w') (pull-seq C gs) g (X.start g.frag) end w h in
      pull-until (λ n. Seq gs (C n)) g (X.start g.frag) end w pulled

  -- rounds are nothing, or a round and then rounds
  pub repeat→ : (end : ℕ) (w : List Event) → Repeat end w → (w ≡ []) ⊎ Seq round Repeat end w
  repeat→ end w (zero, h) = inl h
  repeat→ end w (suc n, h) = inr (map-seq (Turns n) Repeat (λ end' w' h'. (n, h')) round end w h)

  pub repeat← : (end : ℕ) (w : List Event) → (w ≡ []) ⊎ Seq round Repeat end w → Repeat end w
  repeat← end w (inl h) = (0, h)
  repeat← end w (inr h) = let (n, k) = pull-seq Turns round end w h in (suc n, k)

  -- ---- what may come

  abbrev pub OnNames : List Event → Type 0
  OnNames = Each (λ (e : Event). T (π.on e.name))

  abbrev pub Triggered : ℕ → List Event → Type 0
  Triggered i [] = ⊥
  Triggered i (e ∷ w) = T (eqb e.name i) × OnNames w

  -- after a round
  abbrev pub After : Ending → Lang
  After again end w = Repeat end w
  After (release i) end w = Triggered i w

  abbrev pub Rest : Ending → List (Stage X) → Lang
  Rest l gs = Seq gs (After l)

  abbrev pub To : Ending → Place X → List Event → Type 0
  To l fresh w = (w ≡ []) ⊎ Rest l round 0 w
  To l free w = OnNames w
  To l dead w = ⊥
  To l (at g s rest end) w = Until (Rest l rest) g s end w

  -- ---- the step of one event

  abbrev pub begin : Stage X → List (Stage X) → ℕ → Event → Place X
  begin g gs end e =
      cond (X.has g.frag e.name && timely g.after_p end e.time)
      (at g (X.step g.frag (X.start g.frag) e.name) gs (end_of g.after_p end e.time))
      dead

  abbrev pub turn : Ending → ℕ → Event → Place X
  turn again end e = begin π.first π.others end e
  turn (release i) end e = cond (eqb e.name i) free dead

  abbrev pub enter : Ending → List (Stage X) → ℕ → Event → Place X
  enter l [] end e = turn l end e
  enter l (g ∷ gs) end e = begin g gs end e

  abbrev pub inside : Stage X → X.St → List (Stage X) → ℕ → Event → Place X
  inside g s rest end e =
      cond (timely g.after_p end e.time && X.good g.frag s)
      (at g s rest (end_of g.after_p end e.time))
      dead

  abbrev pub go : Ending → Place X → Event → Place X
  go l fresh e = begin π.first π.others 0 e
  go l free e = cond (π.on e.name) free dead
  go l dead e = dead
  go l (at g s rest end) e =
      cond (X.has g.frag e.name)
      (inside g (X.step g.frag s e.name) rest end e)
      (cond (X.closed g.frag s) (enter l rest end e) dead)

  -- ---- what holds of the stages of a rule, and of each place that it comes to

  abbrev pub BeginsLast : Ending → ℕ → Type 0
  BeginsLast again m = T (X.has π.first.frag m)
  BeginsLast (release i) m = T (eqb m i)

  abbrev pub Begins : Ending → List (Stage X) → ℕ → Type 0
  Begins l [] m = BeginsLast l m
  Begins l (g ∷ gs) m = T (X.has g.frag m)

  -- no name of the stage begins what follows it
  abbrev pub Apart : Ending → Stage X → List (Stage X) → Type 0
  Apart l g gs = (m : ℕ) → T (X.has g.frag m) → Begins l gs m → ⊥

  -- after a stage of Q comes no stage of P in the round
  abbrev pub follows : Bool → List (Stage X) → Bool
  follows a [] = true
  follows false (g ∷ gs) = true
  follows true (g ∷ gs) = g.after_p

  abbrev pub Chain : Ending → List (Stage X) → Type 0
  Chain again [] = Unit {0}
  Chain (release i) [] = T (π.on i)
  Chain l (g ∷ gs) = Apart l g gs × T (follows g.after_p gs) × ((m : ℕ) → T (X.has g.frag m) → T (π.on m)) × Chain l gs

  abbrev pub Fits : Ending → Place X → Type 0
  Fits l fresh = Unit {0}
  Fits l free = Unit {0}
  Fits l dead = Unit {0}
  Fits l (at g s rest end) = Chain l (g ∷ rest) × L.Sane g.frag s

  -- ---- the step is right: what may come after the event is what may come where it leads

  to-cond : (l : Ending) (b : Bool) (x : Place X) (w : List Event) → T b → To l x w → To l (cond b x dead) w
  to-cond l true x w t h = h
  to-cond l false x w t h = absurd t

  cond-to : (l : Ending) (b : Bool) (x : Place X) (w : List Event) → To l (cond b x dead) w → T b × To l x w
  cond-to l true x w h = (tt, h)
  cond-to l false x w h = absurd h

  after-begins : (l : Ending) (end : ℕ) (e : Event) (w : List Event) → After l end (e ∷ w) → BeginsLast l e.name
  after-begins again end e w (zero, h) = absurd (nil≢cons (sym h))
  after-begins again end e w (suc n, inl (h, t, u)) = h
  after-begins again end e w (suc n, inr (c, u)) = absurd (L.unbegun π.first.frag c)
  after-begins (release i) end e w h = h.0

  rest-begins : (l : Ending) (gs : List (Stage X)) (end : ℕ) (e : Event) (w : List Event) → Rest l gs end (e ∷ w) → Begins l gs e.name
  rest-begins l [] end e w h = after-begins l end e w h
  rest-begins l (g ∷ gs) end e w (inl (h, t, u)) = h
  rest-begins l (g ∷ gs) end e w (inr (c, u)) = absurd (L.unbegun g.frag c)

  module _ (l : Ending) (g : Stage X) (gs : List (Stage X)) (end : ℕ) (e : Event) (w : List Event) where
    abbrev named : Bool
    named = X.has g.frag e.name

    abbrev intime : Bool
    intime = timely g.after_p end e.time

    abbrev there : Place X
    there = at g (X.step g.frag (X.start g.frag) e.name) gs (end_of g.after_p end e.time)

    begin→ : Rest l (g ∷ gs) end (e ∷ w) → To l (begin g gs end e) w
    begin→ (inl (h, t, u)) = to-cond l (named && intime) there w (both named intime h t) u
    begin→ (inr (c, u)) = absurd (L.unbegun g.frag c)

    begin← : To l (begin g gs end e) w → Rest l (g ∷ gs) end (e ∷ w)
    begin← h = let (b, u) = cond-to l (named && intime) there w h in inl (both_l named intime b, both_r named intime b, u)

  turn→ : (l : Ending) (end : ℕ) (e : Event) (w : List Event) → After l end (e ∷ w) → To l (turn l end e) w
  turn→ again end e w h = look (repeat→ end (e ∷ w) h)
    where
      look : (e ∷ w ≡ []) ⊎ Seq round Repeat end (e ∷ w) → To again (turn again end e) w
      look (inl z) = absurd (nil≢cons (sym z))
      look (inr u) = begin→ again π.first π.others end e w u
  turn→ (release i) end e w (h, o) = to-cond (release i) (eqb e.name i) free w h o

  turn← : (l : Ending) (end : ℕ) (e : Event) (w : List Event) → To l (turn l end e) w → After l end (e ∷ w)
  turn← again end e w h = repeat← end (e ∷ w) (inr (begin← again π.first π.others end e w h))
  turn← (release i) end e w h = cond-to (release i) (eqb e.name i) free w h

  enter→ : (l : Ending) (gs : List (Stage X)) (end : ℕ) (e : Event) (w : List Event) → Rest l gs end (e ∷ w) → To l (enter l gs end e) w
  enter→ l [] end e w h = turn→ l end e w h
  enter→ l (g ∷ gs) end e w h = begin→ l g gs end e w h

  enter← : (l : Ending) (gs : List (Stage X)) (end : ℕ) (e : Event) (w : List Event) → To l (enter l gs end e) w → Rest l gs end (e ∷ w)
  enter← l [] end e w h = turn← l end e w h
  enter← l (g ∷ gs) end e w h = begin← l g gs end e w h

  -- the part of a word that the stage takes
  pub prefix : (C : Lang) (g : Stage X) (w : List Event) (s : X.St) (end : ℕ) → Until C g s end w → (v : List ℕ) × Takes X g.frag s v
  prefix C g [] s end (c, d) = ([], c)
  prefix C g (e ∷ w) s end (inl (h, t, u)) = let (v, k) = prefix C g w (X.step g.frag s e.name) (end_of g.after_p end e.time) u in (e.name ∷ v, (h, k))
  prefix C g (e ∷ w) s end (inr (c, d)) = ([], c)

  -- a state with an error takes nothing
  good-until : (C : Lang) (g : Stage X) (w : List Event) (s : X.St) (end : ℕ) → Until C g s end w → T (X.good g.frag s)
  good-until C g w s end u = look (test (X.good g.frag s)) (prefix C g w s end u)
    where
      look : T (X.good g.frag s) ⊎ T (not (X.good g.frag s)) → (v : List ℕ) × Takes X g.frag s v → T (X.good g.frag s)
      look (inl t) p = t
      look (inr t) (v, k) = absurd (L.bad g.frag s v t k)

  module _ (l : Ending) (g : Stage X) (s : X.St) (rest : List (Stage X)) (end : ℕ) (e : Event) (w : List Event) where
    abbrev s' : X.St
    s' = X.step g.frag s e.name

    abbrev fine : Bool
    fine = timely g.after_p end e.time && X.good g.frag s'

    abbrev on-there : Place X
    on-there = at g s' rest (end_of g.after_p end e.time)

    at→ : (b : Bool) → X.has g.frag e.name ≡ b → Chain l (g ∷ rest) → To l (at g s rest end) (e ∷ w) → To l (go l (at g s rest end) e) w
    at→ true q c (inl (x, t, u)) = rw q (to-cond l fine on-there w (both (timely g.after_p end e.time) (X.good g.frag s') t (good-until (Rest l rest) g w s' (end_of g.after_p end e.time) u)) u)
    at→ true q c (inr (k, u)) = absurd (c.0 e.name (rw q tt) (rest-begins l rest end e w u))
    at→ false q c (inl (x, t, u)) = absurd (rw q at x)
    at→ false q c (inr (k, u)) = rw q (to-cond l (X.closed g.frag s) (enter l rest end e) w k (enter→ l rest end e w u))

    at← : (b : Bool) → X.has g.frag e.name ≡ b → To l (go l (at g s rest end) e) w → To l (at g s rest end) (e ∷ w)
    at← true q h = let (b, u) = cond-to l fine on-there w (rw q at h) in inl (rw q tt, both_l (timely g.after_p end e.time) (X.good g.frag s') b, u)
    at← false q h = let (k, u) = cond-to l (X.closed g.frag s) (enter l rest end e) w (rw q at h) in inr (k, enter← l rest end e w u)

  step→ : (l : Ending) (p : Place X) (e : Event) (w : List Event) → Fits l p → To l p (e ∷ w) → To l (go l p e) w
  step→ l fresh e w f (inl h) = absurd (nil≢cons (sym h))
  step→ l fresh e w f (inr h) = begin→ l π.first π.others 0 e w h
  step→ l free e w f (h, o) = to-cond l (π.on e.name) free w h o
  step→ l dead e w f h = h
  step→ l (at g s rest end) e w f h = at→ l g s rest end e w (X.has g.frag e.name) refl f.0 h

  step← : (l : Ending) (p : Place X) (e : Event) (w : List Event) → To l (go l p e) w → To l p (e ∷ w)
  step← l fresh e w h = inr (begin← l π.first π.others 0 e w h)
  step← l free e w h = cond-to l (π.on e.name) free w h
  step← l dead e w h = h
  step← l (at g s rest end) e w h = at← l g s rest end e w (X.has g.frag e.name) refl h

  -- ---- each place that the rule comes to fits

  cond-fits : (l : Ending) (b : Bool) (x : Place X) → (T b → Fits l x) → Fits l (cond b x dead)
  cond-fits l true x h = h tt
  cond-fits l false x h = tt

  begin-fits : (l : Ending) (g : Stage X) (gs : List (Stage X)) (end : ℕ) (e : Event) → Chain l (g ∷ gs) → Fits l (begin g gs end e)
  begin-fits l g gs end e c =
      let named : Bool = X.has g.frag e.name in
      let timed : Bool = timely g.after_p end e.time in
      let s : X.St = X.step g.frag (X.start g.frag) e.name in
      cond-fits l (named && timed) (at g s gs (end_of g.after_p end e.time)) (λ b. (c, L.first g.frag e.name (both_l named timed b)))

  enter-fits : (l : Ending) (gs : List (Stage X)) (end : ℕ) (e : Event) → Chain l round → Chain l gs → Fits l (enter l gs end e)
  enter-fits again [] end e c d = begin-fits again π.first π.others end e c
  enter-fits (release i) [] end e c d = cond-fits (release i) (eqb e.name i) free (λ b. tt)
  enter-fits l (g ∷ gs) end e c d = begin-fits l g gs end e d

  pub go-fits : (l : Ending) (p : Place X) (e : Event) → Chain l round → Fits l p → Fits l (go l p e)
  go-fits l fresh e c f = begin-fits l π.first π.others 0 e c
  go-fits l free e c f = cond-fits l (π.on e.name) free (λ b. tt)
  go-fits l dead e c f = tt
  go-fits l (at g s rest end) e c f = look (X.has g.frag e.name) refl
    where
      look : (b : Bool) → X.has g.frag e.name ≡ b → Fits l (go l (at g s rest end) e)
      look true q =
          let timed : Bool = timely g.after_p end e.time in
          let s' : X.St = X.step g.frag s e.name in
          rw q (cond-fits l (timed && X.good g.frag s') (at g s' rest (end_of g.after_p end e.time)) (λ b. (f.0, L.next g.frag s e.name f.1 (rw q tt) (both_r timed (X.good g.frag s') b))))
      look false q = rw q (cond-fits l (X.closed g.frag s) (enter l rest end e) (λ b. enter-fits l rest end e c f.0.3))

  abbrev pub run : Ending → Place X → List Event → Place X
  run l p [] = p
  run l p (e ∷ es) = run l (go l p e) es

  pub run-append : (l : Ending) (p : Place X) (a b : List Event) → run l p (a ++ b) ≡ run l (run l p a) b
  run-append l p [] b = refl
  run-append l p (e ∷ a) b = run-append l (go l p e) a b

  pub run_fits : (l : Ending) (p : Place X) (es : List Event) → Chain l round → Fits l p → Fits l (run l p es)
  run_fits l p [] c f = f
  run_fits l p (e ∷ es) c f = run_fits l (go l p e) es c (go-fits l p e c f)

  pub run→ : (l : Ending) (p : Place X) (es w : List Event) → Chain l round → Fits l p → To l p (es ++ w) → To l (run l p es) w
  run→ l p [] w c f h = h
  run→ l p (e ∷ es) w c f h = run→ l (go l p e) es w c (go-fits l p e c f) (step→ l p e (es ++ w) f h)

  pub run← : (l : Ending) (p : Place X) (es w : List Event) → To l (run l p es) w → To l p (es ++ w)
  run← l p [] w h = h
  run← l p (e ∷ es) w h = step← l p e (es ++ w) (run← l (go l p e) es w h)

  -- ---- whole: nothing more has to come

  abbrev pub ended : Ending → List (Stage X) → Bool
  ended again [] = true
  ended (release i) [] = false
  ended l (g ∷ gs) = false

  abbrev pub is_whole : Ending → Place X → Bool
  is_whole l fresh = true
  is_whole l free = true
  is_whole l dead = false
  is_whole l (at g s rest end) = X.closed g.frag s && ended l rest

  ended→ : (l : Ending) (rest : List (Stage X)) (end : ℕ) → T (ended l rest) → Rest l rest end []
  ended→ again [] end u = (0, refl)
  ended→ (release i) [] end u = u
  ended→ l (g ∷ gs) end u = absurd u

  ended← : (l : Ending) (rest : List (Stage X)) (end : ℕ) → Rest l rest end [] → T (ended l rest)
  ended← again [] end u = tt
  ended← (release i) [] end u = u
  ended← l (g ∷ gs) end u = absurd (L.unbegun g.frag u.0)

  pub whole→ : (l : Ending) (p : Place X) → T (is_whole l p) → To l p []
  whole→ l fresh t = inl refl
  whole→ l free t = tt
  whole→ l dead t = t
  whole→ l (at g s rest end) t = (both_l (X.closed g.frag s) (ended l rest) t, ended→ l rest end (both_r (X.closed g.frag s) (ended l rest) t))

  pub whole← : (l : Ending) (p : Place X) → To l p [] → T (is_whole l p)
  whole← l fresh h = tt
  whole← l free h = tt
  whole← l dead h = h
  whole← l (at g s rest end) (c, d) = both (X.closed g.frag s) (ended l rest) c (ended← l rest end d)
