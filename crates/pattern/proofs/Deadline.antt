-- Broken: at a time from which no event of the rule's, however it goes on, leads to a match. The table of moves knows `dead`; what time adds is `pressed`: the next event has to be one that the
-- deadline binds, and it is too late for that. Where a place is not broken, a continuation is built, all of it at the time now.
-- Assumes nothing.
use mathlib.Core.Path.{◌≡◌, refl, subst}
use mathlib.Core.Logic.{◌⊎◌, inl, inr}
use mathlib.Core.Bool.{Bool, true, false, not, ◌&&◌}
use mathlib.Core.List.{List, [], ◌∷◌}
use Prim.Native.Nat.{ℕ, ◌≤◌}
use native.Mathlib.Nat.{le_refl}
use lib.Dec.{T, eqb_refl, T_not}
use Rattle.pattern.specs.Meaning.{Event, Rising}
use Rattle.pattern.proofs.Basics.{both_l, both_r, test, is_true, is_false}
use Rattle.pattern.proofs.Rounds.{Recogniser, Takes, Laws, Stage, Plan, Ending, again, release, Place, fresh, free, dead, at, Lang, timely, end_of, Until, OnNames, After, Rest, To, follows, Chain, Fits, prefix}

module _ (X : Recogniser) (L : Laws X) (π : Plan X) where
  abbrev in_time : ℕ → ℕ → Bool
  in_time = π.in_time

  abbrev pub answers : List (Stage X) → Bool
  answers [] = false
  answers (g ∷ gs) = g.after_p

  abbrev pub none : List (Stage X) → Bool
  none [] = true
  none (g ∷ gs) = false

  -- within Q, unless Q is complete, and at the end of a P that cannot grow
  abbrev pub pressed : Bool → Stage X → X.St → List (Stage X) → Bool
  pressed true g s rest = not (X.closed g.frag s && none rest)
  pressed false g s rest = answers rest && X.closed g.frag s && not (X.grows g.frag s)

  abbrev pub is_broken : Place X → ℕ → Bool
  is_broken fresh now = false
  is_broken free now = false
  is_broken dead now = true
  is_broken (at g s rest end) now = pressed g.after_p g s rest && not (in_time end now)

  module _ (earlier : (end a b : ℕ) → a ≤ b → T (in_time end b) → T (in_time end a)) (itself : (a : ℕ) → T (in_time a a)) where
    -- ---- a broken place has no continuation

    -- what follows P at once is bound by the deadline
    soon : (l : Ending) (gs : List (Stage X)) (end : ℕ) (e : Event) (w : List Event) → T (answers gs) → Rest X L π l gs end (e ∷ w) → T (in_time end e.time)
    soon l [] end e w a h = absurd a
    soon l (g ∷ gs) end e w a (inl (h, t, u)) = subst (λ (b : Bool). T (timely X L π b end e.time)) (is_true g.after_p a) t
    soon l (g ∷ gs) end e w a (inr (c, u)) = absurd (L.unbegun g.frag c)

    not_yet : (l : Ending) (gs : List (Stage X)) (end : ℕ) → T (answers gs) → Rest X L π l gs end [] → ⊥
    not_yet l [] end a h = a
    not_yet l (g ∷ gs) end a h = L.unbegun g.frag h.0

    module _ (l : Ending) (g : Stage X) (s : X.St) (rest : List (Stage X)) (end now : ℕ) (c : Chain X L π l (g ∷ rest)) (sane : L.Sane g.frag s) (late : T (not (in_time end now))) where
      abbrev closed : Bool
      closed = X.closed g.frag s

      abbrev grows : Bool
      grows = X.grows g.frag s

      too-late : (e : Event) → now ≤ e.time → T (in_time end e.time) → ⊥
      too-late e r t = T_not (in_time end now) late (earlier end now e.time r t)

      -- Q that is not complete is followed by Q
      more-q : g.after_p ≡ true → T (not (closed && none rest)) → T closed → T (answers rest)
      more-q q x k = look rest (subst (λ (b : Bool). T (follows X L π b rest)) q c.1) (subst (λ (b : Bool). T (not (b && none rest))) (is_true closed k) x)
        where
          look : (gs : List (Stage X)) → T (follows X L π true gs) → T (not (none gs)) → T (answers gs)
          look [] y z = absurd z
          look (g' ∷ gs) y z = y

      in-q : g.after_p ≡ true → T (not (closed && none rest)) → (w : List Event) → Rising now w → Until X L π (Rest X L π l rest) g s end w → ⊥
      in-q q x [] r (k, d) = not_yet l rest end (more-q q x k) d
      in-q q x (e ∷ w) r (inl (h, t, u)) = too-late e r.0 (subst (λ (b : Bool). T (timely X L π b end e.time)) q t)
      in-q q x (e ∷ w) r (inr (k, u)) = too-late e r.0 (soon l rest end e w (more-q q x k) u)

      in-p : T (answers rest && closed && not grows) → (w : List Event) → Rising now w → Until X L π (Rest X L π l rest) g s end w → ⊥
      in-p x [] r (k, d) = not_yet l rest end (both_l (answers rest) closed (both_l (answers rest && closed) (not grows) x)) d
      in-p x (e ∷ w) r (inl (h, t, u)) =
          let (v, k) = prefix X L π (Rest X L π l rest) g w (X.step g.frag s e.name) (end_of X L π g.after_p end e.time) u in
          L.ends g.frag s e.name v sane (both_r (answers rest && closed) (not grows) x) (h, k)
      in-p x (e ∷ w) r (inr (k, u)) = too-late e r.0 (soon l rest end e w (both_l (answers rest) closed (both_l (answers rest && closed) (not grows) x)) u)

      at-broken : (b : Bool) → g.after_p ≡ b → T (pressed b g s rest) → (w : List Event) → Rising now w → Until X L π (Rest X L π l rest) g s end w → ⊥
      at-broken true q x = in-q q x
      at-broken false q x = in-p x

    pub broken→ : (l : Ending) (p : Place X) (now : ℕ) (w : List Event) → Fits X L π l p → T (is_broken p now) → Rising now w → To X L π l p w → ⊥
    broken→ l fresh now w f b r h = b
    broken→ l free now w f b r h = b
    broken→ l dead now w f b r h = h
    broken→ l (at g s rest end) now w f b r h =
        let press : Bool = pressed g.after_p g s rest in
        at-broken l g s rest end now f.0 f.1 (both_r press (not (in_time end now)) b) g.after_p refl (both_l press (not (in_time end now)) b) w r h

    -- ---- any other place has one, all of it at the time now

    pub record Goes (C : Lang) (end now : ℕ) : Type 0 where
      pub w : List Event
      pub rising : Rising now w
      pub on : OnNames X L π w
      pub goes : C end w

    -- an event at the time now keeps the deadline of the stages that follow
    abbrev Kept : List (Stage X) → ℕ → ℕ → Type 0
    Kept [] end now = Unit {0}
    Kept (g ∷ gs) end now = T (timely X L π g.after_p end now)

    -- the end of P after a word at the time now
    abbrev end_after : Bool → ℕ → ℕ → List ℕ → ℕ
    end_after a end now [] = end
    end_after a end now (m ∷ v) = end_after a (end_of X L π a end now) now v

    timely-next : (a : Bool) (end now : ℕ) → T (timely X L π a end now) → T (timely X L π a (end_of X L π a end now) now)
    timely-next true end now t = t
    timely-next false end now t = t

    -- the stage ends here
    stop : (C : Lang) (g : Stage X) (s : X.St) (end now : ℕ) → T (X.closed g.frag s) → Goes C end now → Goes (Until X L π C g s) end now
    stop C g s end now k c = record { w = c.w; rising = c.rising; on = c.on; goes = close c.w c.goes }
      where
        close : (w : List Event) → C end w → Until X L π C g s end w
        close [] d = (k, d)
        close (e ∷ w) d = inr (k, d)

    -- a word of the stage, then a continuation
    through : (C : Lang) (g : Stage X) (v : List ℕ) (s : X.St) (end now : ℕ) → T (timely X L π g.after_p end now) → ((m : ℕ) → T (X.has g.frag m) → T (π.on m)) → Takes X g.frag s v
        → Goes C (end_after g.after_p end now v) now → Goes (Until X L π C g s) end now
    through C g [] s end now t o k c = stop C g s end now k c
    through C g (m ∷ v) s end now t o k c =
        let d = through C g v (X.step g.frag s m) (end_of X L π g.after_p end now) now (timely-next g.after_p end now t) o k.1 c in
        record { w = record { name = m; time = now } ∷ d.w; rising = (le_refl now, d.rising); on = (o m k.0, d.on); goes = inl (k.0, t, d.goes) }

    -- after a word of a stage the next deadline is kept
    kept_next : (a : Bool) (gs : List (Stage X)) (end now m : ℕ) (v : List ℕ) → T (timely X L π a end now) → T (follows X L π a gs) → Kept gs (end_after a end now (m ∷ v)) now
    kept_next a [] end now m v t y = tt
    kept_next a (g ∷ gs) end now m v t y = look a g.after_p t y
      where
        same : (v' : List ℕ) → end_after true end now v' ≡ end
        same [] = refl
        same (x ∷ v') = same v'

        at-now : (v' : List ℕ) → end_after false now now v' ≡ now
        at-now [] = refl
        at-now (x ∷ v') = at-now v'

        look : (a' b : Bool) → T (timely X L π a' end now) → T (follows X L π a' (g ∷ gs)) → T (timely X L π b (end_after a' (end_of X L π a' end now) now v) now)
        look a' false t' y' = tt
        look true true t' y' = rw (same v) t'
        look false true t' y' = rw (at-now v) (itself now)

    ends-live : (l : Ending) (end now : ℕ) → Chain X L π l [] → Goes (After X L π l) end now
    ends-live again end now c = record { w = []; rising = tt; on = tt; goes = (0, refl) }
    ends-live (release i) end now c = record { w = record { name = i; time = now } ∷ []; rising = (le_refl now, tt); on = (c, tt); goes = (eqb_refl i, tt) }

    seq-live : (l : Ending) (gs : List (Stage X)) (end now : ℕ) → Chain X L π l gs → Kept gs end now → Goes (Rest X L π l gs) end now
    seq-live l [] end now c k = ends-live l end now c
    seq-live l (g ∷ gs) end now c k = look (L.some g.frag) (λ end'. seq-live l gs end' now c.3)
      where
        look : (m : ℕ) × (v : List ℕ) × Takes X g.frag (X.start g.frag) (m ∷ v) → ((end' : ℕ) → Kept gs end' now → Goes (Rest X L π l gs) end' now) → Goes (Rest X L π l (g ∷ gs)) end now
        look (m, v, t) ih = through (Rest X L π l gs) g (m ∷ v) (X.start g.frag) end now k c.2 t (ih (end_after g.after_p end now (m ∷ v)) (kept_next g.after_p gs end now m v k c.1))

    module _ (l : Ending) (g : Stage X) (s : X.St) (rest : List (Stage X)) (end now : ℕ) (c : Chain X L π l (g ∷ rest)) (sane : L.Sane g.frag s) where
      -- by a word of the current stage that has an event; by none
      long : T (timely X L π g.after_p end now) → (m : ℕ) (v : List ℕ) → Takes X g.frag s (m ∷ v) → Goes (Until X L π (Rest X L π l rest) g s) end now
      long t m v k = through (Rest X L π l rest) g (m ∷ v) s end now t c.2 k (seq-live l rest (end_after g.after_p end now (m ∷ v)) now c.3 (kept_next g.after_p rest end now m v t c.1))

      short : T (X.closed g.frag s) → Kept rest end now → Goes (Until X L π (Rest X L π l rest) g s) end now
      short k h = stop (Rest X L π l rest) g s end now k (seq-live l rest end now c.3 h)

      kept : (gs : List (Stage X)) → T (not (answers gs)) ⊎ T (in_time end now) → Kept gs end now
      kept [] h = tt
      kept (g' ∷ gs) h = look g'.after_p h
        where
          look : (a : Bool) → T (not a) ⊎ T (in_time end now) → T (timely X L π a end now)
          look false h' = tt
          look true (inl x) = absurd x
          look true (inr x) = x

      -- as the stage goes on, or ends and what follows keeps the deadline
      lives : T (timely X L π g.after_p end now) → (T (X.closed g.frag s) → Kept rest end now) → Goes (Until X L π (Rest X L π l rest) g s) end now
      lives t h = look (L.live g.frag s sane)
        where
          look : (v : List ℕ) × Takes X g.frag s v → Goes (Until X L π (Rest X L π l rest) g s) end now
          look ([], k) = short k (h k)
          look (m ∷ v, k) = long t m v k

      in-p← : (b : Bool) → in_time end now ≡ b → T (timely X L π g.after_p end now) → T (not (answers rest && X.closed g.frag s && not (X.grows g.frag s) && not b))
          → Goes (Until X L π (Rest X L π l rest) g s) end now
      in-p← true q t x = lives t (λ k. kept rest (inr (rw q tt)))
      in-p← false q t x = look (test (answers rest)) (test (X.closed g.frag s)) (test (X.grows g.frag s))
        where
          look : T (answers rest) ⊎ T (not (answers rest)) → T (X.closed g.frag s) ⊎ T (not (X.closed g.frag s)) → T (X.grows g.frag s) ⊎ T (not (X.grows g.frag s))
              → Goes (Until X L π (Rest X L π l rest) g s) end now
          look (inr a) k n = lives t (λ k'. kept rest (inl a))
          look (inl a) (inr k) n = lives t (λ k'. absurd (T_not (X.closed g.frag s) k k'))
          look (inl a) (inl k) (inl n) = let (m, v, w) = L.more g.frag s sane k n in long t m v w
          look (inl a) (inl k) (inr n) = absurd (rw (is_true (answers rest) a, is_true (X.closed g.frag s) k, is_false (X.grows g.frag s) n) at x)

      in-q← : (b : Bool) → in_time end now ≡ b → g.after_p ≡ true → T (not (not (X.closed g.frag s && none rest) && not b)) → Goes (Until X L π (Rest X L π l rest) g s) end now
      in-q← true q a x = lives (rw (a, q) tt) (λ k. kept rest (inr (rw q tt)))
      in-q← false q a x = look (test (X.closed g.frag s && none rest))
        where
          last : (gs : List (Stage X)) → T (none gs) → Kept gs end now
          last [] h = tt
          last (g' ∷ gs) h = absurd h

          look : T (X.closed g.frag s && none rest) ⊎ T (not (X.closed g.frag s && none rest)) → Goes (Until X L π (Rest X L π l rest) g s) end now
          look (inl h) = short (both_l (X.closed g.frag s) (none rest) h) (last rest (both_r (X.closed g.frag s) (none rest) h))
          look (inr h) = absurd (rw (is_false (X.closed g.frag s && none rest) h) at x)

      at-live : (a : Bool) → g.after_p ≡ a → T (not (pressed a g s rest && not (in_time end now))) → Goes (Until X L π (Rest X L π l rest) g s) end now
      at-live true q x = in-q← (in_time end now) refl q x
      at-live false q x = in-p← (in_time end now) refl (rw q tt) x

    -- a place that is not broken has a continuation
    pub broken← : (l : Ending) (p : Place X) (now : ℕ) → Fits X L π l p → T (not (is_broken p now)) → Goes (λ end w. To X L π l p w) 0 now
    broken← l fresh now f b = record { w = []; rising = tt; on = tt; goes = inl refl }
    broken← l free now f b = record { w = []; rising = tt; on = tt; goes = tt }
    broken← l dead now f b = absurd b
    broken← l (at g s rest end) now f b = let c = at-live l g s rest end now f.0 f.1 g.after_p refl b in record { w = c.w; rising = c.rising; on = c.on; goes = c.goes }
