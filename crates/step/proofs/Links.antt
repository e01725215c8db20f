-- One rule over a table that has it is the model's rule: an event moves a state that shows the model's into one that shows what the model makes of it, and the standing is the model's status.
-- Of a rule that breaks only that is said, since its state is not looked at any more.
-- Assumes nothing.
use mathlib.Core.Path.{◌≡◌, refl, sym, ◌∙◌, ap, ap₂, subst}
use mathlib.Core.Bool.{Bool, true, false, cond, not, ◌&&◌, and-false}
use mathlib.Core.List.{List}
use Prim.Native.Nat.{ℕ, ◌+◌, ◌≤◌, ◌<◌}
use native.Mathlib.Nat.{mod-eq_of_lt}
use native.Mathlib.Omega.{arith}
use lib.Dec.{T, ltb, eqb, not_T}
use lib.ListN.{length, get_or, replicate}
use borrow.Author.Tests.{lt-leb, eq-eqb, ne_eqb, eqb-true, eqb-false}
use Rattle.pattern.specs.Lists.{In, is_in, any_of}
use Rattle.pattern.specs.Meaning.{Event, Range, Join, Kind, once, repeated, timed, Rule, names_of}
use Rattle.pattern.specs.Recogniser.{State, unbegun, next, other, move, is_unbegun, is_error, Slot, not_begun, within, erred, complete}
use Rattle.pattern.specs.Model.{round_of, in_time, is_once, fragment_at, has, following, after_p, slots_of, join_of, fresh, released, late, class_of, begin, stay, step, at_rest, pressed}
use Rattle.pattern.specs.Model as M
use Rattle.pattern.proofs.Basics.{either_r, is_true, is_false, any←}
use Rattle.pattern.proofs.Running.{slot}
use Rattle.pattern.proofs.Fragment.{Checked}
use Rattle.pattern.proofs.Keeps.{Erred, stays-erred, moves-same, tallies-same, errs-at, late-errs, foreign-errs, passing-is, incomplete-errs}
use Rattle.layout.specs.Layout.{time_of}
use Rattle.layout.specs.Pages.{range_at}
use Rattle.rule_state.specs.declared.RuleState.{RuleState}
use Rattle.tables.specs.Cells.{cell_at, is_timed, preceding, Cell, HoldsRule, limit_of}
use Rattle.deadline.specs.Deadlines.{overdue_of, late_of}
use Rattle.step.specs.declared.Standing.TheVariants.{Whole}
use Rattle.step.specs.declared.Stepped.{Stepped}
use Rattle.step.specs.declared.Seen.TheVariants.{Error}
use Rattle.step.specs.declared.Ready.{Ready}
use Rattle.step.specs.Steps.{is_at, ready_as, inside_of, follows_of, outside_of, seen_of, step_of, cell_in, act_of}
use Rattle.step.specs.Shows.{InPlay, waits, counts, closed, Counting, Shows, untouched, freed, begun, running}
use Rattle.step.proofs.Sound.{Sound}
use Rattle.step.proofs.Indices.{fresh-length, fresh_at, slot-at}
use Rattle.step.proofs.Columns as K
use Rattle.step.proofs.Flags.{clash, not-leb, late_is, preceding-is, follow-inside, following-is}
use Rattle.step.proofs.Settled.{Linked, erred-linked}
use Rattle.step.proofs.Moving.{has-it}
use Rattle.step.proofs.Taking.{opens_by, begin-linked}
use Rattle.step.proofs.Within.{inside-linked}

-- the first range of a rule to which nothing has come
first_slot : {rule : Rule} → Sound rule → In (slot (range_at rule 0 0) unbegun 0) (slots_of rule (fresh rule))
first_slot {rule} sound =
    subst (λ (s : State). In (slot (range_at rule 0 0) s 0) (slots_of rule (fresh rule))) (fresh_at rs 8 0 few some)
    (slot-at rs (not_begun rs 8) (replicate 8 0) 0 (record { states = subst (λ (m : ℕ). length rs ≤ m) (sym (fresh-length rs 8)) few; counts = few }) some)
  where
    rs : List Range
    rs = (fragment_at rule 0).ranges

    inside : 0 < length (round_of rule)
    inside = omega (arith, sound.after)

    few : length (fragment_at rule 0).ranges ≤ 8
    few = (sound.count 0 inside).1

    some : 0 < length (fragment_at rule 0).ranges
    some = (sound.count 0 inside).0

module _ {table : List ℕ} {r : ℕ} {rule : Rule} (h : HoldsRule table r rule) (sound : Sound rule) (time : ℕ) where
  abbrev size : ℕ → ℕ
  size n = length (fragment_at rule n).ranges

  cell-of : (n i name : ℕ) → n < length (round_of rule) → i < size n → name ≡ (range_at rule n i).name → Cell rule n i (cell_in table r name)
  cell-of n i name hn hi e =
      let small : name < 64 = subst (λ (m : ℕ). m < 64) (sym e) (sound.small n i hn hi) in
      subst (λ (m : ℕ). Cell rule n i (get_or table (cell_at r m) 0)) (sym e ∙ sym (mod-eq_of_lt small)) (h.cell n i hn hi)

  -- ---- a state at which a fragment has begun

  module _ {st : RuleState} {S : M.RuleState} (w : Counting rule st S) where
    abbrev ck : Checked
    ck = K.checked sound w

    unfree : T (not (released rule S))
    unfree = rw w.unfree tt

    -- an event on range i of fragment g

    module _ {name g i : ℕ} (hg : g < length (round_of rule)) (hi : i < size g) (e : name ≡ (range_at rule g i).name) where
      abbrev C' : ℕ
      C' = cell_in table r name

      abbrev E' : Event
      E' = record { name = name; time = time }

      abbrev after' : M.RuleState
      after' = step rule S (record { name = name; time = time })

      cell-c : Cell rule g i (cell_in table r name)
      cell-c = cell-of g i name hg hi e

      late-here : late_of (cell_in table r name) (limit_of table r) st.end time ≡ (after_p rule g && not (in_time rule.kind S.end time))
      late-here = late_is cell-c (limit_of table r) st.end time h.limit ∙ ap (λ (x : ℕ). after_p rule g && not (in_time rule.kind x time)) w.end

      -- the first range of a fragment that has begun is neither idle nor not begun
      first : (get_or st.states 0 0 ≡ 1 → ⊥) × (get_or st.states 0 0 ≡ 0 → ⊥)
      first = look (w.ranges.each 0 (sound.count S.fragment w.inside).0)
        where
          look : {j : Join} {r : Range} {state count : ℕ} → InPlay j r state count → (state ≡ 1 → ⊥) × (state ≡ 0 → ⊥)
          look (waits z y) = (λ q. omega (arith, z, q), λ q. omega (arith, z, q))
          look (counts z y) = (λ q. omega (arith, z, q), λ q. omega (arith, z, q))
          look (closed z y) = (λ q. omega (arith, z, q), λ q. omega (arith, z, q))

      abbrev late_here : Bool
      late_here = after_p rule g && not (in_time rule.kind S.end time)

      at-is : is_at C' st ≡ eqb g S.fragment
      unfolding is_at
      at-is = rw (ne_eqb (get_or st.states 0 0) 1 first.0, cell-c.fragment, w.fragment)

      -- how the event is seen, where it is not late
      abbrev seen_here : Bool → Ready
      seen_here same = cond same (inside_of C' st) (outside_of C' st)

      act-is : act_of table r st name time ≡ step_of C' st time (cond late_here (ready_as Error st) (seen_here (eqb g S.fragment)))
      unfolding act_of seen_of
      act-is = rw (ne_eqb (get_or st.states 0 0) 0 first.1, late-here, at-is)

      here : T (has rule g name)
      here = has-it sound hg hi e

      -- not of the fragment at which the rule stands
      module _ (away : g ≡ S.fragment → ⊥) where
        gone : T (not (has rule S.fragment name))
        gone = not_T (has rule S.fragment name) (λ t. away (sound.apart g S.fragment name hg w.inside here t))

        strange : (g ≡ following rule S.fragment → ⊥) → Erred rule after'
        strange d = foreign-errs rule S ck refl (K.sane sound w) unfree E' gone
            (not_T (has rule (following rule S.fragment) name) (λ t. d (sound.apart g (following rule S.fragment) name hg (follow-inside sound S.fragment w.inside) here t)))

      late-errs' : T (after_p rule g && not (in_time rule.kind S.end time)) → Erred rule after'
      late-errs' t = look (eqb g S.fragment) refl (eqb g (following rule S.fragment)) refl
        where
          Late : ℕ → Type 0
          Late m = T (after_p rule m && not (in_time rule.kind S.end time))

          errs : T (late rule S E') → Erred rule after'
          errs l = late-errs rule S ck refl (K.sane sound w) unfree E' l

          look : (a : Bool) → eqb g S.fragment ≡ a → (b : Bool) → eqb g (following rule S.fragment) ≡ b → Erred rule after'
          look true qa b qb =
              let z : g ≡ S.fragment = eqb-true g S.fragment qa in
              errs (rw (is_true (has rule S.fragment name) (subst (λ (m : ℕ). T (has rule m name)) z here)) (subst Late z t))
          look false qa true qb =
              let z : g ≡ following rule S.fragment = eqb-true g (following rule S.fragment) qb in
              errs (rw (is_false (has rule S.fragment name) (gone (eqb-false g S.fragment qa))) (subst Late z t))
          look false qa false qb = strange (eqb-false g S.fragment qa) (eqb-false g (following rule S.fragment) qb)

      module _ (punctual : (after_p rule g && not (in_time rule.kind S.end time)) ≡ false) where
        on-time : after_p rule g ≡ true → in_time rule.kind S.end time ≡ true
        on-time q = look (after_p rule g) q (in_time rule.kind S.end time) punctual
          where
            look : (a : Bool) → a ≡ true → (b : Bool) → (a && not b) ≡ false → b ≡ true
            look true z true y = refl
            look true z false y = clash (sym y)
            look false z b y = clash z

        -- of the fragment at which the rule stands
        stays : g ≡ S.fragment → Linked rule time (step_of C' st time (inside_of C' st)) after'
        stays z =
            inside-linked sound time w (subst (λ (m : ℕ). i < size m) z hi) (e ∙ ap (λ (m : ℕ). (range_at rule m i).name) z) (subst (λ (m : ℕ). Cell rule m i C') z cell-c)
            (subst (λ (m : ℕ). after_p rule m ≡ true → in_time rule.kind S.end time ≡ true) z on-time)

        follows_is : follows_of C' st ≡ (eqb (preceding rule g) S.fragment && complete (join_of rule S) (slots_of rule S))
        unfolding follows_of
        follows_is = rw (ne_eqb (get_or st.states 0 0) 1 first.0, cell-c.before, w.fragment, K.complete-is sound w)

        -- of another
        onward : (g ≡ S.fragment → ⊥) → Linked rule time (step_of C' st time (outside_of C' st)) after'
        unfolding outside_of
        onward away = rw follows_is (look (eqb (preceding rule g) S.fragment) refl (complete (join_of rule S) (slots_of rule S)) refl)
          where
            look : (a : Bool) → eqb (preceding rule g) S.fragment ≡ a → (b : Bool) → complete (join_of rule S) (slots_of rule S) ≡ b
                → Linked rule time (step_of C' st time (cond (a && b) (opens_by C' st) (ready_as Error st))) after'
            look false qa b qb = erred-linked rule time st after' (strange away (λ z. eqb-false (preceding rule g) S.fragment qa (ap (preceding rule) z ∙ preceding-is sound S.fragment w.inside)))
            look true qa b qb = go b qb
              where
                f-is : following rule S.fragment ≡ g
                f-is = ap (following rule) (sym (eqb-true (preceding rule g) S.fragment qa)) ∙ following-is sound g hg

                there : T (has rule (following rule S.fragment) name)
                there = subst (λ (m : ℕ). T (has rule m name)) (sym f-is) here

                not_late : T (not (late rule S E'))
                not_late = rw (is_false (has rule S.fragment name) (gone away), f-is, punctual) tt

                begins : complete (join_of rule S) (slots_of rule S) ≡ true → after' ≡ begin rule g st.end E'
                begins q = passing-is rule S ck refl (K.sane sound w) unfree E' (gone away) not_late there (rw q tt) ∙ ap₂ (λ (m x : ℕ). begin rule m x E') f-is (sym w.end)

                go : (b : Bool) → complete (join_of rule S) (slots_of rule S) ≡ b → Linked rule time (step_of C' st time (cond b (opens_by C' st) (ready_as Error st))) after'
                go true q =
                    subst (λ (x : M.RuleState). Linked rule time (step_of C' st time (opens_by C' st)) x) (sym (begins q))
                    (begin-linked sound time hg hi e cell-c st (λ a. ap (λ (x : ℕ). in_time rule.kind x time) w.end ∙ on-time a))
                go false q = erred-linked rule time st after' (incomplete-errs rule S ck refl (K.sane sound w) unfree E' (gone away) not_late there (rw q tt))

      acts-begun : Linked rule time (act_of table r st name time) after'
      acts-begun = subst (λ (x : Stepped). Linked rule time x after') (sym act-is) (look late_here refl (eqb g S.fragment) refl)
        where
          look : (a : Bool) → late_here ≡ a → (b : Bool) → eqb g S.fragment ≡ b → Linked rule time (step_of C' st time (cond a (ready_as Error st) (seen_here b))) after'
          look true qa b qb = erred-linked rule time st after' (late-errs' (rw qa tt))
          look false qa true qb = stays qa (eqb-true g S.fragment qb)
          look false qa false qb = onward qa (eqb-false g S.fragment qb)

  -- ---- a rule to which nothing has come

  module _ (st : RuleState) {name g i : ℕ} (fresh-state : get_or st.states 0 0 ≡ 1) (hg : g < length (round_of rule)) (hi : i < size g) (e : name ≡ (range_at rule g i).name) where
    abbrev F : M.RuleState
    F = fresh rule

    abbrev E₀ : Event
    E₀ = record { name = name; time = time }

    first-inside : 0 < length (round_of rule)
    first-inside = omega (arith, sound.after)

    first-p : after_p rule 0 ≡ false
    first-p = lt-leb (length rule.p) 0 sound.some

    unfree₀ : released rule F ≡ false
    unfree₀ = rw (first-p, and-false (is_once rule.kind))

    first-late : late_of (cell_in table r name) (limit_of table r) st.end time ≡ (after_p rule g && not (in_time rule.kind st.end time))
    first-late = late_is (cell-of g i name hg hi e) (limit_of table r) st.end time h.limit

    first-is : act_of table r st name time
        ≡ step_of (cell_in table r name) st time (cond (after_p rule g && not (in_time rule.kind st.end time)) (ready_as Error st) (cond (eqb g 0) (opens_by (cell_in table r name) st) (ready_as Error st)))
    unfolding act_of seen_of is_at outside_of follows_of
    first-is = rw (ne_eqb (get_or st.states 0 0) 0 (λ z. omega (arith, z, fresh-state)), eq-eqb (get_or st.states 0 0) 1 fresh-state, first-late, (cell-of g i name hg hi e).fragment)

    begins₀ : g ≡ 0 → step rule F E₀ ≡ begin rule g st.end E₀
    begins₀ z = subst (λ (m : ℕ). step rule F E₀ ≡ begin rule m st.end E₀) (sym z) (is-stay ∙ (λ k. record { fragment = 0; states = states-is k; counts = counts-are k; end = end-is₀ k }))
      where
        hs₀ : has rule 0 name ≡ true
        hs₀ = is_true (has rule 0 name) (subst (λ (m : ℕ). T (has rule m name)) z (has-it sound hg hi e))

        late₀ : late rule F E₀ ≡ false
        late₀ = rw (hs₀, first-p)

        is-stay : step rule F E₀ ≡ stay rule F E₀
        is-stay = rw (unfree₀, hs₀)

        states-is : (stay rule F E₀).states ≡ (begin rule 0 st.end E₀).states
        states-is =
            moves-same (fragment_at rule 0).join (class_of rule F E₀) (within name) (fragment_at rule 0).ranges (not_begun (fragment_at rule 0).ranges 8) (replicate 8 0) (λ x. rw (late₀, hs₀))
            ∙ sym (rw (first-p, and-false (is_once rule.kind)))

        counts-are : (stay rule F E₀).counts ≡ (begin rule 0 st.end E₀).counts
        counts-are = tallies-same (class_of rule F E₀) (within name) (fragment_at rule 0).ranges (not_begun (fragment_at rule 0).ranges 8) (replicate 8 0) (λ x. rw (late₀, hs₀))

        end-is₀ : (stay rule F E₀).end ≡ (begin rule 0 st.end E₀).end
        end-is₀ = rw first-p

    strange₀ : (g ≡ 0 → ⊥) → Erred rule (step rule F E₀)
    strange₀ d =
        stays-erred rule F E₀ (rw unfree₀ tt)
        (errs-at j₀ rs₀ ss₀ (replicate 8 0) (class_of rule F E₀) x₀ (first_slot sound) (look (late rule F E₀) (has rule (following rule 0) name)))
      where
        j₀ : Join
        j₀ = (fragment_at rule 0).join

        rs₀ : List Range
        rs₀ = (fragment_at rule 0).ranges

        ss₀ : List State
        ss₀ = not_begun (fragment_at rule 0).ranges 8

        x₀ : Slot
        x₀ = slot (range_at rule 0 0) unbegun 0

        gone₀ : has rule 0 name ≡ false
        gone₀ = is_false (has rule 0 name) (not_T (has rule 0 name) (λ t. d (sound.apart g 0 name hg first-inside (has-it sound hg hi e) t)))

        look : (a b : Bool) → T (is_error (move (fragment_at rule 0).join (range_at rule 0 0) 0 unbegun (cond a other (cond (has rule 0 name) (within name (range_at rule 0 0)) (cond b next other)))))
        look true b = tt
        look false true = rw gone₀ tt
        look false false = rw gone₀ tt

    acts-fresh : Linked rule time (act_of table r st name time) (step rule F E₀)
    acts-fresh = subst (λ (x : Stepped). Linked rule time x (step rule F E₀)) (sym first-is) (look (eqb g 0) refl)
      where
        strange-step : (a : Bool) → (g ≡ 0 → ⊥) → Linked rule time (step_of (cell_in table r name) st time (cond a (ready_as Error st) (ready_as Error st))) (step rule F E₀)
        strange-step true d = erred-linked rule time st (step rule F E₀) (strange₀ d)
        strange-step false d = erred-linked rule time st (step rule F E₀) (strange₀ d)

        look : (b : Bool) → eqb g 0 ≡ b
            → Linked rule time (step_of (cell_in table r name) st time (cond (after_p rule g && not (in_time rule.kind st.end time)) (ready_as Error st)
            (cond b (opens_by (cell_in table r name) st) (ready_as Error st)))) (step rule F E₀)
        look true q =
            let z : g ≡ 0 = eqb-true g 0 q in
            let p : after_p rule g ≡ false = ap (after_p rule) z ∙ first-p in
            rw p
            (subst (λ (x : M.RuleState). Linked rule time (step_of (cell_in table r name) st time (opens_by (cell_in table r name) st)) x)
            (sym (begins₀ z)) (begin-linked sound time hg hi e (cell-of g i name hg hi e) st (λ a. clash (sym p ∙ a))))
        look false q = strange-step (after_p rule g && not (in_time rule.kind st.end time)) (eqb-false g 0 q)

  -- ---- a rule that is released

  acts-freed : (st : RuleState) (S : M.RuleState) (name : ℕ) → get_or st.states 0 0 ≡ 0 → released rule S ≡ true
      → Linked rule time (act_of table r st name time) (step rule S (record { name = name; time = time }))
  unfolding act_of
  acts-freed st S name rest free =
      let is : act_of table r st name time ≡ record { state = st; standing = Whole } = rw (eq-eqb (get_or st.states 0 0) 0 rest) in
      let same : step rule S (record { name = name; time = time }) ≡ S = rw free in
      let rests : at_rest rule S ≡ true = rw free in
      subst (λ (x : Stepped). Linked rule time x (step rule S (record { name = name; time = time }))) (sym is)
      (subst (λ (x : M.RuleState). Linked rule time (record { state = st; standing = Whole }) x) (sym same) (record {
        status = sym (rw rests);
        due = λ z. sym (rw rests (and-false (is_timed rule.kind)));
        shows = λ z. freed rest free;
      }))

  -- ---- all of them

  pub acts : (st : RuleState) (S : M.RuleState) → Shows rule st S → (name : ℕ) → T (is_in name (names_of rule)) → Linked rule time (act_of table r st name time) (step rule S (record { name = name; time = time }))
  acts st S (untouched z q) name m =
      let p = sound.named name m in
      subst (λ (x : M.RuleState). Linked rule time (act_of table r st name time) (step rule x (record { name = name; time = time }))) (sym q) (acts-fresh st z p.inside p.held p.is)
  acts st S (freed rest free) name m = acts-freed st S name rest free
  acts st S (begun w) name m = let p = sound.named name m in acts-begun w p.inside p.held p.is

-- ---- a rule whose deadline runs

-- a rule to which nothing has come is at rest
fresh-rests : {rule : Rule} → Sound rule → at_rest rule (fresh rule) ≡ true
fresh-rests {rule} sound = is_true (at_rest rule (fresh rule)) (either_r (released rule (fresh rule)) (any_of (λ (y : Slot). is_unbegun y.state) (slots_of rule (fresh rule)))
    (any← (λ (y : Slot). is_unbegun y.state) (slots_of rule (fresh rule)) (slot (range_at rule 0 0) unbegun 0) (first_slot sound) tt))

-- it has begun, and the end of P is the model's
runs-end : {rule : Rule} → Sound rule → (st : RuleState) (S : M.RuleState) → Shows rule st S → running rule S ≡ true → st.end ≡ S.end
runs-end {rule} sound st S (untouched z q) e = clash (sym (ap (λ (x : M.RuleState). running rule x) q ∙ rw (fresh-rests sound) (and-false (is_timed rule.kind))) ∙ e)
runs-end {rule} sound st S (freed rest free) e = let rests : at_rest rule S ≡ true = rw free in clash (sym (rw rests (and-false (is_timed rule.kind))) ∙ e)
runs-end sound st S (begun w) e = w.end

-- so that it is held to the model's deadline
pub held_to : {table : List ℕ} {r : ℕ} {rule : Rule} → HoldsRule table r rule → Sound rule → (st : RuleState) (S : M.RuleState)
    → Shows rule st S → running rule S ≡ true → (time : ℕ) → overdue_of (limit_of table r) st.end time ≡ not (in_time rule.kind S.end time)
held_to {table} {r} {rule} h sound st S w e time = ap₂ (λ (t end : ℕ). ltb (end + t) time) h.limit (runs-end sound st S w e)
    ∙ look rule.kind (running-timed (is_timed rule.kind) (not (at_rest rule S) && (not (erred (slots_of rule S)) && pressed rule S)) e)
  where
    running-timed : (a b : Bool) → (a && b) ≡ true → a ≡ true
    running-timed true b q = refl
    running-timed false b q = clash q

    look : (k : Kind) → is_timed k ≡ true → ltb (S.end + time_of k) time ≡ not (in_time k S.end time)
    look (once i) q = clash q
    look (repeated i) q = clash q
    look (timed q' t) q = not-leb (S.end + t) time
