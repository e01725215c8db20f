-- An observation that is taken: the pass over the sixteen rules gives the model's states, and its masks are the judge's masks of the new statuses.
-- Assumes nothing.
use mathlib.Core.Path.{◌≡◌, refl, sym, ◌∙◌, ap, ap₂, subst}
use mathlib.Core.Bool.{Bool, true, false, cond, ◌&&◌, ◌||◌}
use mathlib.Core.List.{List, [], ◌∷◌}
use Prim.Native.Nat.{ℕ, zero, suc, ◌^◌, ◌≤◌, ◌<◌}
use native.Mathlib.Nat.{not-suc-le-zero, lt_of_lt_of_le, pow-le-pow_right}
use native.Mathlib.Omega.{arith}
use lib.Dec.{T, ltb}
use lib.ListN.{length, get_or}
use borrow.Author.Tests.{lt-ltb, le-ltb, ltb-true, ltb-false}
use Rattle.names.specs.Names.{member}
use Rattle.names.proofs.Sets.{member-empty}
use Rattle.pattern.specs.Lists.{is_in}
use Rattle.pattern.specs.Meaning.{Event, Rule, names_of, Status, whole}
use Rattle.pattern.specs.Judge.{mask}
use Rattle.pattern.specs.Judge as J
use Rattle.pattern.specs.Model.{status_at, after_all, statuses, step}
use Rattle.pattern.specs.Model as M
use Rattle.layout.specs.Pages.{rule_at}
use Rattle.masks.specs.Masks.{mask_n}
use Rattle.masks.proofs.Members.{same-members, mask_n-below, member-mask_n, member-mask_n-past}
use Rattle.masks.proofs.Statuses.{member-mask, mask_below, member-mask-past}
use Rattle.rule_state.specs.declared.RuleState.{RuleState}
use Rattle.tables.specs.Cells.{HoldsRule}
use Rattle.step.specs.Shows.{Shows, running}
use Rattle.step.proofs.Sound.{Sound}
use Rattle.words.specs.Upto.{length-map_n}
use Rattle.words.specs.Words.{no_state}
use Rattle.words.proofs.Places.{get_d-map_n}
use Rattle.rules.specs.Pass.{Pass, touched, state_at, broken_at, open_at, due_at, pass_of}
use Rattle.monitor.specs.Promise.{no_model, model_at}
use Rattle.monitor.proofs.Rulewise.{Ruled, ruled}

-- ---- lists by their elements

pub after-length : (rules : List Rule) (sts : List M.RuleState) (o : J.Observation) → length sts ≡ length rules → length (after_all rules sts o) ≡ length rules
after-length [] sts o e = refl
after-length (r ∷ rs) [] o e = absurd (omega (arith, e))
after-length (r ∷ rs) (st ∷ sts) o e = ap suc (after-length rs sts o (omega (arith, e)))

after-at : (rules : List Rule) (sts : List M.RuleState) (o : J.Observation) (r : ℕ) (d : M.RuleState) → length sts ≡ length rules → r < length rules
    → get_or (after_all rules sts o) r d ≡ M.after (rule_at rules r) (get_or sts r d) o
after-at [] sts o r d e h = absurd (not-suc-le-zero h)
after-at (x ∷ rs) [] o r d e h = absurd (omega (arith, e))
after-at (x ∷ rs) (st ∷ sts) o zero d e h = refl
after-at (x ∷ rs) (st ∷ sts) o (suc r) d e h = after-at rs sts o r d (omega (arith, e)) (omega arith)

pub statuses-length : (rules : List Rule) (sts : List M.RuleState) (now : ℕ) → length sts ≡ length rules → length (statuses rules sts now) ≡ length rules
statuses-length [] sts now e = refl
statuses-length (r ∷ rs) [] now e = absurd (omega (arith, e))
statuses-length (r ∷ rs) (st ∷ sts) now e = ap suc (statuses-length rs sts now (omega (arith, e)))

pub status-at : (rules : List Rule) (sts : List M.RuleState) (now r : ℕ) (d : M.RuleState) (s : Status) → length sts ≡ length rules → r < length rules
    → get_or (statuses rules sts now) r s ≡ status_at (rule_at rules r) (get_or sts r d) now
status-at [] sts now r d s e h = absurd (not-suc-le-zero h)
status-at (x ∷ rs) [] now r d s e h = absurd (omega (arith, e))
status-at (x ∷ rs) (st ∷ sts) now zero d s e h = refl
status-at (x ∷ rs) (st ∷ sts) now (suc r) d s e h = status-at rs sts now r d s (omega (arith, e)) (omega arith)

-- a mask of sixteen bits is that of the statuses
pub mask-same : (t : Status → Bool) (bits : ℕ → Bool) (rules : List Rule) (sts : List M.RuleState) (now : ℕ) → length sts ≡ length rules → length rules ≤ 16
    → ((r : ℕ) → r < length rules → bits r ≡ t (status_at (rule_at rules r) (model_at sts r) now)) → ((r : ℕ) → length rules ≤ r → r < 16 → bits r ≡ false) → mask_n bits 16 ≡ mask t (statuses rules sts now)
mask-same t bits rules sts now e few inner outer = same-members 16 (mask_n bits 16) (mask t (statuses rules sts now)) (mask_n-below bits 16) below bit
  where
    l : length (statuses rules sts now) ≡ length rules
    l = statuses-length rules sts now e

    below : mask t (statuses rules sts now) < 2 ^ 16
    below =
        let w : length (statuses rules sts now) ≤ 16 = omega (arith, l) in
        let z : 0 < 2 = omega arith in
        lt_of_lt_of_le (mask_below t (statuses rules sts now)) (pow-le-pow_right z w)

    bit : (k : ℕ) → k < 16 → member (mask_n bits 16) k ≡ member (mask t (statuses rules sts now)) k
    bit k h = member-mask_n bits 16 k h ∙ look (ltb k (length rules)) refl
      where
        look : (b : Bool) → ltb k (length rules) ≡ b → bits k ≡ member (mask t (statuses rules sts now)) k
        look true q =
            let i : k < length rules = ltb-true k (length rules) q in
            inner k i ∙ sym (member-mask t (statuses rules sts now) k whole (omega (arith, l)) ∙ ap t (status-at rules sts now k no_model whole e i))
        look false q =
            let i : length rules ≤ k = ltb-false k (length rules) q in
            outer k i h ∙ sym (member-mask-past t (statuses rules sts now) k (omega (arith, l)))

-- ---- the pass

-- before an observation: the rules of a book, the model's states of them and a monitor's, no rule broken, and the monitor's two masks
pub record Before (b : List ℕ) (rules : List Rule) (sts : List M.RuleState) (latest : ℕ) (old : List RuleState) (opens dues : ℕ) : Type 0 where
  pub few : length rules ≤ 16
  pub held : (r : ℕ) → r < length rules → HoldsRule b r (rule_at rules r)
  pub sounds : (r : ℕ) → r < length rules → Sound (rule_at rules r)
  pub many : length sts ≡ length rules
  pub calm : (r : ℕ) → r < length rules → J.is_broken (status_at (rule_at rules r) (model_at sts r) latest) ≡ false
  pub sixteen : length old ≡ 16
  pub shows : (r : ℕ) → r < length rules → Shows (rule_at rules r) (get_or old r no_state) (model_at sts r)
  pub open_is : opens ≡ mask J.is_open (statuses rules sts latest)
  pub due-is : (r : ℕ) → member dues r ≡ (ltb r (length rules) && running (rule_at rules r) (model_at sts r))

-- what an observation is to the rules: those of which it is an event have its name, and are those that it concerns
pub record Concerns (rules : List Rule) (o : J.Observation) (concerned name time : ℕ) (own : ℕ → Bool) : Type 0 where
  pub named : (r : ℕ) → r < length rules → own r ≡ true → T (is_in name (names_of (rule_at rules r)))
  pub concern-is : (r : ℕ) → member concerned r ≡ (ltb r (length rules) && own r)
  pub after_is : (r : ℕ) → r < length rules → (st : M.RuleState) → M.after (rule_at rules r) st o ≡ cond (own r) (step (rule_at rules r) st (record { name = name; time = time })) st

module _ {b : List ℕ} {rules : List Rule} {sts : List M.RuleState} {latest : ℕ} {old : List RuleState} {opens dues : ℕ} (was : Before b rules sts latest old opens dues)
    {o : J.Observation} {concerned name time : ℕ} {own : ℕ → Bool} (to : Concerns rules o concerned name time own) where
  abbrev P : Pass
  P = pass_of b concerned opens dues old name time

  abbrev sts' : List M.RuleState
  sts' = after_all rules sts o

  abbrev rule : ℕ → Rule
  rule r = rule_at rules r

  abbrev event : Event
  event = record { name = name; time = time }

  -- what is shown of rule r, whose model is then in a state
  abbrev Rule-r : ℕ → M.RuleState → Type 0
  Rule-r r st =
      Ruled (rule r) time st (state_at b concerned opens dues old name time r (get_or old r no_state)) (broken_at b concerned opens dues old name time r)
      (open_at b concerned opens dues old name time r) (due_at b concerned opens dues old name time r)

  each : (r : ℕ) → r < length rules → Rule-r r (model_at sts' r)
  each r h =
      let st : M.RuleState = model_at sts r in
      let ss : List Status = statuses rules sts latest in
      let i : ltb r (length rules) ≡ true = lt-ltb r (length rules) h in
      let c : member concerned r ≡ own r = to.concern-is r ∙ ap (λ (x : Bool). x && own r) i in
      let d : member dues r ≡ running (rule r) st = was.due-is r ∙ ap (λ (x : Bool). x && running (rule r) st) i in
      let l : r < length ss = subst (λ (n : ℕ). r < n) (sym (statuses-length rules sts latest was.many)) h in
      let bit : member opens r ≡ J.is_open (status_at (rule r) st latest) =
      ap (λ (n : ℕ). member n r) was.open_is ∙ member-mask J.is_open ss r whole l
      ∙ ap J.is_open (status-at rules sts latest r no_model whole was.many h) in
      let now : cond (member concerned r) (step (rule r) st event) st ≡ model_at sts' r =
      ap (λ (x : Bool). cond x (step (rule r) st event) st) c
      ∙ sym (after-at rules sts o r no_model was.many h ∙ to.after_is r h st) in
      subst (Rule-r r) now
      (ruled b concerned r (rule r) (was.held r h) (was.sounds r h) (get_or old r no_state) st (was.shows r h) name time latest (member concerned r)
      (member dues r) (member opens r) (λ z. to.named r h (sym c ∙ z)) refl d bit (was.calm r h))

  -- a number that is no rule's is not touched
  no-rule : (r : ℕ) → length rules ≤ r → touched b concerned opens dues old name time r ≡ false
  no-rule r h =
      let i : ltb r (length rules) ≡ false = le-ltb r (length rules) h in
      ap₂ (λ (x y : Bool). x || y) (to.concern-is r ∙ ap (λ (x : Bool). x && own r) i)
      (was.due-is r ∙ ap (λ (x : Bool). x && running (rule r) (model_at sts r)) i)

  no-open : (r : ℕ) → length rules ≤ r → member opens r ≡ false
  no-open r h =
      ap (λ (n : ℕ). member n r) was.open_is
      ∙ member-mask-past J.is_open (statuses rules sts latest) r (subst (λ (n : ℕ). n ≤ r) (sym (statuses-length rules sts latest was.many)) h)

  -- ---- what the pass gives

  pub pass-sixteen : length P.rules ≡ 16
  unfolding pass_of
  pass-sixteen = length-map_n (state_at b concerned opens dues old name time) 0 16 old ∙ was.sixteen

  pass-at : (r : ℕ) → r < 16 → get_or P.rules r no_state ≡ state_at b concerned opens dues old name time r (get_or old r no_state)
  unfolding pass_of
  pass-at r h =
      get_d-map_n (state_at b concerned opens dues old name time) no_state 0 16 old r h (omega (arith, was.sixteen))
      ∙ ap (λ (i : ℕ). state_at b concerned opens dues old name time i (get_or old r no_state)) (omega arith)

  pub pass-broken : P.broken ≡ mask J.is_broken (statuses rules sts' time)
  unfolding pass_of
  pass-broken =
      mask-same J.is_broken (broken_at b concerned opens dues old name time) rules sts' time (after-length rules sts o was.many) was.few (λ r h. (each r h).broken')
      (λ r h l. rw (no-rule r h))

  pub pass-open : P.opens ≡ mask J.is_open (statuses rules sts' time)
  unfolding pass_of
  pass-open =
      mask-same J.is_open (open_at b concerned opens dues old name time) rules sts' time (after-length rules sts o was.many) was.few (λ r h. (each r h).open'')
      (λ r h l. rw (no-rule r h) (no-open r h))

  -- where no rule broke: the states, and the mask of the deadlines that run

  unbroken : P.broken ≡ 0 → (k : ℕ) → k < 16 → broken_at b concerned opens dues old name time k ≡ false
  unfolding pass_of
  unbroken none k h =
      sym (member-mask_n (broken_at b concerned opens dues old name time) 16 k h) ∙ ap (λ (n : ℕ). member n k) none ∙ member-empty k

  pub pass-shows : P.broken ≡ 0 → (r : ℕ) → r < length rules → Shows (rule r) (get_or P.rules r no_state) (model_at sts' r)
  pass-shows none r h =
      let few = was.few in
      subst (λ (st : RuleState). Shows (rule r) st (model_at sts' r)) (sym (pass-at r (omega arith))) ((each r h).shows (unbroken none r (omega arith)))

  pub pass-due : P.broken ≡ 0 → (r : ℕ) → member P.dues r ≡ (ltb r (length rules) && running (rule r) (model_at sts' r))
  unfolding pass_of
  pass-due none r = look (ltb r (length rules)) refl (ltb r 16) refl
    where
      look : (x : Bool) → ltb r (length rules) ≡ x → (y : Bool) → ltb r 16 ≡ y
          → member (mask_n (due_at b concerned opens dues old name time) 16) r ≡ (x && running (rule r) (model_at sts' r))
      look true q y q' =
          let h : r < length rules = ltb-true r (length rules) q in
          let few = was.few in
          member-mask_n (due_at b concerned opens dues old name time) 16 r (omega arith) ∙ (each r h).due (unbroken none r (omega arith))
      look false q true q' =
          member-mask_n (due_at b concerned opens dues old name time) 16 r (ltb-true r 16 q') ∙ rw (no-rule r (ltb-false r (length rules) q))
      look false q false q' = member-mask_n-past (due_at b concerned opens dues old name time) 16 r (ltb-false r 16 q')
