-- One observation, rule by rule: a rule that has the name steps as the model's; one whose deadline runs is held to it; of any other nothing changes, not even its status. The bits of the three masks
-- are functions of the rule's new state.
-- Assumes nothing.
use mathlib.Core.Path.{◌≡◌, refl, sym, ◌∙◌, ap}
use mathlib.Core.Bool.{Bool, true, false, cond, not, ◌&&◌, ◌||◌}
use mathlib.Core.List.{List}
use Prim.Native.Nat.{ℕ}
use lib.Dec.{T}
use Rattle.names.specs.Names.{member}
use Rattle.pattern.specs.Lists.{is_in}
use Rattle.pattern.specs.Meaning.{Rule, names_of, broken, open'}
use Rattle.pattern.specs.Judge as J
use Rattle.pattern.specs.Model.{step, status_at, in_time}
use Rattle.pattern.specs.Model as M
use Rattle.rule_state.specs.declared.RuleState.{RuleState}
use Rattle.step.specs.declared.Stepped.{Stepped}
use Rattle.tables.specs.Cells.{HoldsRule}
use Rattle.step.specs.declared.Standing.TheVariants.{Due, Broken}
use Rattle.step.specs.Standings.{status_of, is_broken, is_open, is_due}
use Rattle.step.specs.Shows.{Shows, running}
use Rattle.step.proofs.Sound.{Sound}
use Rattle.step.proofs.Flags.{clash}
use Rattle.step.proofs.Status.{time-alone, running-is}
use Rattle.step.proofs.Links.{acts, held_to}
use Rattle.rules.specs.Pass.{rule_of}

-- ---- one rule

-- what is to be shown of a rule: its new state, unless it breaks, and the bits of the three masks
pub record Ruled (rule : Rule) (time : ℕ) (S : M.RuleState) (st : RuleState) (broken_bit open_bit due_bit : Bool) : Type 0 where
  pub shows : broken_bit ≡ false → Shows rule st S
  pub broken' : broken_bit ≡ J.is_broken (status_at rule S time)
  pub open'' : open_bit ≡ J.is_open (status_at rule S time)
  pub due : broken_bit ≡ false → due_bit ≡ running rule S

module _ (table : List ℕ) (concerned r : ℕ) (rule : Rule) (h : HoldsRule table r rule) (sound : Sound rule) (st : RuleState) (S : M.RuleState) (w : Shows rule st S) (name time : ℕ) where
  -- a rule that has the name
  steps : T (is_in name (names_of rule)) → member concerned r ≡ true
      → (let s : Stepped = rule_of table concerned r st name time in Ruled rule time (step rule S (record { name = name; time = time }))
      s.state (is_broken s.standing) (is_open s.standing) (is_due s.standing))
  unfolding rule_of
  steps named m =
      let l = acts h sound time st S w name named in
      rw m (record { shows = l.shows; broken' = ap J.is_broken l.status; open'' = ap J.is_open l.status; due = l.due })

  -- a rule whose deadline runs
  waits : member concerned r ≡ false → running rule S ≡ true
      → (let s : Stepped = rule_of table concerned r st name time in Ruled rule time S s.state (is_broken s.standing) (is_open s.standing) (is_due s.standing))
  unfolding rule_of
  waits m run = rw (m, held_to h sound st S w run time) (record {
    shows = λ z. w;
    broken' = ap J.is_broken (stands (in_time rule.kind S.end time) ∙ sym is);
    open'' = ap J.is_open (stands (in_time rule.kind S.end time) ∙ sym is);
    due = λ z. dues (in_time rule.kind S.end time) z ∙ sym run;
  })
    where
      is : status_at rule S time ≡ cond (in_time rule.kind S.end time) open' broken
      is = running-is rule sound.some S run time

      stands : (i : Bool) → status_of (cond (not i) Broken Due) ≡ cond i open' broken
      stands true = refl
      stands false = refl

      dues : (i : Bool) → is_broken (cond (not i) Broken Due) ≡ false → is_due (cond (not i) Broken Due) ≡ true
      dues true z = refl
      dues false z = clash (sym z)

  -- any other rule
  rests : (latest : ℕ) (bit : Bool) → running rule S ≡ false → bit ≡ J.is_open (status_at rule S latest) → J.is_broken (status_at rule S latest) ≡ false → Ruled rule time S st false bit false
  rests latest bit run o k = record {
    shows = λ z. w;
    broken' = sym k ∙ ap J.is_broken (time-alone rule S run latest time);
    open'' = o ∙ ap J.is_open (time-alone rule S run latest time);
    due = λ z. sym run;
  }

  -- the three together, as the loop over the rules looks at them: `due` is the old bit of the deadlines, `bit` that of the open rules
  pub ruled : (latest : ℕ) (own due bit : Bool) → (own ≡ true → T (is_in name (names_of rule))) → member concerned r ≡ own → due ≡ running rule S
      → bit ≡ J.is_open (status_at rule S latest) → J.is_broken (status_at rule S latest) ≡ false
      → (let s : Stepped = rule_of table concerned r st name time in Ruled rule time (cond own (step rule S (record { name = name; time = time })) S)
      (cond (own || due) s.state st) ((own || due) && is_broken s.standing) (cond (own || due) (is_open s.standing) bit) ((own || due) && is_due s.standing))
  ruled latest true due bit named m d o k = steps (named refl) m
  ruled latest false true bit named m d o k = waits m (sym d)
  ruled latest false false bit named m d o k = rests latest bit (sym d) o k
