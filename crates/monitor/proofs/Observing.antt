-- One observation over the book of a sheet answers as the judge, and the monitor then follows what the judge keeps.
-- Assumes nothing.
use mathlib.Core.Path.{◌≡◌, refl, sym, ◌∙◌, ap, ap₂, subst}
use mathlib.Core.Bool.{Bool, true, false, cond, ◌&&◌, and-false}
use mathlib.Core.Option.{Option, none, some}
use mathlib.Core.List.{List}
use Rattle.std.specs.Prelude.{Ok, Err}
use Prim.Native.Nat.{ℕ, suc, ◌+◌, ◌<◌}
use native.Mathlib.Omega.{arith}
use lib.Dec.{leb, ltb, eqb}
use lib.ListN.{length, get_or}
use borrow.Author.Tests.{leb-false, eqb-true}
use Rattle.names.specs.Names.{member}
use Rattle.names.proofs.Sets.{member-empty}
use Rattle.pattern.specs.Lists.{is_in}
use Rattle.pattern.specs.Meaning.{Rule, names_of, Status, whole}
use Rattle.pattern.specs.Judge.{Oracle, Right, Verdict, all_whole, some_open, broken_at, verdict_of, mask, Kept, refusal, judge}
use Rattle.pattern.specs.Judge as J
use Rattle.pattern.specs.Values.{verdict_values, answer_values}
use Rattle.pattern.specs.Model.{status_at, statuses, after_all, take, or_refuse, or_stopped, observe}
use Rattle.pattern.specs.Model as M
use Rattle.pattern.proofs.Basics.{zero_one}
use Rattle.pattern.proofs.Oracle.{model_oracle, right-oracle, one-turn}
use Rattle.pattern.proofs.Agreement.{together}
use Rattle.pattern.specs.Agreement as A
use Rattle.layout.specs.Layout.{Sheet, WellFormedSheet}
use Rattle.layout.specs.Pages.{rule_at}
use Rattle.layout.proofs.Accepted.{rules-formed}
use Rattle.book.specs.Looks.{Looks}
use Rattle.book.specs.declared.Book.{Book}
use Rattle.masks.proofs.Statuses.{member-mask}
use Rattle.tables.specs.Cells.{mask_in}
use Rattle.step.specs.Shows.{running}
use Rattle.words.specs.Words.{Held, held_by}
use Rattle.rules.specs.Pass.{Pass, pass_of}
use Rattle.answers.specs.Observe.{Observed, judged_by, judged_of, refused_of, taken_of, looked_of, observe_of, Leaves}
use Rattle.answers.specs.Cases.{number_of}
use Rattle.answers.proofs.Verdicts.{judged-says}
use Rattle.monitor.specs.Promise.{Answer, seen, values_of, verdict_in, no_model, model_at, Represents, Tracks, in_memory, Observes}
use Rattle.answers.specs.declared.Observation.{Observation}
use Rattle.answers.specs.declared.Observation.TheVariants.{Event, Clock}
use Rattle.answers.specs.declared.Verdict.TheVariants.{Broken}
use Rattle.answers.specs.declared.Refusal.{Refusal}
use Rattle.answers.specs.declared.Refusal.TheVariants.{BadName, FallingTime, FullCount}
use Rattle.monitor.proofs.Holding.{rule-sound}
use Rattle.monitor.proofs.Taking.{status-at, statuses-length, after-length, Before, Concerns, pass-sixteen, pass-shows, pass-broken, pass-open, pass-due}

-- ---- a monitor and the model's monitor take one observation alike

pub record Alike (rules : List Rule) (reply : M.Reply) (r : Observed) : Type 0 where
  pub answer : values_of r.answer ≡ answer_values reply.answer
  pub represents : Represents rules reply.monitor r.monitor

broke : {A : Type 0} → true ≡ false → A
broke z = let w : ◌≡◌ {A = ℕ} 0 1 = cc in absurd (zero_one w)

module _ (S : Sheet) (formed : WellFormedSheet S) (b : Book) (looks : Looks S b) where
  abbrev rules : List Rule
  rules = S.rules

  module _ (model : M.Monitor) (m : Held) (rep : Represents S.rules model m) (running' : eqb m.verdict 2 ≡ false) where
    -- no rule was broken before
    calm : (r : ℕ) → r < length S.rules → J.is_broken (status_at (rule_at S.rules r) (model_at model.rules r) model.latest) ≡ false
    calm r h =
        let ss : List Status = statuses S.rules model.rules model.latest in
        let l : length ss ≡ length S.rules = statuses-length S.rules model.rules model.latest rep.many in
        ap J.is_broken (sym (status-at S.rules model.rules model.latest r no_model whole rep.many h))
        ∙ sym (member-mask J.is_broken ss r whole (omega (arith, l)))
        ∙ ap (λ (n : ℕ). member n r) (none-broken (eqb (mask J.is_broken (statuses S.rules model.rules model.latest)) 0) refl (rep.verdict' ∙ rep.settled))
        ∙ member-empty r
      where
        none-broken : (z : Bool) → eqb (mask J.is_broken (statuses S.rules model.rules model.latest)) 0 ≡ z
            → verdict_in m ≡ verdict_of model.taken (statuses S.rules model.rules model.latest) → mask J.is_broken (statuses S.rules model.rules model.latest) ≡ 0
        none-broken true q e = eqb-true (mask J.is_broken (statuses S.rules model.rules model.latest)) 0 q
        none-broken false q e = absurd (clash (eqb m.verdict 1) (rw (running', q) at e))
          where
            clash : (y : Bool) → cond y (some_open m.mask) all_whole ≡ broken_at model.taken (mask J.is_broken (statuses S.rules model.rules model.latest)) → ⊥
            clash true c = let w : ◌≡◌ {A = ℕ} 0 1 = cc in zero_one w
            clash false c = let w : ◌≡◌ {A = ℕ} 0 1 = cc in zero_one w

    before : Before b.table S.rules model.rules model.latest m.rules m.mask m.dues
    before = record {
      few = formed.count.1;
      held = looks.table.rule;
      sounds = rule-sound S formed;
      many = rep.many;
      calm = calm;
      sixteen = rep.sixteen;
      shows = rep.shows running';
      open_is = rep.opens running';
      due-is = rep.due running';
    }

    -- an observation that is taken
    module _ {o : J.Observation} {concerned name time : ℕ} {own : ℕ → Bool} (to : Concerns S.rules o concerned name time own) (when : J.time_of o ≡ time) where
      abbrev P : Pass
      P = pass_of b.table concerned m.mask m.dues m.rules name time

      abbrev sts : List M.RuleState
      sts = after_all S.rules model.rules o

      abbrev ss : List Status
      ss = statuses S.rules sts time

      broken-mask : P.broken ≡ mask J.is_broken ss
      broken-mask = pass-broken before to

      open-mask : P.opens ≡ mask J.is_open ss
      open-mask = pass-open before to

      abbrev Dues : ℕ → Type 0
      Dues dues = (r : ℕ) → member dues r ≡ (ltb r (length S.rules) && running (rule_at S.rules r) (model_at sts r))

      taken_is : m.taken + 1 ≡ suc model.taken
      taken_is = omega (arith, rep.count)

      verdict-is : (take S.rules model o).verdict ≡ verdict_of (suc model.taken) ss
      verdict-is = ap (λ (t : ℕ). verdict_of (suc model.taken) (statuses S.rules sts t)) when

      -- the new monitor, by its verdict
      module _ (v mask' dues' : ℕ) where
        abbrev made : Held
        made = record { rules = P.rules; taken = m.taken + 1; latest = time; verdict = v; mask = mask'; dues = dues' }

        makes : verdict_in made ≡ verdict_of (suc model.taken) ss → (eqb v 2 ≡ false → P.broken ≡ 0) → (eqb v 2 ≡ false → mask' ≡ mask J.is_open ss) → (eqb v 2 ≡ false → Dues dues')
            → Represents S.rules (take S.rules model o) made
        makes e u f g = record {
          sixteen = pass-sixteen before to;
          many = after-length S.rules model.rules o rep.many;
          shows = λ z. pass-shows before to (u z);
          time = sym when;
          count = taken_is;
          verdict' = e ∙ sym verdict-is;
          settled = refl;
          opens = λ z. f z ∙ ap (λ (t : ℕ). mask J.is_open (statuses S.rules sts t)) (sym when);
          due = g;
        }

      -- the monitor that the pass gives
      represents : Represents S.rules (take S.rules model o) (judged_of P (m.taken + 1) time).monitor
      unfolding judged_of
      represents = look (eqb P.broken 0) refl (eqb P.opens 0) refl
        where
          verdict-by : (x y : Bool) → eqb P.broken 0 ≡ x → eqb P.opens 0 ≡ y
              → verdict_of (suc model.taken) ss ≡ cond x (cond y all_whole (some_open P.opens)) (broken_at (suc model.taken) P.broken)
          verdict-by x y q q' = rw (← broken-mask, ← open-mask, q, q')

          look : (x : Bool) → eqb P.broken 0 ≡ x → (y : Bool) → eqb P.opens 0 ≡ y → Represents S.rules (take S.rules model o) (judged_by x y P (m.taken + 1) time).monitor
          look true q true q' =
              let none = eqb-true P.broken 0 q in
              makes 0 0 P.dues (sym (verdict-by true true q q')) (λ z. none) (λ z. sym (eqb-true P.opens 0 q') ∙ open-mask) (λ z. pass-due before to none)
          look true q false q' =
              let none = eqb-true P.broken 0 q in
              makes 1 P.opens P.dues (sym (verdict-by true false q q')) (λ z. none) (λ z. open-mask) (λ z. pass-due before to none)
          look false q y q' =
              makes 2 P.broken P.dues (ap (λ (n : ℕ). broken_at n P.broken) taken_is ∙ sym (verdict-by false y q q')) (λ z. broke z) (λ z. broke z) (λ z. broke z)

      takes : Alike S.rules (or_refuse S.rules model o none) (judged_of P (m.taken + 1) time)
      takes = record {
        answer =
            judged-says P (m.taken + 1) time ss broken-mask open-mask ∙ ap (λ (n : ℕ). verdict_values (verdict_of n ss)) taken_is
            ∙ ap verdict_values (sym verdict-is);
        represents = represents;
      }

    refused : (why : Refusal) → Alike S.rules (record { answer = J.refused (number_of why); monitor = model }) (record { monitor = m; answer = Err why })
    refused why = record { answer = refl; represents = rep }

    -- an observation whose name is right: 11, 13, or taken
    module _ {o : J.Observation} {concerned name time : ℕ} {own : ℕ → Bool} (to : Concerns S.rules o concerned name time own) (when : J.time_of o ≡ time) (good : J.bad_name o ≡ false) where
      abbrev Taken : Option ℕ → Observed → Type 0
      Taken n = Alike S.rules (or_refuse S.rules model o n)

      named-right : Taken (refusal model.latest model.taken o) (taken_of b.table m concerned name time)
      unfolding taken_of refused_of
      named-right = subst (λ (n : Option ℕ). Taken n (taken_of b.table m concerned name time)) (sym refusal_is) (look (ltb time m.latest) (leb 4294967295 m.taken))
        where
          refusal_is : refusal model.latest model.taken o ≡ cond (ltb time m.latest) (some 11) (cond (leb 4294967295 m.taken) (some 13) none)
          refusal_is = ap₂ (λ (t n : ℕ). refusal t n o) (sym rep.time) (sym rep.count) ∙ rw (good, when)

          look : (x y : Bool) → Taken (cond x (some 11) (cond y (some 13) none)) (cond x (refused_of m FallingTime) (cond y (refused_of m FullCount)
              (judged_of (pass_of b.table concerned m.mask m.dues m.rules name time) (m.taken + 1) time)))
          look true y = refused FallingTime
          look false true = refused FullCount
          look false false = takes to when

    -- an event concerns the rules that have its name, a clock reading none
    of-event : (name time : ℕ) → leb 64 name ≡ false → Concerns S.rules (J.event name time) (mask_in (get_or b.table name 0)) name time (λ r. is_in name (names_of (rule_at S.rules r)))
    of-event name time q = record { named = λ r h z. rw z tt; concern-is = λ r. looks.table.holders name r (leb-false 64 name q); after_is = λ r h st. refl }

    of-clock : (time : ℕ) → Concerns S.rules (J.clock time) 0 0 time (λ r. false)
    of-clock time = record { named = λ r h z. broke (sym z); concern-is = λ r. member-empty r ∙ sym (and-false (ltb r (length S.rules))); after_is = λ r h st. refl }

    looked : (o : Observation) → Alike S.rules (or_refuse S.rules model (seen o) (refusal model.latest model.taken (seen o))) (looked_of b.table m o)
    unfolding looked_of refused_of
    looked (Event name time) = look (leb 64 name) refl
      where
        look : (x : Bool) → leb 64 name ≡ x → Alike S.rules (or_refuse S.rules model (J.event name time) (refusal model.latest model.taken (J.event name time)))
            (cond x (refused_of m BadName) (taken_of b.table m (mask_in (get_or b.table name 0)) name time))
        look true q = rw q (refused BadName)
        look false q = named-right (of-event name time q) refl q
    looked (Clock time) = named-right (of-clock time) refl refl

  -- a stopped book gives its verdict again
  pub alike : (model : M.Monitor) (m : Held) → Represents S.rules model m → (o : Observation) → Alike S.rules (observe S.rules model (seen o)) (observe_of b.table m o)
  unfolding observe_of
  alike model m rep o = subst (λ (v : Verdict). Alike S.rules (or_stopped S.rules model (seen o) v) (observe_of b.table m o)) rep.verdict' (look (eqb m.verdict 2) refl (eqb m.verdict 1))
    where
      look : (x : Bool) → eqb m.verdict 2 ≡ x → (y : Bool) → Alike S.rules (or_stopped S.rules model (seen o) (cond x (broken_at m.taken m.mask) (cond y (some_open m.mask) all_whole)))
          (cond x (record { monitor = m; answer = Ok (Broken m.taken m.mask) }) (looked_of b.table m o))
      look true q y = record { answer = refl; represents = rep }
      look false q true = looked model m rep q o
      look false q false = looked model m rep q o

-- ---- the promise

module _ (S : Sheet) (k : Kept) (b : Book) (m : Held) (f : Tracks S k b m) (o : Observation) (oracle : Oracle) (right : Right S.rules oracle) where
  abbrev r : Observed
  r = observe_of b.table m o

  abbrev turn : J.Turn
  turn = judge oracle k (seen o)

  mine : Right S.rules (model_oracle S.rules)
  mine = right-oracle S.rules (rules-formed S f.formed).each

  turn_is : judge (model_oracle S.rules) k (seen o) ≡ judge oracle k (seen o)
  turn_is = (one-turn S.rules (model_oracle S.rules) oracle mine right k (seen o) f.falls).is

  both : Alike S.rules (observe S.rules f.model (seen o)) (observe_of b.table m o)
  both = alike S f.formed b f.looks f.model m f.represents o

  pub observe-answers : values_of r.answer ≡ answer_values (judge oracle k (seen o)).answer
  observe-answers = both.answer ∙ ap answer_values ((together S.rules k f.model f.follows (seen o)).answer ∙ ap (λ (t : J.Turn). t.answer) turn_is)

  pub observe-follows : Tracks S (judge oracle k (seen o)).kept b r.monitor
  observe-follows = record {
    formed = f.formed;
    looks = f.looks;
    falls = (one-turn S.rules oracle (model_oracle S.rules) right mine k (seen o) f.falls).falls;
    model = (observe S.rules f.model (seen o)).monitor;
    follows = subst (λ (t : J.Turn). A.Follows S.rules t.kept (observe S.rules f.model (seen o)).monitor) turn_is (together S.rules k f.model f.follows (seen o)).follows;
    represents = both.represents;
  }

-- ---- the code

-- what the code's observing promises follows from what it leaves
pub promise : {table before : List ℕ} {o : Observation} {a : Answer} {after : List ℕ} → Leaves table before o a after → Observes in_memory table before o a after
promise {before = before} {o} l = record {
  fits = λ f. (l.gives f).holds.fits;
  holds = λ f i. record { monitor = (l.gives f).holds.held i; answer = (l.gives f).answer i };
  unchanged = l.unchanged;
  stopped = l.stopped;
  blank = l.blank;
  answers = λ b e S k f oracle right. ap values_of (l.gives f.fits).answer ∙ rw (← e) (observe-answers S k b (held_by before) f.tracks o oracle right);
  follows = λ b e S k f oracle right. record {
    fits = (l.gives f.fits).holds.fits;
    tracks = rw ((l.gives f.fits).holds.held, ← e) (observe-follows S k b (held_by before) f.tracks o oracle right);
  };
}
