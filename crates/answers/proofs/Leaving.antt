-- What the code leaves in a monitor's memory, case by case, is what one observation makes of the monitor that it holds.
-- Assumes nothing.
use mathlib.Core.Path.{◌≡◌, refl, sym}
use mathlib.Core.List.{List}
use Rattle.std.specs.Prelude.{Ok, Err}
use Prim.Native.Nat.{ℕ, ◌<◌, ◌≤◌}
use native.Mathlib.Omega.{arith}
use lib.ListN.{get_or}
use borrow.Author.Tests.{le-leb, lt-leb, le-ltb, lt-ltb, eq-eqb, ne_eqb}
use Rattle.tables.specs.Cells.{mask_in}
use Rattle.words.specs.Words.{Held, held_by, Fits, Holds, Blank}
use Rattle.rules.specs.Pass.{pass_of, Passes}
use Rattle.rules.specs.declared.Masks.{Masks}
use Rattle.answers.specs.Cases.{Answer, values_of}
use Rattle.answers.specs.Observe.{Observed, refused_of, taken_of, looked_of, observe_of, Admits, Gives, Judges, Leaves}
use Rattle.answers.specs.declared.Observation.{Observation}
use Rattle.answers.specs.declared.Observation.TheVariants.{Event, Clock}
use Rattle.answers.specs.declared.Verdict.{Verdict}
use Rattle.answers.specs.declared.Verdict.TheVariants.{Whole, Open, Broken}
use Rattle.answers.specs.declared.Refusal.{Refusal}
use Rattle.answers.specs.declared.Refusal.TheVariants.{BadName, FallingTime, FullCount}

-- a refusal leaves all, and so does any observation after a break
stays : {before : List ℕ} {o : Observed} {a : Answer} → o ≡ record { monitor = held_by before; answer = a } → Fits before → Gives o a before
stays e l = rw e (record { holds = record { fits = l; held = refl }; answer = refl })

-- a verdict is no refusal
no_refusal : (v : Verdict) → (values_of (Ok v)).answer ≡ 3 → ⊥
no_refusal Whole e = omega arith
no_refusal (Open mask) e = omega arith
no_refusal (Broken k mask) e = omega arith

-- ---- an observation whose name is right, of a monitor that has not stopped

pub record Takes (table before : List ℕ) (concerned name time : ℕ) (a : Answer) (after : List ℕ) : Type 0 where
  gives : Fits before → Gives (taken_of table (held_by before) concerned name time) a after
  unchanged : (values_of a).answer ≡ 3 → after ≡ before
  blank : Fits before → ((values_of a).answer ≡ 3 → ⊥) → Blank after

module _ {table before : List ℕ} {concerned name time : ℕ} where
  stays-refused : {why : Refusal} → taken_of table (held_by before) concerned name time ≡ record { monitor = held_by before; answer = Err why } → Takes table before concerned name time (Err why) before
  stays-refused e = record { gives = stays e; unchanged = λ z. refl; blank = λ l z. absurd (z refl) }

  -- by its time
  pub takes-early : time < (held_by before).latest → Takes table before concerned name time (Err FallingTime) before
  unfolding taken_of refused_of
  takes-early h = stays-refused (rw (lt-ltb time (held_by before).latest h))

  -- by the count
  pub takes-full : (held_by before).latest ≤ time → 4294967295 ≤ (held_by before).taken → Takes table before concerned name time (Err FullCount) before
  unfolding taken_of refused_of
  takes-full h g = stays-refused (rw (le-ltb time (held_by before).latest h, le-leb 4294967295 (held_by before).taken g))

  pub takes-refused : (why : Refusal) → Admits (held_by before) time (Err why) → Takes table before concerned name time (Err why) before
  takes-refused BadName h = absurd h
  takes-refused FallingTime h = takes-early h
  takes-refused FullCount h = takes-full h.0 h.1

  pub takes-judged : {opens dues k : ℕ} {p : Masks} {between after : List ℕ} {v : Verdict} → Admits (held_by before) time (Ok k)
      → opens ≡ (held_by before).mask → dues ≡ (held_by before).dues
      → ((was : Held) → Holds before was → Passes (pass_of table concerned opens dues was.rules name time) was p between) → Judges between p k time v after
      → Takes table before concerned name time (Ok v) after
  unfolding taken_of
  takes-judged {v} h eo ed passes judges = record {
    gives = λ l.
        let pass = passes (held_by before) (record { fits = l; held = refl }) in
        rw (le-ltb time (held_by before).latest h.0, lt-leb 4294967295 (held_by before).taken h.1) (rw (pass.masks, eo, ed, h.2) at (judges.gives pass.holds));
    unchanged = λ z. absurd (no_refusal v z);
    blank = λ l z. judges.blank (passes (held_by before) (record { fits = l; held = refl })).holds;
  }

-- ---- any observation

module _ {table before : List ℕ} where
  pub leaves-stopped : {o : Observation} → (held_by before).verdict ≡ 2 → Leaves table before o (Ok (Broken (held_by before).taken (held_by before).mask)) before
  unfolding observe_of
  leaves-stopped h = record {
    gives = stays (rw (eq-eqb (held_by before).verdict 2 h));
    unchanged = λ z. refl;
    stopped = λ z. refl;
    blank = λ l z. absurd (z h);
  }

  module _ (running : (held_by before).verdict ≡ 2 → ⊥) where
    goes_on : {o : Observation} {concerned name time : ℕ} {a : Answer} {after : List ℕ} → taken_of table (held_by before) concerned name time ≡ observe_of table (held_by before) o
        → Takes table before concerned name time a after → Leaves table before o a after
    goes_on e t = record { gives = λ l. rw e at (t.gives l); unchanged = t.unchanged; stopped = λ z. absurd (running z); blank = λ l z. t.blank l }

    pub leaves-unnamed : {name time : ℕ} → 64 ≤ name → Leaves table before (Event name time) (Err BadName) before
    unfolding observe_of looked_of refused_of
    leaves-unnamed {name} h = record {
      gives = stays (rw (ne_eqb (held_by before).verdict 2 running, le-leb 64 name h));
      unchanged = λ z. refl;
      stopped = λ z. refl;
      blank = λ l s z. absurd (z refl);
    }

    pub leaves-named : {name time concerned : ℕ} {a : Answer} {after : List ℕ} → name < 64 → concerned ≡ mask_in (get_or table name 0) → Takes table before concerned name time a after
        → Leaves table before (Event name time) a after
    unfolding observe_of looked_of
    leaves-named {name} h mask = goes_on (rw mask (sym (rw (ne_eqb (held_by before).verdict 2 running, lt-leb 64 name h))))

    pub leaves-clock : {time : ℕ} {a : Answer} {after : List ℕ} → Takes table before 0 0 time a after → Leaves table before (Clock time) a after
    unfolding observe_of looked_of
    leaves-clock = goes_on (sym (rw (ne_eqb (held_by before).verdict 2 running)))
