-- What observing promises, for every form of a monitor. `Follows` is the one relation that callers keep: a monitor follows what the judge keeps, under the book of a well-formed sheet. Its
-- parts are this crate's own.
-- Assumes nothing.
use Rattle.std.specs.Prelude.{◌≡◌, false, cond, ◌&&◌, List, [], ◌∷◌, map, ℕ, ◌<◌, ltb, eqb, length, get_or}
use Rattle.names.specs.Names.{member}
use Rattle.pattern.specs.Meaning.{Rule}
use Rattle.pattern.specs.Judge.{NeverFalls, Oracle, Right, Verdict, all_whole, some_open, broken_at, verdict_of, mask, is_open, Kept, nothing, judge, judge_answers, judge_keeps}
use Rattle.pattern.specs.Values.{answer_values}
use Rattle.pattern.specs.Model.{statuses}
use Rattle.pattern.specs.Model as M
use Rattle.pattern.specs.Agreement as A
use Rattle.layout.specs.Layout.{Sheet, WellFormedSheet}
use Rattle.layout.specs.Pages.{rule_at}
use Rattle.book.specs.Looks.{Looks}
use Rattle.book.specs.declared.Book.{Book}
use Rattle.step.specs.Shows.{Shows, running}
use Rattle.words.specs.Words.{no_state, Held, held_by, Fits, Blank}
use Rattle.opening.specs.Fresh.{fresh_held}
use Rattle.answers.specs.Observe.{observe_of}
use Rattle.answers.specs.declared.Observation.{Observation}
use Rattle.answers.specs.declared.Verdict as V
pub use Rattle.answers.specs.Cases.{Answer, seen, said, values_of}

-- the verdict that a monitor holds: 2 is broken, at the last observation taken; 1 is open
abbrev pub verdict_in : Held → Verdict
verdict_in m = cond (eqb m.verdict 2) (broken_at m.taken m.mask) (cond (eqb m.verdict 1) (some_open m.mask) all_whole)

-- it is the verdict that a monitor holds
abbrev pub Says : V.Verdict → Held → Type 0
Says v m = said v ≡ verdict_in m

-- ---- a monitor's numbers, and the state of the model that they stand for

-- the state of rule r; numbers past the last rule's are not looked at
abbrev pub no_model : M.RuleState
no_model = record { fragment = 0; states = []; counts = []; end = 0 }

abbrev pub model_at : List M.RuleState → ℕ → M.RuleState
model_at sts r = get_or sts r no_model

pub record Represents (rules : List Rule) (model : M.Monitor) (m : Held) : Type 0 where
  pub sixteen : length m.rules ≡ 16
  pub many : length model.rules ≡ length rules
  -- after a break the rules' states say nothing
  pub shows : eqb m.verdict 2 ≡ false → (r : ℕ) → r < length rules → Shows (rule_at rules r) (get_or m.rules r no_state) (model_at model.rules r)
  pub time : m.latest ≡ model.latest
  pub count : m.taken ≡ model.taken
  pub verdict' : verdict_in m ≡ model.verdict
  pub settled : model.verdict ≡ verdict_of model.taken (statuses rules model.rules model.latest)
  -- the two masks are caches: bit r is a function of rule r's state. After a break they say nothing
  pub opens : eqb m.verdict 2 ≡ false → m.mask ≡ mask is_open (statuses rules model.rules model.latest)
  pub due : eqb m.verdict 2 ≡ false → (r : ℕ) → member m.dues r ≡ (ltb r (length rules) && running (rule_at rules r) (model_at model.rules r))

-- ---- the relation

-- a monitor's numbers follow the judge's kept list and verdict, under the book of the sheet
pub record Tracks (S : Sheet) (k : Kept) (b : Book) (m : Held) : Type 0 where
  pub formed : WellFormedSheet S
  pub looks : Looks S b
  pub falls : NeverFalls 0 k.taken
  pub model : M.Monitor
  pub follows : A.Follows S.rules k model
  pub represents : Represents S.rules model m

-- ---- the promise, for every form of a monitor

-- a form: what a monitor of it holds; which values are of the form; and that nothing stands in bytes of it that hold nothing
pub record Form (X : Type 0) : Type 1 where
  pub held : X → Held
  pub Fits : X → Type 0
  pub Blank : X → Type 0

-- in memory, as bytes: their type says how many, but a contract is not told the length of an array behind a reference
abbrev pub in_memory : Form (List ℕ)
in_memory = record { held = held_by; Fits = Fits; Blank = Blank }

module _ {X : Type 0} (F : Form X) where
  -- a monitor follows what the judge keeps, under the book of the sheet
  pub record Follows (S : Sheet) (k : Kept) (b : Book) (m : X) : Type 0 where
    pub fits : F.Fits m
    pub tracks : Tracks S k b (F.held m)

  -- one observation, under the table that is lent
  pub record Observes (table : List ℕ) (before : X) (o : Observation) (a : Answer) (after : X) : Type 0 where
    pub fits : F.Fits before → F.Fits after
    -- for every table and every monitor: what the monitor then holds, and the answer, are this function of the table, of what it held and of the observation. So for a table or a monitor that
    -- these calls did not make only the verdict is free (`Every`, in answers/specs)
    pub holds : F.Fits before → record { monitor = F.held after; answer = a } ≡ observe_of table (F.held before) o
    -- a refused observation leaves the monitor equal, and so does every observation after a break
    pub unchanged : (values_of a).answer ≡ 3 → after ≡ before
    pub stopped : (F.held before).verdict ≡ 2 → after ≡ before
    -- one that is taken leaves nothing in bytes that hold nothing, whatever stood there
    pub blank : F.Fits before → ((F.held before).verdict ≡ 2 → ⊥) → ((values_of a).answer ≡ 3 → ⊥) → F.Blank after
    -- for any book with this table, of a well-formed sheet, and a monitor that follows what the judge keeps: the judge's next answer, and the monitor follows what the judge then keeps
    pub answers : (b : Book) → b.table ≡ table → (S : Sheet) (k : Kept) → Follows S k b before → (oracle : Oracle) → Right S.rules oracle → values_of a ≡ answer_values (judge oracle k (seen o)).answer
    pub follows : (b : Book) → b.table ≡ table → (S : Sheet) (k : Kept) → Follows S k b before → (oracle : Oracle) → Right S.rules oracle → Follows S (judge oracle k (seen o)).kept b after

  -- a fresh monitor: it is the same for every book, and follows the judge that has kept nothing
  pub record Freshes (m : X) : Type 0 where
    pub fits : F.Fits m
    pub holds : F.held m ≡ fresh_held
    pub blank : F.Blank m
    pub follows : (S : Sheet) (b : Book) → WellFormedSheet S → Looks S b → Follows S nothing b m

-- ---- a run of calls

-- one observation after the other, each on what the last one left; what a call promises is all that is known of it, in whatever form (`Observes`)
pub data Run {X : Type 0} (Call : X → Observation → Answer → X → Type 0) : X → List Observation → List Answer → X → Type 0 where
  done : {m : X} → Run Call m [] [] m
  more : {m next last : X} {o : Observation} {os : List Observation} {a : Answer} {as' : List Answer} → Call m o a next → Run Call next os as' last → Run Call m (o ∷ os) (a ∷ as') last

-- demand 3 for such a run: the values of the judge's answers in order, the length of its list, and its verdict, in the numbers of the monitor that the last call left
pub record RunAgrees (S : Sheet) (os : List Observation) (as' : List Answer) (m : Held) (oracle : Oracle) : Type 0 where
  pub answered : map values_of as' ≡ map answer_values (judge_answers oracle nothing (map seen os))
  pub taken : m.taken ≡ length (judge_keeps oracle nothing (map seen os)).taken
  pub verdict : verdict_in m ≡ (judge_keeps oracle nothing (map seen os)).verdict

pub record CodeAgreement (S : Sheet) (os : List Observation) (as' : List Answer) (m : Held) : Type 0 where
  -- a judge exists, and with every one of them the run agrees
  pub judged : (oracle : Oracle) × Right S.rules oracle
  pub agrees : (oracle : Oracle) → Right S.rules oracle → RunAgrees S os as' m oracle
