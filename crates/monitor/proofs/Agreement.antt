-- Demand 3 for the code. A fresh monitor follows the judge that has kept nothing; one observation keeps the two together; so along every list the run of the calls answers as the judge: `agreement`.
-- Assumes nothing.
use mathlib.Core.Path.{◌≡◌, refl, sym, ◌∙◌, ap, ap₂, subst}
use mathlib.Core.Bool.{Bool, true, false, ◌&&◌, and-false}
use mathlib.Core.List.{List, [], ◌∷◌, map}
use Prim.Native.Nat.{ℕ, zero, suc, ◌<◌}
use native.Mathlib.Nat.{not-suc-le-zero}
use native.Mathlib.Omega.{arith}
use lib.Dec.{ltb}
use lib.ListN.{length, get_or, get_or-replicate}
use borrow.Author.Tests.{ltb-true}
use Rattle.names.proofs.Sets.{member-empty}
use Rattle.pattern.specs.Lists.{Each}
use Rattle.pattern.specs.Meaning.{Rule, Status, whole, WellFormed}
use Rattle.pattern.specs.Judge.{Oracle, Right, mask, Kept, nothing, judge, judge_answers, judge_keeps}
use Rattle.pattern.specs.Judge as J
use Rattle.pattern.specs.Values.{Values, answer_values}
use Rattle.pattern.specs.Model.{statuses, status_at, at_rest, fresh_monitor, fresh}
use Rattle.pattern.specs.Model as M
use Rattle.pattern.proofs.Basics.{is_true}
use Rattle.pattern.proofs.Oracle.{model_oracle, right-oracle}
use Rattle.pattern.proofs.Tracks.{fresh-at-rest}
use Rattle.pattern.proofs.Agreement.{fresh-follows}
use Rattle.std.specs.Prelude.{Result, Ok}
use Rattle.layout.specs.Layout.{Sheet, WellFormedSheet, Bytes}
use Rattle.layout.specs.Pages.{rule_at}
use Rattle.layout.specs.Reading.{accepted, read_sheet}
use Rattle.layout.proofs.Acceptance.{accepted-is-encoded}
use Rattle.layout.proofs.Accepted.{rules-formed, rule-formed}
use Rattle.tables.specs.Cells.{is_timed}
use Rattle.book.specs.Books.{Translates}
use Rattle.book.specs.declared.Book.{Book}
use Rattle.fields.specs.declared.Refused.{Refused}
use Rattle.book.proofs.Translated.{translated}
use Rattle.rule_state.specs.declared.RuleState.{RuleState}
use Rattle.step.specs.Shows.{untouched, running}
use Rattle.words.specs.Words.{no_state, Held, Clean}
use Rattle.opening.specs.Fresh.{fresh_state, fresh_held}
use Rattle.monitor.specs.Promise.{Answer, seen, values_of, verdict_in, no_model, model_at, Represents, Tracks, Form, in_memory, Follows, Observes, Freshes, Run, done, more, CodeAgreement}
use Rattle.answers.specs.declared.Observation.{Observation}

-- ---- the fresh monitor

fresh-length : (rules : List Rule) → length (M.fresh_states rules) ≡ length rules
fresh-length [] = refl
fresh-length (r ∷ rs) = ap suc (fresh-length rs)

fresh_at : (rules : List Rule) (r : ℕ) (d : M.RuleState) → r < length rules → get_or (M.fresh_states rules) r d ≡ fresh (rule_at rules r)
fresh_at [] r d h = absurd (not-suc-le-zero h)
fresh_at (x ∷ rs) zero d h = refl
fresh_at (x ∷ rs) (suc r) d h = fresh_at rs r d (omega arith)

-- every rule is whole
whole-mask : (t : Status → Bool) → t whole ≡ false → (rules : List Rule) → Each WellFormed rules → (now : ℕ) → mask t (statuses rules (M.fresh_states rules) now) ≡ 0
whole-mask t z [] w now = refl
whole-mask t z (r ∷ rs) w now =
    let s : status_at r (fresh r) now ≡ whole = rw (is_true (at_rest r (fresh r)) (fresh-at-rest r w.0)) in
    rw (s, z, whole-mask t z rs w.1 now)

module _ (S : Sheet) (formed : WellFormedSheet S) where
  small : (r : ℕ) → r < length S.rules → r < 16
  small r h = let few = formed.count.1 in omega arith

  idle : (r : ℕ) → (ltb r (length S.rules) && running (rule_at S.rules r) (model_at (M.fresh_states S.rules) r)) ≡ false
  idle r = look (ltb r (length S.rules)) refl
    where
      look : (x : Bool) → ltb r (length S.rules) ≡ x → (x && running (rule_at S.rules r) (model_at (M.fresh_states S.rules) r)) ≡ false
      look true q =
          let h : r < length S.rules = ltb-true r (length S.rules) q in
          let rule : Rule = rule_at S.rules r in
          rw (fresh_at S.rules r no_model h, is_true (at_rest rule (fresh rule)) (fresh-at-rest rule (rule-formed S formed r h))) (and-false (is_timed rule.kind))
      look false q = refl

  fresh-represents : Represents S.rules (fresh_monitor S.rules) fresh_held
  unfolding fresh_held
  fresh-represents = record {
    sixteen = refl;
    many = fresh-length S.rules;
    shows = λ z r h. untouched (ap (λ (st : RuleState). get_or st.states 0 0) (get_or-replicate 16 r fresh_state no_state (small r h))) (fresh_at S.rules r no_model h);
    time = refl;
    count = refl;
    verdict' = refl;
    settled = sym (rw (whole-mask J.is_broken refl S.rules (rules-formed S formed).each 0, whole-mask J.is_open refl S.rules (rules-formed S formed).each 0));
    opens = λ z. sym (whole-mask J.is_open refl S.rules (rules-formed S formed).each 0);
    due = λ z r. member-empty r ∙ sym (idle r);
  }

-- what the code's fresh monitor promises follows from what its memory holds
pub fresh_promise : {m : List ℕ} → Clean m fresh_held → Freshes in_memory m
fresh_promise h = record {
  fits = h.holds.fits;
  holds = h.holds.held;
  blank = h.blank;
  follows = λ S b formed looks. record {
    fits = h.holds.fits;
    tracks = record {
      formed = formed;
      looks = looks;
      falls = tt;
      model = fresh_monitor S.rules;
      follows = fresh-follows S.rules;
      represents = subst (Represents S.rules (fresh_monitor S.rules)) (sym h.holds.held) (fresh-represents S formed);
    };
  };
}

-- ---- what following says of a monitor

pub tracks-taken : (S : Sheet) (k : Kept) (b : Book) (m : Held) → Tracks S k b m → m.taken ≡ length k.taken
tracks-taken S k b m t = t.represents.count ∙ t.follows.taken

pub tracks-verdict : (S : Sheet) (k : Kept) (b : Book) (m : Held) → Tracks S k b m → verdict_in m ≡ k.verdict
tracks-verdict S k b m t = t.represents.verdict' ∙ t.follows.verdict

-- ---- the whole list

module _ {X : Type 0} (F : Form X) (table : List ℕ) (b : Book) (lent : b.table ≡ table) (S : Sheet) (oracle : Oracle) (right : Right S.rules oracle) where
  record Along (k : Kept) (os : List Observation) (as' : List Answer) (last : X) : Type 0 where
    answered : map values_of as' ≡ map answer_values (judge_answers oracle k (map seen os))
    follows : Follows F S (judge_keeps oracle k (map seen os)) b last

  along : {m last : X} {os : List Observation} {as' : List Answer} → Run (Observes F table) m os as' last → (k : Kept) → Follows F S k b m → Along k os as' last
  along done k f = record { answered = refl; follows = f }
  along (more {o = o} c run) k f =
      let a = along run (judge oracle k (seen o)).kept (c.follows b lent S k f oracle right) in
      record { answered = ap₂ (λ (x : Values) (l : List Values). x ∷ l) (c.answers b lent S k f oracle right) a.answered; follows = a.follows }

-- from a monitor that follows the judge who has kept nothing
pub agrees_from : {X : Type 0} (F : Form X) (b : Book) (S : Sheet) → WellFormedSheet S → (m : X) → Follows F S nothing b m
    → {os : List Observation} {as' : List Answer} {last : X} → Run (Observes F b.table) m os as' last → CodeAgreement S os as' (F.held last)
agrees_from F b S formed m f {os} {as'} {last} run = record {
  judged = (model_oracle S.rules, right-oracle S.rules (rules-formed S formed).each);
  agrees = λ oracle right.
      (let a = along F b.table b refl S oracle right run nothing f in
      record {
        answered = a.answered;
        taken = tracks-taken S (judge_keeps oracle nothing (map seen os)) b (F.held last) a.follows.tracks;
        verdict = tracks-verdict S (judge_keeps oracle nothing (map seen os)) b (F.held last) a.follows.tracks;
      });
}

-- for every accepted sheet's bytes, every form of a monitor and every list of observations: the bytes are translated into a book, and what opening and observing one after the other under it
-- answers is what the judge answers
module _ (bytes : List ℕ) (are : Bytes bytes) (t : Result Book Refused) (translates : Translates bytes t) (S : Sheet) (is : read_sheet bytes ≡ accepted S) where
  pub agreement : (b : Book) × (t ≡ Ok b) × ((X : Type 0) (F : Form X) (m : X) → Freshes F m → (os : List Observation) (as' : List Answer) (last : X)
      → Run (Observes F b.table) m os as' last → CodeAgreement S os as' (F.held last))
  agreement =
      let (b, e, l) = translated bytes t are translates S is in
      let formed : WellFormedSheet S = (accepted-is-encoded bytes are is).formed in
      (b, e, λ X F m fresh os as' last. agrees_from F b S formed m (fresh.follows S b formed l))
