-- The five numbers: a refused sheet's, and those of the run under an accepted sheet's book. There is a judge for every sheet: `judged`.
-- Assumes nothing.
use mathlib.Core.Path.{◌≡◌, refl, sym, ◌∙◌, ap, ap₂, subst}
use mathlib.Core.List.{List, [], ◌++◌}
use Prim.Native.Nat.{ℕ, ◌≤◌, ◌<◌}
use native.Mathlib.Omega.{arith}
use lib.ListN.{length, drop}
use borrow.Author.Tests.{lt-ltb, le-ltb}
use Rattle.pattern.specs.Judge.{Oracle, Right}
use Rattle.pattern.proofs.Oracle.{model_oracle, right-oracle}
use Rattle.layout.specs.Layout.{Sheet, Bytes}
use Rattle.layout.specs.Reading.{accepted, refused, read_sheet}
use Rattle.layout.specs.Reading as R
use Rattle.fields.specs.Faults.{number_of}
use Rattle.fields.specs.declared.Refused.{Refused}
use Rattle.sheet.proofs.Cases.{AnswerOf}
use Rattle.layout.proofs.Acceptance.{accepted-is-encoded}
use Rattle.std.specs.Prelude.{Ok, Err}
use Rattle.book.specs.Books.{Translates, book_of}
use Rattle.book.specs.Looks.{Looks}
use Rattle.book.specs.declared.Book.{Book}
use Rattle.book.proofs.Lookups.{looks}
use Rattle.book.proofs.Translated.{answered}
use Rattle.layout.proofs.Accepted.{accepted-rules}
use Rattle.runner.specs.declared.Outcome.{Outcome}
use Rattle.runner.specs.Log.{turned_away}
use Rattle.runner.specs.Runs.{Runs}
use Rattle.host.specs.Host.{outcome_by, Judging, Outcomes, twelve, Calls}

-- ---- a judge for every sheet

same-sheet : {S T : Sheet} → accepted S ≡ accepted T → S ≡ T
same-sheet e = cc e

unlike : {A : Type 0} {S : Sheet} {k place : ℕ} → refused k place ≡ accepted S → A
unlike e = absurd (let z : ◌≡◌ {A = ℕ} 0 1 = cc e in omega arith)

module _ (sheet : List ℕ) (bytes : Bytes sheet) where
  pub judged : (oracle : Oracle) × Judging sheet oracle
  judged = look (read_sheet sheet) refl
    where
      look : (r : R.Outcome) → read_sheet sheet ≡ r → (oracle : Oracle) × Judging sheet oracle
      look (accepted S) e = (
        model_oracle S.rules,
        λ T f. subst (λ (X : Sheet). Right X.rules (model_oracle S.rules)) (same-sheet (sym e ∙ f))
            (right-oracle S.rules (accepted-rules sheet bytes e).each),
      )
      look (refused k place) e = ((λ os. []), λ S f. unlike (sym e ∙ f))

  -- ---- what the reader's answer says

  module _ (log : List ℕ) (budget : ℕ) (r : Outcome) where
    pub sheet-refused : (e : Refused) → Translates sheet (Err e) → r ≡ turned_away (number_of e.fault) e.place → Outcomes sheet log budget r
    sheet-refused e translates is oracle judging = look (read_sheet sheet) (answered sheet (Err e) translates)
      where
        look : (x : R.Outcome) → AnswerOf {A = Book} x (Err e) → r ≡ outcome_by oracle x log budget
        look (accepted S) p = absurd p
        look (refused k q) p = is ∙ ap₂ turned_away p.0 p.1

    pub sheet-accepted : (b : Book) → Translates sheet (Ok b) → Runs b.table log budget r → Outcomes sheet log budget r
    sheet-accepted b translates runs oracle judging = look (read_sheet sheet) refl (answered sheet (Ok b) translates)
      where
        look : (x : R.Outcome) → read_sheet sheet ≡ x → AnswerOf {A = Book} x (Ok b) → r ≡ outcome_by oracle x log budget
        look (accepted S) f p =
            let formed = (accepted-is-encoded sheet bytes f).formed in
            let own : b ≡ book_of S = cc (translates.keeps S f) in
            runs.judged S b formed (subst (Looks S) (sym own) (looks S formed)) refl oracle (judging S f)
        look (refused k q) f p = absurd p

-- ---- the call

module _ (sheet log : List ℕ) (budget : ℕ) (out : List ℕ) where
  pub too_short : length out < 12 → Calls sheet log budget out 15 out
  too_short h oracle judging = rw (lt-ltb (length out) 12 h)

  pub written : {o : Outcome} (after : List ℕ) → 12 ≤ length out → Outcomes sheet log budget o → after ≡ twelve o ++ drop 12 out → Calls sheet log budget out 0 after
  written {o} after h is e oracle judging =
      rw (le-ltb (length out) 12 h) (λ i. record { returned = 0; output = (e ∙ ap (λ (x : Outcome). twelve x ++ drop 12 out) (is oracle judging)) i })
