-- Demand 3 for a session: `session-agreement`, the law of every form of a monitor at the one that is changed in place; and opening.
-- Assumes nothing.
use mathlib.Core.Path.{◌≡◌, refl, ◌∙◌, ap, subst}
use mathlib.Core.List.{List}
use Prim.Native.Nat.{ℕ}
use Rattle.pattern.specs.Values.{verdict_values}
use Rattle.layout.specs.Layout.{Sheet, WellFormedSheet, Bytes}
use Rattle.layout.specs.Reading.{Outcome, accepted, refused, read_sheet}
use Rattle.layout.proofs.Acceptance.{accepted-is-encoded}
use Rattle.std.specs.Prelude.{Result, Ok, Err, ⊤}
use Rattle.fields.specs.declared.Refused.{Refused}
use Rattle.sheet.proofs.Cases.{AnswerOf}
use Rattle.book.specs.Books.{Translates, book_of}
use Rattle.book.specs.declared.Book.{Book}
use Rattle.book.proofs.Lookups.{looks}
use Rattle.book.proofs.Translated.{answered}
use Rattle.monitor.specs.Promise.{Freshes, CodeAgreement}
use Rattle.monitor.proofs.Agreement.{agrees_from}
use Rattle.value.specs.Value.{numbers_of, by_value}
use Rattle.value.specs.declared.Monitor.{Monitor}
use Rattle.answers.specs.declared.Observation.{Observation}
use Rattle.answers.specs.Cases.{Answer}
use Rattle.session.specs.Session.{Lent, OpensBy, Opens, Session, SessionAgreement}

-- ---- opening

module _ (bytes : List ℕ) (before : Lent) where
  pub opens-accepted : (b : Book) → Translates bytes (Ok b) → (first : Monitor) → Freshes by_value first → Opens bytes before (Ok tt) (record { book = b; monitor = first })
  opens-accepted b translates first fresh = record { answers = translates.answers; opens = look (read_sheet bytes) refl (answered bytes (Ok b) translates) }
    where
      look : (x : Outcome) → read_sheet bytes ≡ x → AnswerOf {A = Book} x (Ok b) → OpensBy x before (record { book = b; monitor = first })
      look (accepted S) f p = (cc (translates.keeps S f), fresh)
      look (refused k q) f p = absurd p

  pub opens-refused : (e : Refused) → Translates bytes (Err e) → Opens bytes before (Err e) before
  opens-refused e translates = record { answers = translates.answers; opens = look (read_sheet bytes) (answered bytes (Err e) translates) }
    where
      look : (x : Outcome) → AnswerOf {A = Book} x (Err e) → OpensBy x before before
      look (accepted S) p = absurd p
      look (refused k q) p = (refl, refl)

-- ---- the whole list

-- for every accepted sheet's bytes, the book of the sheet, every monitor that `start` has put in place and every list of observations: the calls in place answer what the judge answers
pub session-agreement : (bytes : List ℕ) → Bytes bytes → (S : Sheet) → read_sheet bytes ≡ accepted S
    → (m : Monitor) → Freshes by_value m → (os : List Observation) (as' : List Answer) (last : Monitor) → Session (book_of S).table m os as' last → SessionAgreement S os as' last
session-agreement bytes are S is m fresh os as' last s = record {
  agrees = along;
  counts = λ oracle right n e. e ∙ (along.agrees oracle right).taken;
  says = λ oracle right v e. ap verdict_values (e ∙ (along.agrees oracle right).verdict);
}
  where
    formed : WellFormedSheet S
    formed = (accepted-is-encoded bytes are is).formed

    along : CodeAgreement S os as' (numbers_of last)
    along = agrees_from by_value (book_of S) S formed m (fresh.follows S (book_of S) formed (looks S formed)) s

-- the same from the book and the monitor that `open_sheet` left
pub opened-agreement : (bytes : List ℕ) → Bytes bytes → (before after : Lent) (r : Result ⊤ Refused) → Opens bytes before r after → (S : Sheet) → read_sheet bytes ≡ accepted S
    → (os : List Observation) (as' : List Answer) (last : Monitor) → Session after.book.table after.monitor os as' last → SessionAgreement S os as' last
opened-agreement bytes are before after r opens S is os as' last s =
    let o : OpensBy (accepted S) before after = subst (λ (x : Outcome). OpensBy x before after) is opens.opens in
    session-agreement bytes are S is after.monitor o.1 os as' last (subst (λ (b : Book). Session b.table after.monitor os as' last) o.0 s)
