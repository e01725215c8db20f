-- `sheet::read_into` meets its contract: the first fault is told as it was found, then bytes left over, and else the tables are the sheet's. Assumes nothing.
use Rattle.std.proofs.Common.{refl, ◌≡◌, sym, ap, ◌∙◌, List, ℕ, ◌≤◌, ◌<◌, length, Result, Ok, Err, IsErrAnd, arith}
use Rattle.std.proofs.lemmas.Result.{err_from_is_err_and}
use borrow.Author.Tests.{lt-ltb, le-ltb}
use Rattle.layout.specs.Layout.{Sheet}
use Rattle.layout.specs.Reading.{sheet, Outcome, accepted, refused, read_sheet_on, read_sheet}
use Rattle.layout.specs.Pages.{head_table, fragment_table, range_table}
use Rattle.fields.specs.Faults.{number_of}
use Rattle.fields.specs.Told.{Told, Ended, a_part}
use Rattle.fields.specs.declared.Reader.{Reader}
use Rattle.fields.specs.declared.Refused.{Refused}
use Rattle.sheet.specs.Shown.{no_pages, SheetShown}
use Rattle.sheet.specs.Answers.{read_values, pages_of, ReadsInto}
use Rattle.sheet.specs.declared.Pages.{Pages}
use Rattle.sheet.proofs.read_into.Goals as goal

not-both : {S : Sheet} {k place : ℕ} {o : Outcome} → o ≡ accepted S → o ≡ refused k place → ⊥
not-both e f = let z : ◌≡◌ {A = ℕ} 0 1 = cc (e, f) in omega arith

same-sheet : {S T : Sheet} {o : Outcome} → o ≡ accepted S → o ≡ accepted T → S ≡ T
same-sheet e f = cc (e, f)

pages-of : {p₀ p : Pages} (S : Sheet) → p₀ ≡ no_pages → SheetShown p₀ p S → p ≡ pages_of S
unfolding head_table fragment_table range_table
pages-of {p₀} {p} S none w =
    let t = w.tables' in
    let same : ◌≡◌ {A = Pages}
    (record {
      version = p.version;
      outputs = p.outputs;
      count = p.count;
      tables = record { heads = p.tables.heads; fragments = p.tables.fragments; ranges = p.tables.ranges };
    })
    (pages_of S)
    = rw (w.version', w.outputs', w.count', t.heads', t.fragments, t.ranges, none) in
    same

module _ (s : List ℕ) {p₀ p : Pages} where
  refuses : (e : Refused) {r : Result (Unit {0}) Refused} → IsErrAnd r (λ y. y ≡ e) → read_sheet s ≡ refused (number_of e.fault) e.place → ReadsInto s p₀ p r
  refuses why {r} err e = let p = err_from_is_err_and r err in rw (p.1, p.2) (record { answers = sym (ap read_values e); keeps = λ _ S f. absurd (not-both f e) })

  accepts : {S : Sheet} → read_sheet s ≡ accepted S → (p₀ ≡ no_pages → p ≡ pages_of S) → ReadsInto s p₀ p (Ok (tt {0}))
  accepts e same = record { answers = sym (ap read_values e); keeps = λ none T f. (refl, same none ∙ ap pages_of (same-sheet e f)) }

  -- a reader that began at the first of the bytes
  module _ {r₀ r₁ : Reader} (begins : (r₀.bytes.now ≡ s) × (r₀.at ≡ 0)) {U : Type 0} {Shows : U → Sheet → Type 0} where
    stops : {e : Refused} {r : Result (Unit {0}) Refused} → Told Shows r₀ r₁ (Err e) (a_part sheet) → IsErrAnd r (λ y. y ≡ e) → ReadsInto s p₀ p r
    unfolding read_sheet_on
    stops told err = let e = rw (begins.0, begins.1) at told.says.stops in refuses _ err (rw e)

    leaves : {u : U} {e : Refused} {r : Result (Unit {0}) Refused} → Told Shows r₀ r₁ (Ok u) (a_part sheet) → Ended r₁ (Err e) → IsErrAnd r (λ y. y ≡ e) → ReadsInto s p₀ p r
    unfolding read_sheet_on
    leaves told (more, is) err =
        let e = rw (begins.0, begins.1) at told.says.reads in
        let same : r₁.bytes.now ≡ s = told.same ∙ begins.0 in
        let left : r₁.at < length s = rw same at more in
        refuses _ err (rw (e, lt-ltb r₁.at (length s) left, is))

    ends : {u : U} → (told : Told Shows r₀ r₁ (Ok u) (a_part sheet)) → Ended r₁ (Ok (tt {0})) → (p₀ ≡ no_pages → p ≡ pages_of told.says.value) → ReadsInto s p₀ p (Ok (tt {0}))
    unfolding read_sheet_on
    ends told all same-pages =
        let e = rw (begins.0, begins.1) at told.says.reads in
        let same : r₁.bytes.now ≡ s = told.same ∙ begins.0 in
        let none : length s ≤ r₁.at = rw same at all in
        accepts (rw (e, le-ltb r₁.at (length s) none)) same-pages

pub returns-in_err-sheet : goal.returns-in_err-sheet
returns-in_err-sheet c = stops _ c.new-r.ensures c.in_err-sheet.ensures c.from_residual.ensures.1

pub returns-in_err-end : goal.returns-in_err-end
returns-in_err-end c = leaves _ c.new-r.ensures c.in_ok-sheet.ensures c.in_err-end.ensures c.from_residual-in_err-end.ensures.1

pub returns : goal.returns
returns c = let t = c.in_ok-sheet.ensures in ends _ c.new-r.ensures t c.in_ok-end.ensures (λ none. pages-of t.says.value none t.says.shows)
