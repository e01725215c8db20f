-- The call: the first pass knows the round's length and writes nothing, the second writes; so what it answers and leaves is `playing_of` of the names that the table says.
-- Assumes nothing.
use mathlib.Core.Path.{◌≡◌, refl, sym, ◌∙◌, ap}
use mathlib.Core.Bool.{true, false, not}
use mathlib.Core.Option.{some}
use mathlib.Core.List.{List, ◌++◌}
use Prim.Native.Nat.{ℕ, ◌+◌, ◌*◌, ◌≤◌, ◌<◌}
use native.Mathlib.Omega.{arith}
use lib.Dec.{eqb, ltb, ltb→lt}
use lib.ListN.{length, get_or, drop}
use lib.Seq.{sets, sets-eq}
use borrow.Author.Tests.{lt-ltb, le-ltb}
use Rattle.std.specs.Prelude.{Option, Some, None, is_none, Result, Ok, Err}
use Rattle.std.proofs.lemmas.Bool.{false≢true}
use Rattle.pattern.proofs.Basics.{both_l}
use Rattle.layout.specs.Layout.{Sheet, WellFormedSheet}
use Rattle.tables.specs.Cells.{head_at}
use Rattle.book.specs.declared.Book.{Book}
use Rattle.book.specs.Looks.{Looks}
use Rattle.store.specs.Answers.{written, refused}
use Rattle.rule_player.specs.declared.Refusal.{Refusal}
use Rattle.rule_player.specs.declared.Refusal.TheVariants.{NoRule, TooLong}
use Rattle.rule_player.specs.Choice.{chosen_in}
use Rattle.rule_player.specs.Said.{round_said, has_rule, chosen_said}
use Rattle.rule_player.specs.Playing.{answer_of, records_of, writing, playing_of, chosen_of, Plays}
use Rattle.rule_player.specs.Passing.{PassesBy, Passes}
use Rattle.rule_player.proofs.Passing.{records-length}
use Rattle.rule_player.proofs.Own.{names-own}

-- ---- names that fit, and names that do not

module _ (names : List ℕ) (time : ℕ) (before : List ℕ) where
  pub too_long : length before < 5 * length names → playing_of (some names) time before ≡ record { answer = refused 18; output = before }
  too_long h = rw (lt-ltb (length before) (5 * length names) h) refl

  pub fits : 5 * length names ≤ length before → playing_of (some names) time before ≡ writing time names before
  fits h = rw (le-ltb (length before) (5 * length names) h) refl

  all-put : 5 * length names ≤ length before → sets before 0 (records_of time names) ≡ records_of time names ++ drop (5 * length names) before
  all-put h =
      let l = records-length time names in
      let e : 0 + length (records_of time names) ≡ 5 * length names = omega (arith, l) in
      sets-eq (records_of time names) before 0 (omega (arith, h, l)) ∙ ap (λ (n : ℕ). records_of time names ++ drop n before) e

-- ---- the call

module _ (table : List ℕ) (r time : ℕ) (choice before : List ℕ) where
  -- the names are those that the table says
  plays : (answer : Result ℕ Refusal) (after : List ℕ) → record { answer = answer_of answer; output = after } ≡ playing_of (chosen_said table r choice) time before → Plays table r time choice before answer after
  plays answer after call = record { names = chosen_said table r choice; call = call; own = own }
    where
      own : (S : Sheet) (b : Book) → WellFormedSheet S → Looks S b → b.table ≡ table → chosen_said table r choice ≡ chosen_of S.rules r choice
      own S b formed looks e = rw (← e) (names-own S b formed looks r choice)

  pub plays-none : has_rule table r ≡ false → Plays table r time choice before (Err NoRule) before
  plays-none h = plays (Err NoRule) before (rw h refl)

  module _ (has : has_rule table r ≡ true) where
    pub of-sixteen : r < 16
    of-sixteen = ltb→lt r 16 (both_l (ltb r 16) (not (eqb (get_or table (head_at r) 0) 0)) (rw has tt))

    abbrev names : List ℕ
    names = chosen_in (round_said table r) choice

    said : playing_of (some names) time before ≡ playing_of (chosen_said table r choice) time before
    said = rw has refl

    pub plays-longer : (l : Option ℕ) {after : List ℕ} → l ≡ None → Passes table r time choice false before l after → Plays table r time choice before (Err TooLong) after
    plays-longer l {after} e p =
        let (long, same) : PassesBy names time false before None after = rw e at p in
        plays (Err TooLong) after ((λ k. record { answer = refused 18; output = same refl k }) ∙ sym (too_long names time before long) ∙ said)

    -- the second pass is over the same round, and has as much room
    pub plays-all : (l m : Option ℕ) {n : ℕ} (mid : List ℕ) {after : List ℕ} → l ≡ Some n → Passes table r time choice false before l mid → Passes table r time choice true mid m after
        → Plays table r time choice before (Ok n) after
    plays-all l m {n} mid {after} e p q =
        let (room, number, same) : PassesBy names time false before (Some n) mid = rw e at p in
        let put = second m (rw same at q) room ∙ all-put names time before room in
        plays (Ok n) after ((λ k. record { answer = written (number k); output = put k }) ∙ sym (fits names time before room) ∙ said)
      where
        second : (m : Option ℕ) → PassesBy names time true before m after → 5 * length names ≤ length before → after ≡ sets before 0 (records_of time names)
        second (Some k) t room = t.2
        second None t room = absurd (omega (arith, t.0, room))

-- ---- a length by its variant

pub is-longer : (l : Option ℕ) → is_none l ≡ true → l ≡ None
is-longer (Some n) e = absurd (false≢true e)
is-longer None e = refl
