-- Document 02's sentences of the call, for a sheet's book: every round that fits is written for some choice bytes, and a monitor that is fed what was played has nothing to say of the rule.
-- Assumes nothing.
use mathlib.Core.Path.{◌≡◌, refl, sym, ◌∙◌, ap, subst}
use mathlib.Core.Option.{Option, some}
use mathlib.Core.List.{List, ◌++◌}
use Prim.Native.Nat.{ℕ, ◌*◌, ◌≤◌, ◌<◌}
use lib.ListN.{length, drop}
use borrow.Author.Tests.{lt-ltb}
use Rattle.std.specs.Prelude.{Result}
use Rattle.pattern.specs.Meaning.{WellFormed, Rule}
use Rattle.pattern.specs.Judge.{Oracle, Right, nothing, judge_keeps}
use Rattle.pattern.specs.Model.{fresh_monitor, monitor_after}
use Rattle.pattern.specs.Agreement.{WellFormedRules}
use Rattle.pattern.proofs.Agreement.{agreement}
use Rattle.layout.specs.Layout.{Sheet, Bytes, WellFormedSheet}
use Rattle.layout.specs.Pages.{no_rule, rule_at}
use Rattle.layout.proofs.PageLaws.{each_at}
use Rattle.layout.proofs.Accepted.{rule-formed}
use Rattle.book.specs.declared.Book.{Book}
use Rattle.book.specs.Looks.{Looks}
use Rattle.store.specs.Answers.{written}
use Rattle.rule_player.specs.declared.Refusal.{Refusal}
use Rattle.rule_player.specs.Choice.{chosen}
use Rattle.rule_player.specs.Rounds.{Round, events_at, fed, Spares}
use Rattle.rule_player.specs.Playing.{answer_of, Playing, records_of, writing, playing_of, Plays}
use Rattle.rule_player.proofs.Playing.{fits}
use Rattle.rule_player.proofs.Rounds.{every-choice-matches, every-round-is-chosen}
use Rattle.rule_player.proofs.Keeps.{judge-spares}

module _ (S : Sheet) (b : Book) (formed : WellFormedSheet S) (looks : Looks S b) (r : ℕ) (here : r < length S.rules) where
  abbrev rule : Rule
  rule = rule_at S.rules r

  -- the call with the sheet's book plays the round that the bytes pick
  pub plays-chosen : {time : ℕ} {choice before : List ℕ} {answer : Result ℕ Refusal} {after : List ℕ} → Plays b.table r time choice before answer after
      → record { answer = answer_of answer; output = after } ≡ playing_of (some (chosen (rule_at S.rules r) choice)) time before
  plays-chosen {time} {choice} {before} p =
      let e : p.names ≡ some (chosen rule choice) = p.own S b formed looks refl ∙ rw (lt-ltb r (length S.rules) here) refl in
      p.call ∙ ap (λ (n : Option (List ℕ)). playing_of n time before) e

  -- "Every round of the rule at that time that fits the output is written for some choice bytes"
  pub every-round-is-written : (time : ℕ) (names before : List ℕ) → Round (rule_at S.rules r) (events_at time names) → 5 * length names ≤ length before
      → (choice : List ℕ) × Bytes choice × ((answer : Result ℕ Refusal) (after : List ℕ) → Plays b.table r time choice before answer after
      → (answer_of answer ≡ written (length names)) × (after ≡ records_of time names ++ drop (5 * length names) before))
  every-round-is-written time names before round room =
      let (choice, bytes, e) = every-round-is-chosen rule (rule-formed S formed r here) time names round in (
        choice,
        bytes,
        λ answer after p.
            let same = ap (λ (n : List ℕ). playing_of (some n) time before) e in
            let q : record { answer = answer_of answer; output = after } ≡ writing time names before = plays-chosen p ∙ same ∙ fits names time before room in
            (ap (λ (x : Playing). x.answer) q, ap (λ (x : Playing). x.output) q),
      )

-- ---- what was played, fed to a monitor

module _ (rules : List Rule) (well : WellFormedRules rules) (r : ℕ) (here : r < length rules) (time : ℕ) (choice : List ℕ) (few : length (chosen (rule_at rules r) choice) ≤ 4294967295) where
  -- the judge, whichever, has nothing to say of the rule
  pub judged-keeps : (oracle : Oracle) → Right rules oracle → Spares r (judge_keeps oracle nothing (fed time (chosen (rule_at rules r) choice))).verdict
  judged-keeps =
      let matches = every-choice-matches (rule_at rules r) (each_at WellFormed no_rule rules r well.each here) time choice in
      judge-spares rules well r here time (chosen (rule_at rules r) choice) matches few

  -- nor a fresh monitor
  pub played-keeps-the-rule : Spares r (monitor_after rules (fresh_monitor rules) (fed time (chosen (rule_at rules r) choice))).verdict
  played-keeps-the-rule =
      let a = agreement rules well (fed time (chosen (rule_at rules r) choice)) in
      let (oracle, right) = a.judged in
      subst (Spares r) (sym (a.agrees oracle right).verdict) (judged-keeps oracle right)
