-- What the flags of a cell decide, in the words of the model: how a rule stands at the cell's fragment, whether an event of it may be late, and when P ended. And the order of a round's
-- fragments: the one before the one that follows is the same one.
-- Assumes nothing.
use mathlib.Core.Path.{◌≡◌, refl, sym, ◌∙◌, ap}
use mathlib.Core.Bool.{Bool, true, false, cond, not, ◌&&◌, ◌||◌, and-false}
use Prim.Native.Nat.{ℕ, zero, suc, ◌+◌, ◌-◌, ◌≤◌, ◌<◌}
use native.Mathlib.Omega.{arith}
use lib.Dec.{leb, ltb, eqb}
use lib.ListN.{length}
use borrow.Author.Tests.{le-leb, lt-leb, leb-true, leb-false, lt-ltb, le-ltb, ne_eqb, eqb-true, eqb-false}
use Rattle.pattern.specs.Meaning.{Kind, once, repeated, timed, Rule, whole, open'}
use Rattle.pattern.specs.Model.{round_of, in_time, is_last, following, after_p, end_after}
use Rattle.pattern.proofs.Basics.{zero_one}
use Rattle.layout.specs.Layout.{time_of}
use Rattle.tables.specs.Cells.{is_timed, is_in_q, ends_p, preceding, Cell}
use Rattle.deadline.specs.Deadlines.{late_of, end_of}
use Rattle.step.specs.declared.Standing.{Standing}
use Rattle.step.specs.declared.Standing.TheVariants.{Whole, Open, Due}
use Rattle.step.specs.Standings.{status_of, is_due}
use Rattle.step.proofs.Sound.{Sound}

pub clash : {A : Type 0} → false ≡ true → A
clash e = let z : ◌≡◌ {A = ℕ} 0 1 = cc in absurd (zero_one z)

-- ---- how a rule stands: L at the last of the round, C the fragment is complete, D the deadline runs unless the round is complete

abbrev pub standing_by : Bool → Bool → Bool → Standing
standing_by L C D = cond (L && C) Whole (cond D Due Open)

pub status-by : (L C D : Bool) → status_of (standing_by L C D) ≡ cond (C && L) whole open'
status-by true true D = refl
status-by true false true = refl
status-by true false false = refl
status-by false C true = rw (and-false C)
status-by false C false = rw (and-false C)

-- T the rule is timed, A after P, B at P's last fragment, G the fragment can grow
due-by : (T A L B C G : Bool) → (A ≡ false → L ≡ false) → is_due (standing_by L C (T && A || T && (not A && B) && (C && not G))) ≡ (T && cond A (not (C && L)) (B && C && not G))
due-by false A true B true G p = refl
due-by false A true B false G p = refl
due-by false A false B C G p = refl
due-by true true true B true G p = refl
due-by true true true B false G p = refl
due-by true true false B C G p = rw (and-false C)
due-by true false L true true true p = rw (p refl)
due-by true false L true true false p = rw (p refl)
due-by true false L true false G p = rw (p refl)
due-by true false L false C G p = rw (p refl)

-- ---- of a fragment's number

pub not-leb : (a b : ℕ) → ltb a b ≡ not (leb b a)
not-leb a b = look (leb b a) refl
  where
    look : (c : Bool) → leb b a ≡ c → ltb a b ≡ not c
    look true q = le-ltb a b (leb-true b a q)
    look false q = lt-ltb a b (leb-false b a q)

module _ {rule : Rule} {n i cell : ℕ} (c : Cell rule n i cell) where
  pub end_is : (end now : ℕ) → end_of cell end now ≡ end_after rule n end now
  unfolding end_of
  end_is end now = rw c.in_p (look (after_p rule n))
    where
      look : (a : Bool) → cond (not a) now end ≡ cond a end now
      look true = refl
      look false = refl

  pub late_is : (limit end now : ℕ) → limit ≡ time_of rule.kind → late_of cell limit end now ≡ (after_p rule n && not (in_time rule.kind end now))
  unfolding late_of
  late_is limit end now l = rw (c.in_q, l) (look rule.kind (after_p rule n))
    where
      look : (k : Kind) (A : Bool) → ((is_timed k && A) && ltb (end + time_of k) now) ≡ (A && not (in_time k end now))
      look (once i) A = sym (and-false A)
      look (repeated i) A = sym (and-false A)
      look (timed q t) true = not-leb (end + t) now
      look (timed q t) false = refl

module _ {rule : Rule} (sound : Sound rule) (n : ℕ) (inside : n < length (round_of rule)) where
  -- a fragment of P is not the last
  pub in-p : after_p rule n ≡ false → is_last rule n ≡ false
  in-p e = let a = leb-false (length rule.p) n e in lt-leb (length (round_of rule)) (suc n) (omega (arith, a, sound.after))

  pub running-by : (C G : Bool) → is_due (standing_by (is_last rule n) C (is_in_q rule n || ends_p rule n && (C && not G)))
      ≡ (is_timed rule.kind && cond (after_p rule n) (not (C && is_last rule n)) (after_p rule (following rule n) && C && not G))
  running-by C G = due-by (is_timed rule.kind) (after_p rule n) (is_last rule n) (after_p rule (suc n)) C G in-p ∙ ap (λ (b : Bool). is_timed rule.kind && b) (look (after_p rule n) refl)
    where
      look : (a : Bool) → after_p rule n ≡ a → cond a (not (C && is_last rule n)) (after_p rule (suc n) && C && not G) ≡ cond a (not (C && is_last rule n)) (after_p rule (following rule n) && C && not G)
      look true q = refl
      look false q = rw (in-p q)

  -- the fragment before the one that follows
  pub preceding-is : preceding rule (following rule n) ≡ n
  unfolding preceding
  preceding-is = look (is_last rule n) refl
    where
      look : (b : Bool) → is_last rule n ≡ b → cond (eqb (cond b 0 (suc n)) 0) (length (round_of rule) - 1) (cond b 0 (suc n) - 1) ≡ n
      look true q = let l = leb-true (length (round_of rule)) (suc n) q in omega (arith, l, inside)
      look false q = rw (ne_eqb (suc n) 0 (λ e. omega (arith, e))) (omega arith)

  pub follow-inside : following rule n < length (round_of rule)
  follow-inside = look (is_last rule n) refl
    where
      look : (b : Bool) → is_last rule n ≡ b → cond b 0 (suc n) < length (round_of rule)
      look true q = omega (arith, inside)
      look false q = leb-false (length (round_of rule)) (suc n) q

  -- and the one that follows the one before
  pub following-is : following rule (preceding rule n) ≡ n
  unfolding preceding
  following-is = look (eqb n 0) refl
    where
      look : (b : Bool) → eqb n 0 ≡ b → following rule (cond b (length (round_of rule) - 1) (n - 1)) ≡ n
      look true q =
          let z : n ≡ 0 = eqb-true n 0 q in
          let l : length (round_of rule) ≤ suc (length (round_of rule) - 1) = omega (arith, inside) in
          rw (le-leb (length (round_of rule)) (suc (length (round_of rule) - 1)) l) (sym z)
      look false q =
          let z = eqb-false n 0 q in
          let e : suc (n - 1) ≡ n = one_more n z in
          let l : suc (n - 1) < length (round_of rule) = omega (arith, e, inside) in
          rw (lt-leb (length (round_of rule)) (suc (n - 1)) l) e
        where
          one_more : (m : ℕ) → (m ≡ 0 → ⊥) → suc (m - 1) ≡ m
          one_more zero h = absurd (h refl)
          one_more (suc m) h = omega arith
