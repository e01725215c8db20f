-- A refused sheet's place fits a u32, however long the bytes are: reading goes no further than 10,894, since every count is held to its values before it is used.
-- (An accepted sheet is shorter, for its names are distinct; here the crude bound serves.)
-- Assumes nothing.
use mathlib.Core.Path.{◌≡◌, refl, sym, subst}
use mathlib.Core.Bool.{Bool, true, false, cond}
use mathlib.Core.List.{List, [], ◌∷◌}
use Prim.Native.Nat.{ℕ, zero, suc, ◌+◌, ◌*◌, ◌≤◌}
use native.Mathlib.Nat.{suc-mul}
use native.Mathlib.Omega.{arith}
use lib.Dec.{ltb, eqb}
use lib.ListN.{length}
use Rattle.pattern.specs.Meaning.{fragment_names, ordering_names}
use Rattle.names.specs.Names.{insert_all}
use Rattle.layout.specs.Layout.{Sheet, Header}
use Rattle.layout.specs.Form.{Form, done, ◌>>=◌, ask, Got, got, stopped, next, unless, field_at, read, value_at}
use Rattle.layout.specs.Terms.{today}
use Rattle.layout.specs.Faults.{due_zero, count_fault, by_kind, Field, size_of, fault_of}
use Rattle.layout.specs.Faults.{mark_field, version_field, outputs_field, rule_count_field, kind_field, count_p_field, count_q_field, trigger_field, time_field, join_field, range_count_field, name_field, u_field, v_field}
use Rattle.layout.specs.Reading.{several, trigger_set, range_name, range, ranges, fragment, fragments, header, rule, rules, sheet, accepted, refused, at_end, read_sheet_on, read_sheet}
use Rattle.layout.specs.Reading as R
use Rattle.layout.proofs.Values.{outside-faultless, unlike-faultless}
use Rattle.layout.proofs.Forms.{read-bind}

-- ---- how far a form is read

-- a reading ends or stops no later than at an offset, and what it got is so
abbrev Ends : {A : Type 0} → (A → Type 0) → ℕ → Got A → Type 0
Ends P e (got a end) = (end ≤ e) × P a
Ends P e (stopped k place) = place ≤ e

abbrev Any : {A : Type 0} → A → Type 0
Any x = Unit {0}

-- the place of a refusal is so
abbrev pub Near : R.Outcome → Type 0
Near (accepted S) = Unit {0}
Near (refused k place) = place ≤ 10894

module _ (s : List ℕ) where
  -- a form takes at most n bytes, wherever it is read
  record Within {A : Type 0} (P : A → Type 0) (n : ℕ) (f : Form A) : Type 0 where
    reads : (at e : ℕ) → at + n ≤ e → Ends P e (read today s f at)

  ended : {A : Type 0} {P : A → Type 0} (a : A) → P a → Within P 0 (done a)
  ended a p = record { reads = λ at e h. (omega arith, p) }

  later : {A : Type 0} {P : A → Type 0} {n m : ℕ} {f : Form A} → n ≤ m → Within P n f → Within P m f
  later l w = record { reads = λ at e h. w.reads at e (omega arith) }

  then : {A B : Type 0} {P : A → Type 0} {Q : B → Type 0} {n m : ℕ} (f : Form A) {g : A → Form B} → Within P n f → ((a : A) → P a → Within Q m (g a)) → Within Q (n + m) (f >>= g)
  then {A = A} {P = P} {Q = Q} {n = n} {m = m} f {g = g} w v = record { reads = λ at e h. subst (Ends Q e) (sym (read-bind today s f g at)) (go at e h (read today s f at) (w.reads at (at + n) (omega arith))) }
    where
      go : (at e : ℕ) → at + (n + m) ≤ e → (r : Got A) → Ends P (at + n) r → Ends Q e (next r (λ a. read today s (g a)))
      go at e h (got a end) (l, p) = (v a p).reads end e (omega arith)
      go at e h (stopped k place) l = omega arith

  asked : {P : ℕ → Type 0} (l : Field) → ((x : ℕ) → fault_of today l x ≡ 0 → P x) → Within P (size_of l) (ask l)
  unfolding field_at
  asked {P = P} l right = record { reads = λ at e h. look at e h (ltb (length s) (at + size_of l)) }
    where
      value : (at e : ℕ) → at + size_of l ≤ e → (k : ℕ) → fault_of today l (value_at s l at) ≡ k → Ends P e (next (unless s k (value_at s l at) (at + size_of l) at) (λ x. read today s (done x)))
      value at e h zero q = (h, right (value_at s l at) q)
      value at e h (suc k) q = omega arith

      look : (at e : ℕ) → at + size_of l ≤ e → (t : Bool)
          → Ends P e (next (cond t (stopped 1 at) (unless s (fault_of today l (value_at s l at)) (value_at s l at) (at + size_of l) at)) (λ x. read today s (done x)))
      look at e h true = omega arith
      look at e h false = value at e h (fault_of today l (value_at s l at)) refl

  -- whatever its value
  taken : (l : Field) → Within Any (size_of l) (ask l)
  taken l = asked l (λ x e. tt {0})

  module _ {A : Type 0} (n : ℕ) (one : ℕ → Form A) (names : A → List ℕ) (w : (used : ℕ) → Within Any n (one used)) where
    each_within : (count used : ℕ) → Within Any (count * n) (several one names used count)
    unfolding several
    each_within zero used = later (omega arith) (ended [] tt)
    each_within (suc count) used =
        later {n = n + (count * n + 0)} (simp (suc-mul) (omega arith))
        (then (one used) (w used) (λ x p. then (several one names (insert_all used (names x)) count) (each_within count (insert_all used (names x))) (λ xs q. ended (x ∷ xs) tt)))

  few : (most x : ℕ) → count_fault most x ≡ 0 → x ≤ most
  few most x e = (outside-faultless 3 1 most x e).1

  module _ (version outputs : ℕ) where
    range-within : (of_q : Bool) (used : ℕ) → Within Any 5 (range version outputs of_q used)
    unfolding range
    range-within of_q used =
        then (ask (name_field outputs of_q used)) (taken (name_field outputs of_q used))
        (λ n p. then (ask u_field) (taken u_field)
        (λ u q. then (ask (v_field version u)) (taken (v_field version u)) (λ v r. ended (record { name = n; u = u; v = v }) tt)))

    fragment-within : (of_q : Bool) (used : ℕ) → Within Any 42 (fragment version outputs of_q used)
    unfolding fragment ranges
    fragment-within of_q used =
        then (ask (join_field version)) (taken (join_field version))
        (λ j p. then (ask range_count_field) (asked range_count_field (few 8))
        (λ n q. then (ranges version outputs of_q used n) (later {n = n * 5} {m = 40} (omega (arith, q)) (each_within 5 (range version outputs of_q) range_name (range-within of_q) n used))
        (λ rs r. ended _ tt)))

    fragments-within : (of_q : Bool) (n used : ℕ) → n ≤ 8 → Within Any 336 (fragments version outputs of_q used n)
    unfolding fragments
    fragments-within of_q n used h = later {n = n * 42} (omega arith) (each_within 42 (fragment version outputs of_q) fragment_names (fragment-within of_q) n used)

    q-few : (k x : ℕ) → by_kind k (count_fault 8) due_zero x ≡ 0 → x ≤ 8
    q-few k x e = look (eqb k 2) e
      where
        look : (t : Bool) → cond t (count_fault 8) due_zero x ≡ 0 → x ≤ 8
        look true h = few 8 x h
        look false h = omega (arith, unlike-faultless 4 0 x h)

    abbrev Counted : Header → Type 0
    Counted h = (h.count_p ≤ 8) × (h.count_q ≤ 8)

    header-within : Within Counted 8 (header version outputs)
    unfolding header
    header-within =
        then (ask (kind_field version)) (taken (kind_field version))
        (λ k a. then (ask count_p_field) (asked count_p_field (few 8))
        (λ p b. then (ask (count_q_field k)) (asked (count_q_field k) (q-few k))
        (λ q c. then (ask (trigger_field k outputs)) (taken (trigger_field k outputs))
        (λ i d. then (ask (time_field k)) (taken (time_field k))
        (λ t f. ended (record { kind = k; count_p = p; count_q = q; trigger = i; time = t }) (b, c))))))

    rule-within : Within Any 680 (rule version outputs)
    unfolding rule
    rule-within =
        then (header version outputs) header-within
        (λ h c. then (fragments version outputs false (trigger_set h) h.count_p) (fragments-within false h.count_p (trigger_set h) c.0)
        (λ p a. then (fragments version outputs true (insert_all (trigger_set h) (ordering_names p)) h.count_q) (fragments-within true h.count_q (insert_all (trigger_set h) (ordering_names p)) c.1)
        (λ q b. ended _ tt)))

    rules-within : (n : ℕ) → n ≤ 16 → Within Any 10880 (rules version outputs n)
    unfolding rules
    rules-within n h = later {n = n * 680} (omega arith) (each_within 680 (λ _. rule version outputs) (λ _. []) (λ _. rule-within) n 0)

  sheet-within : Within Any 10894 sheet
  unfolding sheet
  sheet-within =
      then (ask mark_field) (taken mark_field)
      (λ m a. then (ask version_field) (taken version_field)
      (λ v b. then (ask outputs_field) (taken outputs_field)
      (λ o c. then (ask rule_count_field) (asked rule_count_field (few 16))
      (λ n d. then (rules v o n) (rules-within v o n d) (λ rs f. ended (record { version = v; outputs = o; rules = rs }) tt)))))

  -- ---- the place of a refusal

  pub near : Near (read_sheet s)
  unfolding read_sheet_on
  near = go (read today s sheet 0) (sheet-within.reads 0 10894 (omega arith))
    where
      go : (r : Got Sheet) → Ends Any 10894 r → Near (at_end s r)
      go (got S end) (l, p) = look (ltb end (length s))
        where
          look : (t : Bool) → Near (cond t (refused 10 end) (accepted S))
          look true = l
          look false = tt
      go (stopped k place) l = l
