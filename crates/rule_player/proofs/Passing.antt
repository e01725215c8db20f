-- A pass over the round that a table says. After n records and f fragments left it stands where the definition does after n + f bytes: what it has played and what is still chosen are together the
-- chosen round, and the output has what it has played, if it writes.
-- Assumes nothing.
use mathlib.Core.Path.{◌≡◌, refl, sym, ◌∙◌, ap, ap₂, subst}
use mathlib.Core.Bool.{Bool, true, false}
use mathlib.Core.List.{List, [], ◌∷◌, ◌++◌, append-nil, append_assoc}
use Prim.Native.Nat.{ℕ, zero, suc, ◌+◌, ◌-◌, ◌*◌, ◌/◌, ◌≤◌, ◌<◌}
use native.Mathlib.Omega.{arith}
use lib.Dec.{eqb}
use lib.ListN.{length, get_or, set, drop, replicate, length-append, length-set}
use lib.Seq.{get_or-set_other, sets}
use borrow.Author.Tests.{eqb-true, eqb-false}
use denote.Enum.Declared.{tag_of}
use Rattle.std.specs.Prelude.{Some, None}
use Rattle.pattern.specs.Meaning.{Range, Fragment}
use Rattle.pattern.proofs.Basics.{zero_one}
use Rattle.tables.specs.Words.{round_in}
use Rattle.tables.specs.Cells.{head_at}
use Rattle.rule_player.specs.declared.Filling.{Filling}
use Rattle.rule_player.specs.declared.Ranges.{Ranges}
use Rattle.rule_player.specs.declared.Step.{Step}
use Rattle.rule_player.specs.declared.Step.TheVariants.{Name, Leave}
use Rattle.rule_player.specs.Choice.{empty, count_of, comes, step_by, Stand, first_byte, other_bytes, said_by, leads_to, chosen_from, chosen_in}
use Rattle.rule_player.specs.Said.{listed, size_by, fragment_by, ranges_at, fragment_said, round_said}
use Rattle.rule_player.specs.Playing.{record_bytes, records_of}
use Rattle.rule_player.specs.Passing.{byte_at, put_if, leaves, PassesBy, Passes}
use Rattle.rule_player.specs.contracts.Step.{the_type}
use Rattle.rule_player.proofs.Said.{size_is, range-is}
use Rattle.rule_player.proofs.Walk.{Small, chosen-step, chosen_none, named-within}

-- ---- bytes

first_of : (choice : List ℕ) (k : ℕ) → first_byte (drop k choice) ≡ byte_at choice k
first_of [] zero = refl
first_of [] (suc k) = refl
first_of (b ∷ bs) zero = refl
first_of (b ∷ bs) (suc k) = first_of bs k

others-of : (choice : List ℕ) (k : ℕ) → other_bytes (drop k choice) ≡ drop (suc k) choice
others-of [] zero = refl
others-of [] (suc k) = refl
others-of (b ∷ bs) zero = refl
others-of (b ∷ bs) (suc k) = others-of bs k

-- ---- records

sets-++ : (a b out : List ℕ) (at : ℕ) → sets out at (a ++ b) ≡ sets (sets out at a) (at + length a) b
sets-++ [] b out at = let e : at + 0 ≡ at = omega arith in rw e refl
sets-++ (x ∷ a) b out at = let e : at + suc (length a) ≡ suc at + length a = omega arith in rw e (sets-++ a b (set out at x) (suc at))

module _ (time : ℕ) where
  pub records-length : (names : List ℕ) → length (records_of time names) ≡ 5 * length names
  records-length [] = refl
  records-length (n ∷ names) = omega (arith, records-length names)

  records-more : (names : List ℕ) (n : ℕ) → records_of time (names ++ (n ∷ [])) ≡ records_of time names ++ record_bytes time n
  records-more [] n = refl
  records-more (m ∷ names) n = ap (λ (l : List ℕ). record_bytes time m ++ l) (records-more names n)

  leaves_none : (writes : Bool) (out : List ℕ) → out ≡ leaves writes time [] out
  leaves_none true out = refl
  leaves_none false out = refl

-- ---- counts

none_came : (n i : ℕ) → get_or {A = ℕ} (replicate n 0) i 0 ≡ 0
none_came zero i = refl
none_came (suc n) zero = refl
none_came (suc n) (suc i) = none_came n i

count-more : (s : Filling) (i k n : ℕ) → ((j : ℕ) → count_of s j ≤ n) → count_of (comes s i) k ≤ suc n
count-more s i k n h = go (eqb k i) refl
  where
    go : (b : Bool) → eqb k i ≡ b → count_of (comes s i) k ≤ suc n
    go true e = subst (λ (m : ℕ). get_or (set s.counts i (suc (count_of s i))) m 0 ≤ suc n) (sym (eqb-true k i e)) (at_i s.counts i (suc (count_of s i)) (omega (arith, h i)) (omega (arith, h i)))
      where
        at_i : (l : List ℕ) (i a : ℕ) → a ≤ suc n → get_or l i 0 ≤ suc n → get_or (set l i a) i 0 ≤ suc n
        at_i [] i a u v = v
        at_i (x ∷ l) zero a u v = u
        at_i (x ∷ l) (suc i) a u v = at_i l i a u v
    go false e = let z = get_or-set_other s.counts i k (suc (count_of s i)) 0 (eqb-false k i e) in omega (arith, z, h k)

-- ---- the pass

module _ (table : List ℕ) (r time : ℕ) (choice : List ℕ) (writes : Bool) (before : List ℕ) where
  abbrev pub fragment_count : ℕ
  fragment_count = round_in (get_or table (head_at r) 0)

  abbrev standing : ℕ → ℕ → Filling → Stand
  standing n f s = record { fragments = listed (fragment_said table r) f (fragment_count - f); filling = s; bytes = drop (n + f) choice }

  small-from : (f n : ℕ) → Small (listed (fragment_said table r) f n)
  unfolding fragment_said
  small-from f zero = tt
  small-from f (suc n) = (omega (arith, size_is (ranges_at table r f)), small-from (suc f) n)

  pub record Passing (n f : ℕ) (x : Ranges) (s : Filling) (out : List ℕ) : Type 0 where
    pub done : List ℕ
    pub number : n ≡ length done
    pub few : n ≤ length before / 5
    pub far : f ≤ fragment_count
    pub here : f < fragment_count → x ≡ ranges_at table r f
    pub eight : length s.counts ≡ 8
    pub bound : (i : ℕ) → count_of s i ≤ n
    pub names : chosen_in (round_said table r) choice ≡ done ++ chosen_from (standing n f s)
    pub left : out ≡ leaves writes time done before

  pub passing-start : Passing 0 0 (ranges_at table r 0) empty before
  unfolding round_said
  passing-start = record {
    done = [];
    number = refl;
    few = omega arith;
    far = omega arith;
    here = λ _. refl;
    eight = refl;
    bound = λ i. omega (arith, none_came 8 i);
    names = let e : fragment_count ≡ fragment_count - 0 = omega arith in ap (λ (m : ℕ). chosen_from (record { fragments = listed (fragment_said table r) 0 m; filling = empty; bytes = choice })) e;
    left = leaves_none time writes before;
  }

  module _ {n f : ℕ} {x : Ranges} {s : Filling} {out : List ℕ} (p : Passing n f x s out) where
    pub passing-end : fragment_count ≤ f → Passes table r time choice writes before (Some n) out
    passing-end h =
        let z : fragment_count - f ≡ 0 = omega (arith, h) in
        let at : ℕ → Stand = λ m. record { fragments = listed (fragment_said table r) f m; filling = s; bytes = drop (n + f) choice } in
        let none : chosen_from (standing n f s) ≡ [] = ap (λ (m : ℕ). chosen_from (at m)) z ∙ chosen_none s (drop (n + f) choice) in
        let e : chosen_in (round_said table r) choice ≡ p.done = p.names ∙ ap (λ (l : List ℕ). p.done ++ l) none ∙ append-nil p.done in
        subst (λ (l : List ℕ). PassesBy l time writes before (Some n) out) (sym e) (omega (arith, p.few, p.number), p.number, p.left)

    -- the step that was taken, as it was computed from a byte
    pub taken_is : {byte : ℕ} {t u : Step} → t ≡ step_by (fragment_by x) s byte → byte ≡ byte_at choice (n + f) → t ≡ u → step_by (fragment_by x) s (byte_at choice (n + f)) ≡ u
    taken_is e b q = sym (e ∙ ap (step_by (fragment_by x) s) b) ∙ q

    module _ (h : f < fragment_count) where
      -- what the step says, and what is chosen where it leads
      abbrev onward : Fragment → List Fragment → List ℕ
      onward F rest = let t : Step = step_by F s (byte_at choice (n + f)) in said_by F t ++ chosen_from (leads_to F rest s (drop (suc (n + f)) choice) t)

      turn : chosen_from (standing n f s) ≡ onward (fragment_by x) (listed (fragment_said table r) (suc f) (fragment_count - suc f))
      unfolding fragment_said
      turn =
          let m : fragment_count - f ≡ suc (fragment_count - suc f) = omega (arith, h) in
          let bytes = drop (n + f) choice in
          let rest = listed (fragment_said table r) (suc f) (fragment_count - suc f) in
          let one = chosen-step (fragment_by (ranges_at table r f)) rest s bytes (small-from f (suc (fragment_count - suc f))) p.eight in
          let two = ap (λ (k : ℕ). chosen_from (record { fragments = listed (fragment_said table r) f k; filling = s; bytes = bytes })) m ∙ one in
          subst (λ (y : Ranges). chosen_from (standing n f s) ≡ onward (fragment_by y) rest) (sym (p.here h)) (rw (← first_of choice (n + f), ← others-of choice (n + f)) two)

      module _ (i : ℕ) (step : step_by (fragment_by x) s (byte_at choice (n + f)) ≡ Name i) where
        pub inside : i < size_by x
        inside = omega (arith, size_is x, named-within (fragment_by x) s (byte_at choice (n + f)) i (omega (arith, size_is x)) step)

        abbrev name : ℕ
        name = get_or x.names i 0

        after-name : chosen_from (standing n f s) ≡ name ∷ chosen_from (standing (suc n) f (comes s i))
        unfolding fragment_said
        after-name =
            let m : suc (fragment_count - suc f) ≡ fragment_count - f = omega (arith, h) in
            let rest = listed (fragment_said table r) (suc f) (fragment_count - suc f) in
            let bytes = drop (suc (n + f)) choice in
            let one = turn ∙ ap (λ (t : Step). said_by (fragment_by x) t ++ chosen_from (leads_to (fragment_by x) rest s bytes t)) step in
            let two = ap (λ (l : ℕ). l ∷ chosen_from (record { fragments = fragment_by x ∷ rest; filling = comes s i; bytes = bytes })) (ap (λ (y : Range). y.name) (range-is x i inside)) in
            let there = ap (λ (y : Ranges). name ∷ chosen_from (record { fragments = fragment_by y ∷ rest; filling = comes s i; bytes = bytes })) (p.here h) in
            let e : suc (n + f) ≡ suc n + f = omega arith in
            one ∙ two ∙ there ∙ ap₂ (λ (k l : ℕ). name ∷ chosen_from (record { fragments = listed (fragment_said table r) f k; filling = comes s i; bytes = drop l choice })) m e

        longer : chosen_in (round_said table r) choice ≡ (p.done ++ (name ∷ [])) ++ chosen_from (standing (suc n) f (comes s i))
        longer = p.names ∙ ap (λ (l : List ℕ). p.done ++ l) after-name ∙ sym (append_assoc p.done (name ∷ []) _)

        -- there is no room for one more
        pub passing-longer : n ≡ length before / 5 → Passes table r time choice writes before None out
        passing-longer full =
            let l = ap length longer ∙ length-append (p.done ++ (name ∷ [])) _ in
            (omega (arith, l, length-append p.done (name ∷ []), p.number, full), λ w. p.left ∙ ap (λ (b : Bool). leaves b time p.done before) w)

        -- what one more record leaves
        put-more : (w : Bool) → out ≡ leaves w time p.done before → put_if w out (5 * n) (record_bytes time name) ≡ leaves w time (p.done ++ (name ∷ [])) before
        put-more true l =
            let at : 5 * n ≡ 0 + length (records_of time p.done) = omega (arith, records-length time p.done, p.number) in
            ap₂ (λ (k : ℕ) (o : List ℕ). sets o k (record_bytes time name)) at l
            ∙ sym (sets-++ (records_of time p.done) (record_bytes time name) before 0) ∙ ap (sets before 0) (sym (records-more time p.done name))
        put-more false l = l

        pub passing-name : n < length before / 5 → Passing (suc n) f x (comes s i) (put_if writes out (5 * n) (record_bytes time (get_or x.names i 0)))
        passing-name room = record {
          done = p.done ++ (name ∷ []);
          number = omega (arith, p.number, length-append p.done (name ∷ []));
          few = room;
          far = p.far;
          here = p.here;
          eight = length-set s.counts i (suc (count_of s i)) ∙ p.eight;
          bound = λ k. count-more s i k n p.bound;
          names = longer;
          left = put-more writes p.left;
        }

      module _ (step : step_by (fragment_by x) s (byte_at choice (n + f)) ≡ Leave) where
        pub passing-leave : {x' : Ranges} → (suc f < fragment_count → x' ≡ ranges_at table r (suc f)) → Passing n (suc f) x' empty out
        passing-leave {x'} at = record {
          done = p.done;
          number = p.number;
          few = p.few;
          far = h;
          here = at;
          eight = refl;
          bound = λ i. omega (arith, none_came 8 i);
          names = p.names ∙ ap (λ (l : List ℕ). p.done ++ l) after;
          left = p.left;
        }
          where
            after : chosen_from (standing n f s) ≡ chosen_from (standing n (suc f) empty)
            after =
                let rest = listed (fragment_said table r) (suc f) (fragment_count - suc f) in
                let e : suc (n + f) ≡ n + suc f = omega arith in
                turn ∙ ap (λ (t : Step). said_by (fragment_by x) t ++ chosen_from (leads_to (fragment_by x) rest s (drop (suc (n + f)) choice) t)) step
                ∙ ap (λ (k : ℕ). chosen_from (record { fragments = rest; filling = empty; bytes = drop k choice })) e

-- ---- a step by the number of its variant

pub is-leave : (t : Step) → tag_of the_type t ≡ 1 → t ≡ Leave
is-leave (Name i) e = absurd (zero_one e)
is-leave Leave e = refl
