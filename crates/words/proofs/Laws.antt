-- What storing in a monitor's memory does to the monitor that it holds: a rule's 32 bytes change that rule's state, and the last 16 bytes change none.
-- Assumes nothing.
use mathlib.Core.Path.{◌≡◌, refl, sym, ap, ◌∙◌}
use mathlib.Core.List.{List, [], ◌∷◌, ◌++◌, append_assoc}
use Prim.Native.Nat.{ℕ, suc, ◌+◌, ◌%◌, ◌<◌, ◌≤◌}
use native.Mathlib.Nat.{add-zero}
use native.Mathlib.Omega.{arith}
use lib.ListN.{length, get_or, drop, set, replicate, length-append}
use lib.Seq.{sets, length-sets, drop-drop, drop_at, get_or-drop}
use Rattle.layout.specs.Form.{number}
use Rattle.layout.specs.Layout.{le, each}
use Rattle.layout.proofs.Fields.{number_of}
use Rattle.rule_state.specs.declared.RuleState.{RuleState}
use Rattle.words.specs.Upto.{map_n, map_n-more, length-map_n}
use Rattle.words.specs.Words.{rule_offset, memory_length, taken_at, latest_at, verdict_at, mask_at, dues_at, numbers_from, state_in, no_state, rules_in}
use Rattle.words.specs.Words.{Held, held_by, Fits, Holds, Clean, with_rules, nothing_taken, Stores}
use Rattle.words.proofs.Places.{map_n-within, set-map_n, get_d-map_n}
use Rattle.words.proofs.Bytes.{sets-sets, get_d-sets-out, drop-sets, number-alike, numbers-alike, numbers_of_lem, each-length}

-- ---- the rules

-- what the bytes hold for rule r
abbrev pub state_at : List ℕ → ℕ → RuleState
state_at bytes r = state_in bytes (rule_offset r)

abbrev rule_from : List ℕ → ℕ → RuleState → RuleState
rule_from bytes r st = state_at bytes r

pub sixteen : (bytes : List ℕ) → length (held_by bytes).rules ≡ 16
unfolding rules_in
sixteen bytes = length-map_n (rule_from bytes) 0 16 (replicate 16 no_state)

pub rule-at : (m : List ℕ) (r : ℕ) → r < 16 → get_or (rules_in m) r no_state ≡ state_at m r
unfolding rules_in
rule-at m r h = get_d-map_n (rule_from m) no_state 0 16 (replicate 16 no_state) r h (omega arith) ∙ ap (state_at m) (omega arith)

-- a state's parts
pub state-of : (m : List ℕ) (k : ℕ) {states counts : List ℕ} {end : ℕ} → states ≡ numbers_from m 1 8 (k + 8) → counts ≡ numbers_from m 2 8 (k + 16) → end ≡ number m 4 (k + 4)
    → record { fragment = get_or m k 0; current = get_or m (k + 1) 0; states = states; counts = counts; lacking = get_or m (k + 2) 0; full = get_or m (k + 3) 0; end = end } ≡ state_in m k
unfolding state_in
state-of m k x n e = λ i. record {
  fragment = get_or m k 0;
  current = get_or m (k + 1) 0;
  states = x i;
  counts = n i;
  lacking = get_or m (k + 2) 0;
  full = get_or m (k + 3) 0;
  end = e i;
}

-- a state is read from its 32 bytes alone
state-alike : (a b : List ℕ) (k : ℕ) → ((j : ℕ) → k ≤ j → j < k + 32 → get_or a j 0 ≡ get_or b j 0) → state_in a k ≡ state_in b k
unfolding state_in
state-alike a b k e = λ i. record {
  fragment = e k (omega arith) (omega arith) i;
  current = e (k + 1) (omega arith) (omega arith) i;
  lacking = e (k + 2) (omega arith) (omega arith) i;
  full = e (k + 3) (omega arith) (omega arith) i;
  end = number-alike a b 4 (k + 4) (k + 4) (λ j h. e (k + 4 + j) (omega arith) (omega arith)) i;
  states = numbers-alike a b 1 8 (k + 8) (k + 8) (λ j h. e (k + 8 + j) (omega arith) (omega arith)) i;
  counts = numbers-alike a b 2 8 (k + 16) (k + 16) (λ j h. e (k + 16 + j) (omega arith) (omega arith)) i;
}

-- bytes that agree on all rules but one
set-rule : (m after : List ℕ) (r : ℕ) → r < 16 → ((j : ℕ) → (j ≡ r → ⊥) → state_at m j ≡ state_at after j) → set (rules_in m) r (state_at after r) ≡ rules_in after
unfolding rules_in
set-rule m after r h e = set-map_n (rule_from m) (rule_from after) 16 r (replicate 16 no_state) no_state h (omega arith) (λ j x n. e j n)

-- ---- a rule's state in bytes

-- the 32 bytes of a state
abbrev pub state_bytes : RuleState → List ℕ
state_bytes st = (st.fragment ∷ st.current ∷ st.lacking ∷ st.full ∷ le 4 st.end) ++ (each (le 1) st.states ++ each (le 2) st.counts)

-- every field fits its bytes, as its type says
pub record Small (st : RuleState) : Type 0 where
  pub end : st.end < 4294967296
  pub states : (i : ℕ) → get_or st.states i 0 < 256
  pub counts : (i : ℕ) → get_or st.counts i 0 < 65536
  pub eight_states : length st.states ≡ 8
  pub eight_counts : length st.counts ≡ 8

module _ {st : RuleState} (small : Small st) where
  states-long : length (each (le 1) st.states) ≡ 8
  states-long = each-length 1 st.states ∙ omega (arith, small.eight_states)

  pub state-long : length (state_bytes st) ≡ 32
  state-long =
      let both = length-append (each (le 1) st.states) (each (le 2) st.counts) in
      omega (arith, both, states-long, each-length 2 st.counts, small.eight_counts)

  -- the state is read off its bytes
  pub state-back : (s : List ℕ) (k : ℕ) (rest : List ℕ) → drop k s ≡ state_bytes st ++ rest → state_in s k ≡ st
  unfolding state_in
  state-back s k rest e = λ i. record {
    fragment = first i;
    current = byte 1 i;
    lacking = byte 2 i;
    full = byte 3 i;
    end = number_of s 4 st.end (k + 4) _ small.end (from 4) i;
    states = (ap (λ (n : ℕ). numbers_from s 1 n (k + 8)) (sym small.eight_states) ∙ numbers_of_lem s 1 st.states (k + 8) _ small.states (from 8 ∙ apart)) i;
    counts = (ap (λ (n : ℕ). numbers_from s 2 n (k + 16)) (sym small.eight_counts) ∙ numbers_of_lem s 2 st.counts (k + 16) _ small.counts (from 16 ∙ behind)) i;
  }
    where
      from : (j : ℕ) → drop (k + j) s ≡ drop j (state_bytes st ++ rest)
      from j = sym (drop-drop j k s) ∙ ap (drop j) e

      byte : (j : ℕ) → get_or s (k + j) 0 ≡ get_or (state_bytes st ++ rest) j 0
      byte j = sym (get_or-drop k s j 0) ∙ ap (λ (l : List ℕ). get_or l j 0) e

      first : get_or s k 0 ≡ st.fragment
      first = ap (λ (j : ℕ). get_or s j 0) (sym (add-zero k)) ∙ byte 0

      apart : (each (le 1) st.states ++ each (le 2) st.counts) ++ rest ≡ each (le 1) st.states ++ (each (le 2) st.counts ++ rest)
      apart = append_assoc (each (le 1) st.states) (each (le 2) st.counts) rest

      behind : drop 16 (state_bytes st ++ rest) ≡ each (le 2) st.counts ++ rest
      behind = ap (drop 8) apart ∙ drop_at (each (le 1) st.states) _ 8 states-long

-- a rule's 32 bytes stored
module _ (m : List ℕ) {after : List ℕ} {r : ℕ} {st : RuleState} (h : r < 16) (small : Small st) (e : after ≡ sets m (rule_offset r) (state_bytes st)) where
  -- every other byte stays
  elsewhere : (i : ℕ) → (rule_offset r ≤ i → i < rule_offset r + 32 → ⊥) → get_or after i 0 ≡ get_or m i 0
  elsewhere i out =
      ap (λ (l : List ℕ). get_or l i 0) e ∙ get_d-sets-out (state_bytes st) m (rule_offset r) i 0 (λ a b. out a (omega (arith, state-long small)))

  own : (n at : ℕ) → taken_at ≤ at → number after n at ≡ number m n at
  own n at o = number-alike after m n at at (λ j g. elsewhere (at + j) (λ a b. omega arith))

  others : (j : ℕ) → (j ≡ r → ⊥) → state_at m j ≡ state_at after j
  others j n = state-alike m after (rule_offset j) (λ i l g. sym (elsewhere i (λ a b. n (omega arith))))

  this : Fits m → state_at after r ≡ st
  this l =
      state-back small after (rule_offset r) _
      (ap (drop (rule_offset r)) e ∙ drop-sets (state_bytes st) m (rule_offset r) (omega (arith, state-long small, l)))

  pub stores : Stores m r st after
  stores = record {
    holds = λ k. record {
      fits = ap length e ∙ length-sets m (rule_offset r) (state_bytes st) ∙ k.fits;
      held = (λ i. record {
        rules = (sym (set-rule m after r h others) ∙ ap (set (rules_in m) r) (this k.fits)) i;
        taken = own 4 taken_at (omega arith) i;
        latest = own 4 latest_at (omega arith) i;
        verdict = elsewhere verdict_at (λ a b. omega arith) i;
        mask = own 2 mask_at (omega arith) i;
        dues = own 2 dues_at (omega arith) i;
      }) ∙ ap (λ (x : Held). with_rules x (set x.rules r st)) k.held;
    };
    blank = λ k. (elsewhere 521 (λ a b. omega arith) ∙ k.0, own 2 526 (omega arith) ∙ k.1);
  }

-- four bytes, a number and two arrays, stored one after the other, are the state's bytes
pub state-stored : (m : List ℕ) (k : ℕ) {st : RuleState} {a b c : List ℕ} → Small st
    → a ≡ sets (set (set (set (set m k st.fragment) (k + 1) st.current) (k + 2) st.lacking) (k + 3) st.full) (k + 4) (le 4 st.end)
    → b ≡ sets a (k + 8) (each (le 1) st.states) → c ≡ sets b (k + 16) (each (le 2) st.counts) → c ≡ sets m k (state_bytes st)
state-stored m k {st} small end states counts =
    let second : k + 1 ≡ suc k = omega arith in
    let third : k + 2 ≡ suc (suc k) = omega arith in
    let fourth : k + 3 ≡ suc (suc (suc k)) = omega arith in
    let head : List ℕ = st.fragment ∷ st.current ∷ st.lacking ∷ st.full ∷ [] in
    let x : List ℕ = each (le 1) st.states in
    let n : List ℕ = each (le 2) st.counts in
    let begun : set (set (set (set m k st.fragment) (k + 1) st.current) (k + 2) st.lacking) (k + 3) st.full ≡ sets m k head =
    λ i. set (set (set (set m k st.fragment) (second i) st.current) (third i) st.lacking) (fourth i) st.full in
    counts ∙ ap (λ (l : List ℕ). sets l (k + 16) n) (states ∙ ap (λ (l : List ℕ). sets l (k + 8) x)
    (end ∙ ap (λ (l : List ℕ). sets l (k + 4) (le 4 st.end)) begun ∙ sets-sets head (le 4 st.end) m k (k + 4) refl)
    ∙ sets-sets (head ++ le 4 st.end) x m k (k + 8) refl)
    ∙ sets-sets ((head ++ le 4 st.end) ++ x) n m k (k + 16) (omega (arith, states-long small))
    ∙ ap (sets m k) (append_assoc (head ++ le 4 st.end) x n)

-- ---- the monitor's own 16 bytes

abbrev pub own_bytes : ℕ → ℕ → ℕ → ℕ → ℕ → List ℕ
own_bytes taken latest verdict mask dues = (le 4 taken ++ le 4 latest) ++ (verdict ∷ 0 ∷ (le 2 mask ++ (le 2 dues ++ le 2 0)))

-- no rule's byte is among them
same-rules : (m bytes : List ℕ) → rules_in (sets m taken_at bytes) ≡ rules_in m
unfolding rules_in
same-rules m bytes =
    map_n-within (rule_from (sets m taken_at bytes)) (rule_from m) 0 16 (replicate 16 no_state)
    (λ r st a b. state-alike (sets m taken_at bytes) m (rule_offset r) (λ i l g. get_d-sets-out bytes m taken_at i 0 (λ c d. omega arith)))

module _ (m : List ℕ) (taken latest verdict mask dues : ℕ) where
  abbrev bytes : List ℕ
  bytes = own_bytes taken latest verdict mask dues

  -- numbers and bytes, stored one after the other
  pub own-stored : {a b c d e f : List ℕ} → a ≡ sets m taken_at (le 4 taken) → b ≡ sets a latest_at (le 4 latest)
      → c ≡ sets b verdict_at (verdict ∷ 0 ∷ []) → d ≡ sets c mask_at (le 2 mask) → e ≡ sets d dues_at (le 2 dues) → f ≡ sets e 526 (le 2 0) → f ≡ sets m taken_at bytes
  own-stored p q v r s t =
      t ∙ ap (λ (l : List ℕ). sets l 526 (le 2 0)) (s ∙ ap (λ (l : List ℕ). sets l dues_at (le 2 dues))
      (r ∙ ap (λ (l : List ℕ). sets l mask_at (le 2 mask)) (v ∙ ap (λ (l : List ℕ). sets l verdict_at (verdict ∷ 0 ∷ [])) (q ∙ ap (λ (l : List ℕ). sets l latest_at (le 4 latest)) p))))

  pub settles : {after : List ℕ} → after ≡ sets m taken_at bytes → taken < 4294967296 → latest < 4294967296 → mask < 65536 → dues < 65536 → {h : Held} → Holds m h
      → Clean after (record { rules = h.rules; taken = taken; latest = latest; verdict = verdict; mask = mask; dues = dues })
  settles {after} e ht hl hm hd h = record {
    holds = record {
      fits = ap length e ∙ length-sets m taken_at bytes ∙ h.fits;
      held = λ i. record {
        rules = (ap rules_in e ∙ same-rules m bytes ∙ ap (λ (x : Held). x.rules) h.held) i;
        taken = number_of after 4 taken taken_at _ ht (from 0) i;
        latest = number_of after 4 latest latest_at _ hl (from 4) i;
        verdict = byte 8 i;
        mask = number_of after 2 mask mask_at _ hm (from 10) i;
        dues = number_of after 2 dues dues_at _ hd (from 12) i;
      };
    };
    blank = (byte 9, number_of after 2 0 526 _ (omega arith) (from 14));
  }
    where
      stored : drop taken_at after ≡ bytes ++ drop memory_length m
      stored = ap (drop taken_at) e ∙ drop-sets bytes m taken_at (omega (arith, h.fits))

      from : (j : ℕ) → drop (taken_at + j) after ≡ drop j (bytes ++ drop memory_length m)
      from j = sym (drop-drop j taken_at after) ∙ ap (drop j) stored

      byte : (j : ℕ) → get_or after (taken_at + j) 0 ≡ get_or (bytes ++ drop memory_length m) j 0
      byte j = sym (get_or-drop taken_at after j 0) ∙ ap (λ (l : List ℕ). get_or l j 0) stored

-- ---- sixteen states, stored one after the other in bytes that are 0

abbrev pub blank : List RuleState
blank = replicate 16 no_state

pub zeros-hold : Clean (replicate memory_length 0) (nothing_taken blank)
unfolding rules_in state_in number
zeros-hold = record { holds = record { fits = refl; held = refl }; blank = (refl, refl) }

pub one_more : (f : ℕ → RuleState → RuleState) {before after : List ℕ} {r : ℕ} {st : RuleState} → r < 16 → st ≡ f r (get_or blank r no_state) → Stores before (r % 16) st after
    → Clean before (nothing_taken (map_n f 0 r blank)) → Clean after (nothing_taken (map_n f 0 (r + 1) blank))
one_more f {r = r} h e s k =
    let own : r % 16 ≡ r = omega arith in
    record { holds = rw (own, e, map_n-more f r blank no_state h) at (s.holds k.holds); blank = s.blank k.blank }
