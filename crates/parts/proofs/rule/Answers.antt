-- `parts::rule` meets its contract: header, P and Q are read, and the trigger's fragment, where there is a trigger, stands after P's. Assumes nothing.
use Rattle.std.proofs.Common.{◌≡◌, refl, sym, ap, ◌∙◌, List, ◌++◌, length, ℕ, zero, suc, ◌+◌, ◌*◌, true, false, Result, Ok, Err, IsErrAnd}
use lib.ListN.{set}
use Rattle.pattern.specs.Meaning.{Fragment, ordering_names, Rule}
use Rattle.pattern.specs.Model.{last_fragments}
use Rattle.layout.specs.Layout.{Header}
use Rattle.names.specs.Names.{insert_all}
use Rattle.layout.specs.Form.{got, next, read}
use Rattle.layout.specs.Terms.{today}
use Rattle.layout.specs.Reading.{kind_of, trigger_set, header, fragments, rule}
use Rattle.layout.specs.Pages.{fill, header_word, put_fragment, put_ranges, trigger_fragments}
use Rattle.fields.specs.Told.{Told, a_part}
use Rattle.fields.specs.declared.Reader.{Reader}
use Rattle.fields.specs.declared.Refused.{Refused}
use Rattle.parts.specs.Shown.{HeaderShown, FragmentsShown, Stored, RuleShown}
use Rattle.parts.specs.declared.Heading.{Heading}
use Rattle.parts.specs.declared.RuleTables.{RuleTables}
use Rattle.layout.proofs.Values.{today-covered, ByKind, kind-faultless}
use Rattle.layout.proofs.Parts.{nothing, made, header_of_lem, fragments-length, read-rule}
use Rattle.fields.proofs.Telling.{by_same, done, fails, goes_on}
use Rattle.parts.proofs.Loops.{fill-append}
use Rattle.parts.proofs.rule.Goals as goal

-- the trigger's fragment and Q's are the last ones of the round
last-ones : (put : List ℕ → ℕ → Fragment → List ℕ) (outputs k n i t : ℕ) (q : List Fragment) (table : List ℕ) (j : ℕ) → ByKind outputs k n i t → length q ≡ n
    → fill put (fill put table j (trigger_fragments k i)) j q ≡ fill put table j (last_fragments (kind_of k i q t))
last-ones put outputs zero n i t q table j b l = rw (nothing q (l ∙ b.0))
last-ones put outputs (suc zero) n i t q table j b l = rw (nothing q (l ∙ b.0))
last-ones put outputs (suc (suc zero)) n i t q table j b l = refl
last-ones put outputs (suc (suc (suc k))) n i t q table j b l = absurd b

-- a table with P's fragments, the trigger's and Q's has the round's
module _ {outputs : ℕ} {w : Heading} {h : Header} (shown : HeaderShown outputs w h) where
  by-kind : ByKind outputs h.kind h.count_q h.trigger h.time
  by-kind = kind-faultless outputs h.kind h.count_q h.trigger h.time shown.kind_right shown.count_right shown.trigger_right shown.time_right shown.few.3

  round-put : (put : List ℕ → ℕ → Fragment → List ℕ) (j : ℕ) (p q : List Fragment) (t₀ : List ℕ) {t₁ t₂ t₃ : List ℕ} → length p ≡ w.p → length q ≡ w.q → t₁ ≡ fill put t₀ j p
      → t₂ ≡ fill put t₁ (j + w.p) (trigger_fragments w.kind w.trigger) → t₃ ≡ fill put t₂ (j + w.p) q
      → t₃ ≡ fill put t₀ j (p ++ last_fragments (kind_of h.kind h.trigger q h.time))
  round-put put j p q t₀ lp lq e₁ e₂ e₃ =
      e₃ ∙ rw (e₂, e₁, shown.kinds, shown.triggers, ← lp)
      (last-ones put outputs h.kind h.count_q h.trigger h.time q _ _ by-kind (lq ∙ shown.count_q)
      ∙ sym (fill-append put t₀ j p (last_fragments (kind_of h.kind h.trigger q h.time))))

-- ---- a rule is read as its header, P and Q

module _ (version outputs : ℕ) {old r₁ : Reader} {w : Heading} (th : Told (HeaderShown outputs) old r₁ (Ok w) (a_part (header version outputs))) {V : Type 0}
    {Shows : V → Rule → Type 0} {r : Result V Refused} where
  stop-p : {U : Type 0} {First : U → List Fragment → Type 0} {r₂ : Reader} {e : Refused} → Told First r₁ r₂ (Err e) (a_part (fragments version outputs false w.used w.p))
      → IsErrAnd r (λ y. y ≡ e) → Told Shows old r₂ r (a_part (rule version outputs))
  stop-p t err =
      by_same (λ s at. read-rule today-covered s version outputs at) (goes_on _ th (λ h e shown. fails _ (rw (shown.set, shown.count_p) at t) err))

  -- the offsets and what the code's values are, of header and P; and the rest
  module _ (k : ℕ) {pu : ℕ} {t₁ t₂ : RuleTables} {r₂ : Reader} (tp : Told (FragmentsShown w.used (16 * k) t₁ t₂) r₁ r₂ (Ok pu) (a_part (fragments version outputs false w.used w.p))) where
    after-p : {new : Reader}
        → ((h : Header) → HeaderShown outputs w h → (p : List Fragment) → length p ≡ w.p → Stored (16 * k) t₁ t₂ p → pu ≡ insert_all (trigger_set h) (ordering_names p)
        → Told Shows r₂ new r (λ s at. next (read today s (fragments version outputs true (insert_all (trigger_set h) (ordering_names p)) h.count_q) at) (λ q. got (made h p q))))
        → Told Shows old new r (a_part (rule version outputs))
    after-p rest =
        by_same (λ s at. read-rule today-covered s version outputs at)
        (goes_on _ th (λ h e shown. goes_on _ (rw (shown.set, shown.count_p) at tp)
        (λ p e' p-shown. rest h shown p (fragments-length today-covered _ version outputs false (trigger_set h) h.count_p _ e' ∙ sym shown.count_p) p-shown.stored p-shown.names)))

    stop-q : {U : Type 0} {First : U → List Fragment → Type 0} {r₃ : Reader} {e : Refused} → Told First r₂ r₃ (Err e) (a_part (fragments version outputs true pu w.q))
        → IsErrAnd r (λ y. y ≡ e) → Told Shows old r₃ r (a_part (rule version outputs))
    stop-q t err = after-p (λ h shown p l stored names. fails _ (rw (names, shown.count_q) at t) err)

-- and its words are stored, each in its table
stored-rule : (version outputs : ℕ) {old r₁ r₂ r₃ : Reader} {w : Heading} → Told (HeaderShown outputs) old r₁ (Ok w) (a_part (header version outputs))
    → {k pu qu : ℕ} {t₀ t₂ t₃ t₄ : RuleTables} → (let t₁ : RuleTables = record t₀ { heads = set t₀.heads k w.word } in
    Told (FragmentsShown w.used (16 * k) t₁ t₂) r₁ r₂ (Ok pu) (a_part (fragments version outputs false w.used w.p)))
    → Stored (16 * k + w.p) t₂ t₃ (trigger_fragments w.kind w.trigger)
    → Told (FragmentsShown pu (16 * k + w.p) t₃ t₄) r₂ r₃ (Ok qu) (a_part (fragments version outputs true pu w.q))
    → Told (λ _. RuleShown k t₀ t₄) old r₃ (Ok (tt {0})) (a_part (rule version outputs))
stored-rule version outputs th {k} {pu} {qu} {t₀} {t₂} {t₃} {t₄} tp trigger tq =
    after-p version outputs th k tp (λ h shown p lp stored names. goes_on _ (rw (names, shown.count_q) at tq)
    (λ q e q-shown.
    let lq = fragments-length today-covered _ version outputs true (insert_all (trigger_set h) (ordering_names p)) h.count_q _ e in
    let o = header_of_lem outputs h.kind h.count_p h.count_q h.trigger h.time p q (by-kind shown) (lp ∙ shown.count_p) lq in
    done (record {
      head = q-shown.stored.heads' ∙ trigger.heads' ∙ stored.heads' ∙ ap (set t₀.heads k) (shown.bytes ∙ ap header_word (sym o.0));
      fragments = round-put shown put_fragment (16 * k) p q t₀.fragments lp (lq ∙ sym shown.count_q) stored.fragments trigger.fragments q-shown.stored.fragments;
      ranges = round-put shown put_ranges (16 * k) p q t₀.ranges lp (lq ∙ sym shown.count_q) stored.ranges trigger.ranges q-shown.stored.ranges;
    })))

pub returns-in_err-h : goal.returns-in_err-h
returns-in_err-h c =
    by_same (λ s at. read-rule today-covered s c.args.sheet.version c.args.sheet.outputs at) (fails _ c.in_err-h.ensures c.from_residual.ensures.1)

pub returns-in_err-used : goal.returns-in_err-used
returns-in_err-used c = stop-p _ _ c.in_ok-h.ensures c.in_err-used.ensures c.from_residual-in_err-used.ensures.1

pub returns-in_err-fragments : goal.returns-in_err-fragments
returns-in_err-fragments c = stop-q _ _ c.in_ok-h.ensures c.args.k c.in_ok-used.ensures c.in_err-fragments.ensures c.from_residual-in_err-fragments.ensures.1

pub returns : goal.returns
returns c = stored-rule _ _ c.in_ok-h.ensures c.in_ok-used.ensures c.trigger_fragment.ensures c.in_ok-fragments.ensures
