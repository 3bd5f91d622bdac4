-- The result of each step of a token.
use Rattle.std.proofs.Common.{◌≡◌, ℕ, ◌+◌, ◌-◌, ◌*◌, ◌^◌, ◌%◌, ◌<◌, true, false, [], ◌∷◌, Some}
use Rattle.std.proofs.{Common.{None, refl, sym, ap, ◌∙◌, subst, arith}, Math.Nat.min-le_left}
use mathlib.Core.Option.{none}
use Rattle.atomic_table.specs.{Seated.TableId, Table.{Me, step, Allows}, declared.badge.Badge.Badge}
use Rattle.patterns.specs.{declared.Outcome.Outcome, Tests.size_of}
use Rattle.patterns.specs.declared.Outcome.TheVariants as outcome
use Rattle.fault_ledger.specs.declared.{Shape.Shape, Event.Event, Reply.TheVariants.Done}
use Rattle.fault_ledger.specs.{declared.words.View.View, Seats.{Place, Sitter, sitter_at, Makes}}
use Rattle.fault_ledger.specs.History.{History, piece_count, block_of, state_of, held_by, entry}
use Rattle.fault_ledger.specs.Answer.{fits_size, has_earlier_hit, answer, call_of, IsLegal}
use Rattle.fault_ledger.specs.Words.{code_of, word_with, field, in_field, state_at, one, post}
use Rattle.fault_ledger.specs.Words.{IsKept, Adds, Claims, Reports, Drops, Looks, sitter}
use Rattle.fault_ledger.proofs.{LegalHistories.legal_hit, LoadsKeepRule.looks_allowed}
use Rattle.fault_ledger.proofs.{Acceptance.{report_answered, drop_answered}, FieldCodes.decoded}
use Rattle.fault_ledger.proofs.StepsKeepRule.{claims_allowed, reports_allowed, drops_allowed}
use Rattle.fault_ledger.proofs.{TokenAsSeat.{Taken, put_back}, WordFields.same_field}

-- in a legal history each state can be read back from its word
pub legal_decoded : (s : Shape) (p : ℕ) (h : History) → IsLegal s h
    → state_at (code_of (entry p h)) ≡ entry p h
legal_decoded s p h l = decoded (entry p h) (λ k e. let a = legal_hit s p k h l e in
    let b = min-le_left 64 (s.tests - 64 * block_of s p) in omega arith)

-- outcomes with the same word are the same
same_outcome : (o x : Outcome) → code_of (state_of o) ≡ code_of (state_of x) → o ≡ x
same_outcome outcome.Clear outcome.Clear e = refl
same_outcome outcome.Clear (outcome.Hit k) e = absurd (omega arith)
same_outcome (outcome.Hit k) outcome.Clear e = absurd (omega arith)
same_outcome (outcome.Hit k) (outcome.Hit j) e = let q : k ≡ j = omega arith in ap outcome.Hit q

-- the table seat of a token
module _ {shape : Shape} {table : TableId} {a : Sitter} {t : TableId} {me : Me ℕ View}
    (is : Taken shape table a t me) where
  pub look_allowed : (slots id i : ℕ)
      → Allows (IsKept shape) slots id me i (λ n. n) (Looks (step slots i 0 0 none) me)
  look_allowed slots id i = subst (λ (m : Me ℕ View). Allows (IsKept shape) slots id m i (λ n. n)
      (Looks (step slots i 0 0 none) m)) (sym is.me_is)
      (looks_allowed shape slots id i shape (post a.worker a.exhausted a.seen) [] [])

  -- the result of a look at a piece
  pub look_done : (slots p i n : ℕ) {now_t : TableId} (now : Me ℕ View) (b : Badge View)
      → i ≡ word_with p → now_t ≡ t → Looks (step slots i 0 0 none) me n now → b.table_id ≡ now_t
      → b.views ≡ now.0 ∷ [] → p < piece_count shape
      → state_at (field n (p % 8)) ≡ entry p (sitter b.table_id b.views).seen
  look_done slots p i n now b place same looks table_of views_of below =
      let l : Looks (step slots i 0 0 none) (one shape a.worker a.exhausted a.seen, []) n now =
      subst (λ (m : Me ℕ View). Looks (step slots i 0 0 none) m n now) is.me_is looks in
      let h = l.1.0 in
      ap state_at (l.1.1 p place below) ∙ legal_decoded shape p h l.1.2 ∙ ap (λ (x : Sitter).
      entry p x.seen) (sym (put_back is a.exhausted h now b same l.1.4 table_of views_of))

  pub claim_allowed : (slots id : ℕ) → a.exhausted ≡ false → held_by a.worker a.seen ≡ None → Allows
      (IsKept shape) slots id me 0 (λ n. (n + 1) % 2 ^ 64) (Claims (step slots 0 1 0 none) me)
  claim_allowed slots id untold free = subst (λ (m : Me ℕ View). Allows (IsKept shape) slots id m 0
      (λ n. (n + 1) % 2 ^ 64) (Claims (step slots 0 1 0 none) m))
      (sym (is.me_is ∙ ap (λ x. (one shape a.worker x a.seen, [])) untold))
      (claims_allowed shape slots id a.worker a.seen [] free)

  -- an event that is done
  made : (e : Event) (now : View) (b : Badge View) (adds : Adds shape
      (post a.worker a.exhausted a.seen) e now) → answer shape adds.0 (call_of e) ≡ Done
      → sitter b.table_id b.views ≡ sitter_at a a.exhausted (e ∷ adds.0)
      → Makes a e Done (sitter b.table_id b.views)
  made e now b adds answered seat = record {
    before = adds.0;
    seat = seat;
    newer = adds.1;
    legal = subst (λ (q : Place). IsLegal q.shape (e ∷ adds.0)) (sym is.place_is) adds.2;
    replied = sym answered
        ∙ ap (λ (q : Place). answer q.shape adds.0 (call_of e)) (sym is.place_is);
  }

  -- a property of the step on a piece's field is a property of the word's number and the bits that
  -- the call computed
  at_bits : (P : Me ℕ View → ℕ → ℕ → Type 0) {i j k l : ℕ} → i ≡ j → k ≡ l
      → P (one shape a.worker a.exhausted a.seen, []) j l → P me i k
  at_bits P {i} {j} {k} {l} place bits so =
      let here : Me ℕ View = (one shape a.worker a.exhausted a.seen, []) in
      subst (λ (m : Me ℕ View). P m i k) (sym is.me_is)
      (subst (λ x. P here x k) (sym place) (subst (λ x. P here j x) (sym bits) so))

  pub report_allowed : (slots id p i k : ℕ) (o : Outcome) → held_by a.worker a.seen ≡ Some p
      → p < piece_count shape → fits_size (size_of shape.tests (block_of shape p)) o ≡ true
      → i ≡ word_with p → k ≡ in_field p (code_of (state_of o))
      → Allows (IsKept shape) slots id me i (λ n. (n + k) % 2 ^ 64)
      (Reports (step slots i k 0 none) me)
  report_allowed slots id p i k o holding below fits place bits =
      at_bits (λ m j x. Allows (IsKept shape) slots id m j (λ n. (n + x) % 2 ^ 64)
      (Reports (step slots j x 0 none) m)) place bits
      (reports_allowed shape slots id a.worker p a.exhausted a.seen [] holding o below fits)

  pub report_done : (slots p i k n : ℕ) (o : Outcome) {now_t : TableId} (now : Me ℕ View)
      (b : Badge View) → held_by a.worker a.seen ≡ Some p → k ≡ in_field p (code_of (state_of o))
      → now_t ≡ t → Reports (step slots i k 0 none) me n now → b.table_id ≡ now_t
      → b.views ≡ now.0 ∷ [] → Makes a (Event.Report a.worker o) Done (sitter b.table_id b.views)
  report_done slots p i k n o now b holding bits same reports table_of views_of =
      let r : Reports (step slots i k 0 none) (one shape a.worker a.exhausted a.seen, []) n now =
      subst (λ (m : Me ℕ View). Reports (step slots i k 0 none) m n now) is.me_is reports in
      let e = Event.Report a.worker o in
      let it : Adds shape (post a.worker a.exhausted a.seen) e now.0 =
      subst (λ x. Adds shape (post a.worker a.exhausted a.seen) (Event.Report a.worker x) now.0)
      (same_outcome r.1.0 o (same_field p (code_of (state_of r.1.0)) (code_of (state_of o))
      (sym (r.1.1 p holding) ∙ bits))) r.1.2 in
      made e now.0 b it (report_answered shape it.0 a.worker o it.2.0)
      (put_back is a.exhausted (e ∷ it.0) now b same it.3 table_of views_of)

  pub drop_allowed : (slots id p i k : ℕ) → held_by a.worker a.seen ≡ Some p → p < piece_count shape
      → has_earlier_hit shape a.seen p ≡ true → i ≡ word_with p → k ≡ in_field p 2 → Allows
      (IsKept shape) slots id me i (λ n. (n + k) % 2 ^ 64) (Drops (step slots i k 0 none) me)
  drop_allowed slots id p i k holding below hit place bits =
      at_bits (λ m j x. Allows (IsKept shape) slots id m j (λ n. (n + x) % 2 ^ 64)
      (Drops (step slots j x 0 none) m)) place bits
      (drops_allowed shape slots id a.worker p a.exhausted a.seen [] holding below hit)

  pub drop_done : (slots i k n : ℕ) {now_t : TableId} (now : Me ℕ View) (b : Badge View) → now_t ≡ t
      → Drops (step slots i k 0 none) me n now → b.table_id ≡ now_t → b.views ≡ now.0 ∷ []
      → Makes a (Event.Drop a.worker) Done (sitter b.table_id b.views)
  drop_done slots i k n now b same drops table_of views_of =
      let r : Drops (step slots i k 0 none) (one shape a.worker a.exhausted a.seen, []) n now =
      subst (λ (m : Me ℕ View). Drops (step slots i k 0 none) m n now) is.me_is drops in
      let e = Event.Drop a.worker in
      made e now.0 b r.1 (drop_answered shape r.1.0 a.worker r.1.2.0)
      (put_back is a.exhausted (e ∷ r.1.0) now b same r.1.3 table_of views_of)
