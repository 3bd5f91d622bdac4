-- The numbers of all pins for the faults before one: one fault more.
use Rattle.std.proofs.Common.{◌≡◌, ◌≢◌, ◌<◌, ◌≤◌, ◌+◌, ◌*◌, ◌-◌, ◌^◌, ◌∙◌, ℕ, suc, refl, sym, ap}
use Rattle.std.proofs.Common.{subst, true, false, List, length, arith, inl, inr, ◌⊎◌, get_or}
use Rattle.std.specs.{Prelude.{◌/◌, ◌%◌, All, Some, min, slice_get, slice_index_or}, Bool.Decides}
use Rattle.std.proofs.lemmas.{Bool.false≢true, Option.{get_or_from_slice_get, slice_get-get_or}}
use Rattle.fault_model.specs.{Detection.DetectsAt, Fault.Fault}
use Rattle.flat_circuit.{specs.BlockSpans.groups, specs.Words.lane, proofs.Public.lane_of_zero}
use Rattle.block_sim.specs.Parts.{Parts}
use Rattle.list_lemmas.proofs.Places.{place_within, within_place}
use Rattle.blocking_pins.specs.declared.{gate_pins.GatePin.GatePin, tally.PinCount.PinCount}
use Rattle.blocking_pins.specs.Blocking.{BlocksAt, BlocksFault, BlocksSometimes, HaveCount}
use Rattle.blocking_pins.specs.Blocking.HaveCount.{counted, none, skipped}
use Rattle.blocking_pins.specs.Counting.{AreAllAdded, BlocksAtPlace, IsMarked, IsTallyBelow}
use Rattle.blocking_pins.specs.Counting.IsMarked.{unblocked, again, first}
use Rattle.blocking_pins.proofs.Counts.{count_within}

same_some : {X : Type 0} (x y : X) → Some x ≡ Some y → x ≡ y
same_some x y e = cc

at_or_below : (i n : ℕ) → i < n + 1 → (i < n) ⊎ (i ≡ n)
at_or_below i n lt = grind (arith, lt)

module _ (job : Parts) (pins : List GatePin) (i : ℕ) (f : Fault)
    (listed : slice_get job.list.list i ≡ Some f) (few : i + 1 < 2 ^ 32) (counts : List PinCount)
    (rows : List (List ℕ)) (h : IsTallyBelow job pins i counts rows) where
  -- a fault that a test detects
  module _ (t : ℕ) (detects : DetectsAt job.circuit job.tests.tests f t) where
    not_blocked : (gate pin u : ℕ) → BlocksFault job gate pin i u → ⊥
    not_blocked gate pin u b =
        let is : b.0 ≡ f = same_some b.0 f (sym b.1 ∙ listed) in
        b.2 t (subst (λ x. DetectsAt job.circuit job.tests.tests x t) (sym is) detects)

    pub detected_more : IsTallyBelow job pins (i + 1) counts rows
    detected_more = record {
      count = h.count;
      room = h.room;
      long = h.long;
      last = λ n count at. let le = h.last n count at in omega (arith, le);
      faults = λ n at count here there.
          subst (λ m. HaveCount (BlocksSometimes job at.gate at.pin) m count.faults)
          (let e : suc i ≡ i + 1 = omega arith in e) (skipped (h.faults n at count here there)
          (λ b. not_blocked at.gate at.pin b.0 b.1));
      lanes = λ group n k row at here there lt. (
        λ on. let w = (h.lanes group n k row at here there lt).0 on in
            (w.0, (let low = w.1 in omega (arith, low)), w.2),
        λ w. go group n k row at here there lt w (at_or_below w.0 i w.1),
      );
    }
      where
        go : (group n k : ℕ) (row : List ℕ) (at : GatePin) → slice_get rows group ≡ Some row
            → slice_get pins n ≡ Some at → k < 128 → (w : (fault : ℕ) × (fault < i + 1)
            × BlocksFault job at.gate at.pin fault (128 * group + k))
            → (w.0 < i) ⊎ (w.0 ≡ i) → lane (slice_index_or row n 0) k ≡ true
        go group n k row at here there lt w (inl below) =
            (h.lanes group n k row at here there lt).1 (w.0, below, w.2)
        go group n k row at here there lt w (inr same) =
            absurd (not_blocked at.gate at.pin (128 * group + k)
            (subst (λ x. BlocksFault job at.gate at.pin x (128 * group + k)) same w.2))

  -- an undetected fault
  module _ (undetected : (u : ℕ) → ¬ DetectsAt job.circuit job.tests.tests f u)
      (after : List PinCount) (now : List (List ℕ)) (g : AreAllAdded (i + 1)
      (λ group n k. BlocksAtPlace job.circuit job.tests.tests f pins n (128 * group + k))
      (groups (length job.tests.tests)) counts after rows now) where
    blocks_own : (n u : ℕ) (at : GatePin) → slice_get pins n ≡ Some at
        → BlocksAtPlace job.circuit job.tests.tests f pins n u → BlocksFault job at.gate at.pin i u
    blocks_own n u at here b =
        let is : b.0 ≡ at = same_some b.0 at (sym b.1 ∙ here) in (
          f,
          listed,
          undetected,
          subst (λ (x : GatePin). BlocksAt job.circuit job.tests.tests f x.gate x.pin u) is b.2,
        )

    own_blocks : (n u : ℕ) (at : GatePin) → slice_get pins n ≡ Some at
        → BlocksFault job at.gate at.pin i u → BlocksAtPlace job.circuit job.tests.tests f pins n u
    own_blocks n u at here b =
        let is : b.0 ≡ f = same_some b.0 f (sym b.1 ∙ listed) in (
          at,
          here,
          subst (λ x. BlocksAt job.circuit job.tests.tests x at.gate at.pin u) is b.3,
        )

    abbrev IsBlockedAt : ℕ → Type 0
    IsBlockedAt n = (group : ℕ) × (k : ℕ) × (group < groups (length job.tests.tests))
        × (k < 128) × BlocksAtPlace job.circuit job.tests.tests f pins n (128 * group + k)

    sometimes : (n : ℕ) (at : GatePin) → slice_get pins n ≡ Some at → IsBlockedAt n
        → BlocksSometimes job at.gate at.pin i
    sometimes n at here b = (128 * b.0 + b.1, blocks_own n (128 * b.0 + b.1) at here b.4)

    at_group : (n : ℕ) (at : GatePin) → slice_get pins n ≡ Some at
        → BlocksSometimes job at.gate at.pin i → IsBlockedAt n
    at_group n at here b =
        let lt : b.0 < length job.tests.tests = place_within job.tests.tests b.0 b.1.3.0 b.1.3.1 in
        let whole : 128 * (b.0 / 128) + b.0 % 128 ≡ b.0 = omega arith in
        let low : b.0 % 128 < 128 = omega arith in
        let within : b.0 / 128 < (length job.tests.tests + 127) / 128 = omega (arith, lt) in (
          b.0 / 128,
          b.0 % 128,
          within,
          low,
          subst (BlocksAtPlace job.circuit job.tests.tests f pins n) (sym whole)
              (own_blocks n b.0 at here b.1),
        )

    old_at : (n : ℕ) (new : PinCount) → slice_get after n ≡ Some new
        → (old : PinCount) × (slice_get counts n ≡ Some old)
    old_at n new at =
        let lt = place_within after n new at in
        let same = g.count in
        within_place counts n (omega (arith, lt, same))

    row_at : (group : ℕ) (next : List ℕ) → slice_get now group ≡ Some next
        → (row : List ℕ) × (slice_get rows group ≡ Some row)
    row_at group next at =
        let lt = place_within now group next at in
        let same = g.room in
        within_place rows group (omega (arith, lt, same))

    last : (n : ℕ) (new : PinCount) → slice_get after n ≡ Some new → new.last ≤ i + 1
    last n new at = let old = old_at n new at in
        go old.0 (h.last n old.0 old.1) (g.marks n old.0 new old.1 at)
      where
        go : (old : PinCount) → old.last ≤ i → IsMarked (i + 1) (IsBlockedAt n) old new
            → new.last ≤ i + 1
        go old le (unblocked off e) = let same = ap (λ (x : PinCount). x.last) e in
            omega (arith, le, same)
        go old le (again on is e) = let same = ap (λ (x : PinCount). x.last) e in
            omega (arith, le, same)
        go old le (first on ne e) = let same : new.last ≡ i + 1 = ap (λ (x : PinCount). x.last) e in
            omega (arith, same)

    faults_more : (n : ℕ) (at : GatePin) (new : PinCount) → slice_get pins n ≡ Some at
        → slice_get after n ≡ Some new
        → HaveCount (BlocksSometimes job at.gate at.pin) (i + 1) new.faults
    faults_more n at new here there =
        let old = old_at n new there in
        subst (λ m. HaveCount (BlocksSometimes job at.gate at.pin) m new.faults)
        (let e : suc i ≡ i + 1 = omega arith in e)
        (go old.0 (h.last n old.0 old.1) (h.faults n at old.0 here old.1)
        (g.marks n old.0 new old.1 there))
      where
        go : (old : PinCount) → old.last ≤ i
            → HaveCount (BlocksSometimes job at.gate at.pin) i old.faults
            → IsMarked (i + 1) (IsBlockedAt n) old new
            → HaveCount (BlocksSometimes job at.gate at.pin) (suc i) new.faults
        go old le count (unblocked off e) =
            subst (HaveCount (BlocksSometimes job at.gate at.pin) (suc i))
            (sym (ap (λ (x : PinCount). x.faults) e))
            (skipped count (λ b. off (at_group n at here b)))
        go old le count (again on is e) = absurd (omega (arith, le, is))
        go old le count (first on ne e) =
            let low = count_within (BlocksSometimes job at.gate at.pin) i old.faults count in
            let is : new.faults ≡ min (old.faults + 1) (2 ^ 32 - 1) =
            ap (λ (x : PinCount). x.faults) e in
            let more : suc old.faults ≡ new.faults = grind (arith, is, low, few) in
            subst (HaveCount (BlocksSometimes job at.gate at.pin) (suc i)) more
            (counted count (sometimes n at here on))

    in_groups : (group : ℕ) (row : List ℕ) → slice_get rows group ≡ Some row
        → group < groups (length job.tests.tests)
    in_groups group row there =
        let low = place_within rows group row there in
        let room : length rows ≡ (length job.tests.tests + 127) / 128 = h.room in
        omega (arith, low, room)

    within : (group n : ℕ) (row : List ℕ) (at : GatePin) → slice_get rows group ≡ Some row
        → slice_get pins n ≡ Some at → n < length row
    within group n row at there here =
        let low = place_within pins n at here in
        let long = h.long group row there in
        omega (arith, low, long)

    abbrev Before : ℕ → GatePin → ℕ → ℕ → Type 0
    Before end at group k = (fault : ℕ) × (fault < end)
        × BlocksFault job at.gate at.pin fault (128 * group + k)

    abbrev Added : ℕ → ℕ → ℕ → Type 0
    Added n group k = (group < groups (length job.tests.tests))
        × BlocksAtPlace job.circuit job.tests.tests f pins n (128 * group + k)

    to : (n group k : ℕ) (row : List ℕ) (at : GatePin) → slice_get pins n ≡ Some at
        → (lane (slice_index_or row n 0) k ≡ true → Before i at group k)
        → (lane (slice_index_or row n 0) k ≡ true) ⊎ Added n group k → Before (i + 1) at group k
    to n group k row at here old (inl on) = let w = old on in
        (w.0, (let low = w.1 in omega (arith, low)), w.2)
    to n group k row at here old (inr b) = (
      i,
      omega arith,
      blocks_own n (128 * group + k) at here b.1,
    )

    from : (n group k : ℕ) (row : List ℕ) (at : GatePin) → slice_get pins n ≡ Some at
        → slice_get rows group ≡ Some row
        → (Before i at group k → lane (slice_index_or row n 0) k ≡ true)
        → (w : Before (i + 1) at group k) → (w.0 < i) ⊎ (w.0 ≡ i)
        → (lane (slice_index_or row n 0) k ≡ true) ⊎ Added n group k
    from n group k row at here there old w (inl below) = inl (old (w.0, below, w.2))
    from n group k row at here there old w (inr same) = inr (
      in_groups group row there,
      own_blocks n (128 * group + k) at here
          (subst (λ x. BlocksFault job at.gate at.pin x (128 * group + k)) same w.2),
    )

    lanes_more : (group n k : ℕ) (next : List ℕ) (at : GatePin)
        → slice_get now group ≡ Some next → slice_get pins n ≡ Some at → k < 128
        → Decides (lane (slice_index_or next n 0) k) (Before (i + 1) at group k)
    lanes_more group n k next at there here lt =
        let old = row_at group next there in
        let both = g.lanes group old.0 next n k old.1 there
        (within group n old.0 at old.1 here) lt in
        let before = h.lanes group n k old.0 at old.1 here lt in (
          λ on. to n group k old.0 at here before.0 (both.0 on),
          λ w. both.1 (from n group k old.0 at here old.1 before.1 w (at_or_below w.0 i w.1)),
        )

    pub undetected_more : IsTallyBelow job pins (i + 1) after now
    undetected_more = record {
      count = g.count ∙ h.count;
      room = g.room ∙ h.room;
      long = λ group next at. let old = row_at group next at in
          g.long group old.0 next old.1 at ∙ h.long group old.0 old.1;
      last = last;
      faults = faults_more;
      lanes = lanes_more;
    }

-- before the first fault nothing was counted
pub tally_none : (job : Parts) (pins : List GatePin) (counts : List PinCount)
    (rows : List (List ℕ)) → length counts ≡ length pins
    → length rows ≡ groups (length job.tests.tests)
    → All (λ count. count ≡ record { faults = 0; last = 0 }) counts
    → All (λ row. (length row ≡ length pins) × All (λ word. word ≡ 0) row) rows
    → IsTallyBelow job pins 0 counts rows
tally_none job pins counts rows count room fresh zero = record {
  count = count;
  room = room;
  long = λ group row at. (zero_row group row at).0;
  last = λ i one at. let e = ap (λ (x : PinCount). x.last) (zero_count i one at) in
      omega (arith, e);
  faults = λ i at one here there. subst (HaveCount (BlocksSometimes job at.gate at.pin) 0)
      (sym (ap (λ (x : PinCount). x.faults) (zero_count i one there))) none;
  lanes = λ group i k row at there here lt. (
    λ on. absurd (false≢true (sym (lane_of_zero (slice_index_or row i 0) k
        ((zero_row group row there).1 i 0 (
        let low = place_within pins i at here in
        let long = (zero_row group row there).0 in
        omega (arith, low, long)))) ∙ on)),
    λ w. let low = w.1 in absurd (omega (arith, low)),
  );
}
  where
    zero_count : (i : ℕ) (one : PinCount) → slice_get counts i ≡ Some one
        → one ≡ record { faults = 0; last = 0 }
    zero_count i one at = sym (get_or_from_slice_get counts i one one at)
        ∙ fresh i one (place_within counts i one at)

    zero_row : (group : ℕ) (row : List ℕ) → slice_get rows group ≡ Some row
        → (length row ≡ length pins) × All (λ word. word ≡ 0) row
    zero_row group row at = subst (λ r. (length r ≡ length pins) × All (λ word. word ≡ 0) r)
        (get_or_from_slice_get rows group row row at)
        (zero group row (place_within rows group row at))

pub tally_rows : (job : Parts) (pins : List GatePin) (end : ℕ) (counts : List PinCount)
    (rows : List (List ℕ)) → IsTallyBelow job pins end counts rows
    → All (λ row. length row ≡ length pins) rows
tally_rows job pins end counts rows h = λ k d lt.
    h.long k (get_or rows k d) (slice_get-get_or rows k d lt)
