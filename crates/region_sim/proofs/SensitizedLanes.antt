-- The lanes in which a complemented signal complements the stem: the lanes of the only gate that
-- reads it, if the gate passes the change on.
use Rattle.std.proofs.Common.{◌≡◌, ◌<◌, ◌≤◌, ℕ, refl, sym, ◌∙◌, ap, subst, Bool, true, false, List}
use Rattle.std.proofs.Common.{[], ◌∷◌, ◌++◌, ◌⊎◌, ◌==◌, inl, inr, length, set, arith, eq-eqb}
use Rattle.std.{proofs.Common.eqb-true, specs.Prelude.{Option, Some, None, bit_and, slice_index_or}}
use Rattle.std.{specs.Bool.Decides, proofs.lemmas.Bool.false≢true}
use Rattle.std.proofs.lemmas.List.{get_or-set_same, get_or-set_other, length-set}
use Rattle.bench_net.specs.{Statement.Statement, Scan.names, Circuit.IsWellFormed}
use Rattle.fault_model.specs.{Fault.Fault, Solution.Test}
use Rattle.flat_circuit.specs.{Readers.IsLive, Regions.{IsReadBy, lone_reader}}
use Rattle.flat_circuit.specs.Words.{lane, test_of, AreWords}
use Rattle.flat_circuit.proofs.Public.{pin_law, lane_of_zero, only_lanes}
use Rattle.block_sim.specs.Flips.{DetectsFlip, HasCome, Passes}
use Rattle.block_sim.proofs.Public.{dead_flip, lanes_both, lanes_first, step_law}
use Rattle.region_sim.specs.Sensitized.{AreKnownFlips, CarriesFlip, IsPathTo, on_from}

-- the stem itself
pub carried_live : (c : List Statement) (tests : List Test) (group mask stem : ℕ)
    → CarriesFlip c tests group mask stem stem mask
carried_live c tests group mask stem k lt asked = (λ d. (asked, d), λ p. p.1)

pub carried_dead : (c : List Statement) (tests : List Test) (group mask stem : ℕ) → IsWellFormed c
    → (IsLive c stem → ⊥) → CarriesFlip c tests group mask stem stem 0
carried_dead c tests group mask stem well dead k lt asked = (
  λ d. absurd (dead_flip c well (test_of tests group k) stem dead d),
  λ p. p.1,
)

-- a signal that only one gate reads
pub carried_before : (c : List Statement) (tests : List Test) (group mask stem s g word new : ℕ)
    → IsWellFormed c → lone_reader c s ≡ Some g → CarriesFlip c tests group mask g stem word
    → ((k : ℕ) → k < 128 → Decides (lane new k)
    ((lane word k ≡ true) × Passes c (test_of tests group k) s g))
    → CarriesFlip c tests group mask s stem new
carried_before c tests group mask stem s g word new well alone carried passes k lt asked = (
  λ d. there d,
  λ p. back p.0 p.1,
)
  where
    read : IsReadBy c g s
    read = pin_law c well s g alone

    there : DetectsFlip c (test_of tests group k) s
        → (lane new k ≡ true) × DetectsFlip c (test_of tests group k) stem
    there d =
        let over = (step_law c well (test_of tests group k) s g read).0 d in
        let on = (carried k lt asked).0 over.1 in
        ((passes k lt).1 (on.0, over.0), on.1)

    back : lane new k ≡ true → DetectsFlip c (test_of tests group k) stem
        → DetectsFlip c (test_of tests group k) s
    back e d =
        let both = (passes k lt).0 e in
        (step_law c well (test_of tests group k) s g read).1 (
          both.1,
          (carried k lt asked).1 (both.0, d),
        )

-- the word of the gate is 0, or it is not
pub passed_nowhere : (c : List Statement) (tests : List Test) (group s g word : ℕ) → word ≡ 0
    → (k : ℕ) → k < 128 → Decides (lane 0 k)
    ((lane word k ≡ true) × Passes c (test_of tests group k) s g)
passed_nowhere c tests group s g word none k lt = (
  λ e. absurd (false≢true (sym (lane_of_zero 0 k refl) ∙ e)),
  λ p. absurd (false≢true (sym (lane_of_zero word k none) ∙ p.0)),
)

pub passed_where : (c : List Statement) (tests : List Test) (group s g word new : ℕ)
    → ((k : ℕ) → k < 128 → lane word k ≡ true → Decides (lane new k)
    ((lane word k ≡ true) × Passes c (test_of tests group k) s g))
    → ((k : ℕ) → lane new k ≡ true → lane word k ≡ true) → (k : ℕ) → k < 128 → Decides (lane new k)
    ((lane word k ≡ true) × Passes c (test_of tests group k) s g)
passed_where c tests group s g word new passed inside k lt = (
  λ e. (passed k lt (inside k e)).0 e,
  λ p. (passed k lt p.0).1 p,
)

-- a fault that has reached a signal has reached the stem
pub come_to_stem : (c : List Statement) (tests : List Test) (group : ℕ) (f : Fault)
    (lanes mask s stem arrived word : ℕ)
    → ((k : ℕ) → k < 128 → lane lanes k ≡ true → lane mask k ≡ true)
    → HasCome c tests group f lanes s arrived → CarriesFlip c tests group mask s stem word
    → HasCome c tests group f lanes stem (bit_and arrived word)
come_to_stem c tests group f lanes mask s stem arrived word inside come carried k lt asked = (
  λ d. (let at = (come k lt asked).0 d in
      let on = (carried k lt (inside k lt asked)).0 at.1 in
      (lanes_both arrived word k at.0 on.0, on.1)),
  λ p. (come k lt asked).1 (
    lanes_first arrived word k p.0,
    (carried k lt (inside k lt asked)).1 (only_lanes arrived word k p.0, p.1),
  ),
)

-- ---- the path
pub path_longer : (c : List Statement) (path : List ℕ) (s g : ℕ) → IsPathTo c path s
    → lone_reader c s ≡ Some g → IsPathTo c (path ++ s ∷ []) g
path_longer c [] s g p alone = (alone, tt)
path_longer c (t ∷ []) s g p alone = (p.0, (alone, tt))
path_longer c (t ∷ u ∷ path) s g p alone = (p.0, path_longer c (u ∷ path) s g p.1 alone)

pub path_shorter : (c : List Statement) (path : List ℕ) (s g : ℕ) → IsPathTo c (path ++ s ∷ []) g
    → (lone_reader c s ≡ Some g) × IsPathTo c path s
path_shorter c [] s g p = (p.0, tt)
path_shorter c (t ∷ []) s g p = (p.1.0, (p.0, tt))
path_shorter c (t ∷ u ∷ path) s g p =
    let rest = path_shorter c (u ∷ path) s g p.1 in (rest.0, (p.0, rest.1))

pub same_first : (path : List ℕ) (s g : ℕ) → on_from (path ++ s ∷ []) g ≡ on_from path s
same_first [] s g = refl
same_first (t ∷ path) s g = refl

pub no_path : (path : List ℕ) (s : ℕ) → length path ≡ 0 → on_from path s ≡ s
no_path [] s none = refl
no_path (t ∷ path) s none = absurd (omega (arith, none))

-- ---- one signal more is known
module _ (known : List (Option ℕ)) (s word : ℕ) (within : s < length known) where
  here_now : slice_index_or (set known s (Some word)) s None ≡ Some word
  here_now = get_or-set_same known s (Some word) None within

  -- the words that are known then
  now_known : (t : ℕ) (w : ℕ) → slice_index_or (set known s (Some word)) t None ≡ Some w
      → ((t ≡ s) × (w ≡ word)) ⊎ (slice_index_or known t None ≡ Some w)
  now_known t w e = go (t == s) refl
    where
      go : (b : Bool) → (t == s) ≡ b
          → ((t ≡ s) × (w ≡ word)) ⊎ (slice_index_or known t None ≡ Some w)
      go true is =
          let same : t ≡ s = eqb-true t s is in
          let both : Some w ≡ Some word = sym e
          ∙ (ap (λ x. slice_index_or (set known s (Some word)) x None) same ∙ here_now) in
          inl (same, cc)
      go false is = inr (sym (get_or-set_other known s t (Some word) None
          (λ same. false≢true (sym is ∙ eq-eqb t s same))) ∙ e)

  still_known : (t : ℕ) (w : ℕ) → slice_index_or known t None ≡ Some w
      → (v : ℕ) × (slice_index_or (set known s (Some word)) t None ≡ Some v)
  still_known t w e = go (t == s) refl
    where
      go : (b : Bool) → (t == s) ≡ b
          → (v : ℕ) × (slice_index_or (set known s (Some word)) t None ≡ Some v)
      go true is = (
        word,
        ap (λ x. slice_index_or (set known s (Some word)) x None) (eqb-true t s is) ∙ here_now,
      )
      go false is = (
        w,
        get_or-set_other known s t (Some word) None (λ same. false≢true (sym is ∙ eq-eqb t s same))
            ∙ e,
      )

  pub flips_more : (c : List Statement) (good : List ℕ) (mask stem : ℕ)
      → AreKnownFlips c good mask stem known
      → ((tests : List Test) (group : ℕ) → AreWords c tests group None good
      → CarriesFlip c tests group mask s stem word)
      → AreKnownFlips c good mask stem (set known s (Some word))
  flips_more c good mask stem before own = record {
    room = subst (λ n. length (names c) ≤ n) (sym (length-set known s (Some word))) before.room;
    begun = still_known stem before.begun.0 before.begun.1;
    each = λ t w e tests group words. elim (now_known t w e) [
      | inl h ↦ subst (λ x. CarriesFlip c tests group mask t stem x) (sym h.1)
          (subst (λ x. CarriesFlip c tests group mask x stem word) (sym h.0)
          (own tests group words))
      | inr h ↦ before.each t w h tests group words
    ];
  }

  -- and if none was known, with only the stem
  pub flips_begun : (c : List Statement) (good : List ℕ) (mask : ℕ)
      → length (names c) ≤ length known → ((t : ℕ) → slice_index_or known t None ≡ None)
      → ((tests : List Test) (group : ℕ) → AreWords c tests group None good
      → CarriesFlip c tests group mask s s word)
      → AreKnownFlips c good mask s (set known s (Some word))
  flips_begun c good mask room none own = record {
    room = subst (λ n. length (names c) ≤ n) (sym (length-set known s (Some word))) room;
    begun = (word, here_now);
    each = λ t w e tests group words. elim (now_known t w e) [
      | inl h ↦ subst (λ x. CarriesFlip c tests group mask t s x) (sym h.1)
          (subst (λ x. CarriesFlip c tests group mask x s word) (sym h.0) (own tests group words))
      | inr h ↦ (let bad : None ≡ Some w = sym (none t) ∙ h in cc)
    ];
  }
