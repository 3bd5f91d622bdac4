-- The way of a fault to the stem of a region: it leads from gate to gate, a level higher at each. A
-- fault at a signal that is not live is not detected.
use Rattle.std.proofs.Common.{◌≡◌, ◌≢◌, ◌<◌, ◌≤◌, ℕ, ◌+◌, Bool, refl, sym, ◌∙◌, subst, List, inr}
use Rattle.std.{proofs.Common.◌⊎◌, specs.Prelude.{Contains, Some, None}}
use Rattle.bench_net.specs.{declared.Kind.Kind, declared.Sink.Sink, Scan.{names, signal, observers}}
use Rattle.bench_net.specs.{Statement.{Name, Statement, Gate}, Circuit.IsWellFormed}
use Rattle.list_lemmas.proofs.Members.{Among, among, contained}
use Rattle.fault_model.specs.declared.Line.TheVariants as line
use Rattle.fault_model.specs.{Fault.branch, Solution.{Test, Solves, shows}}
use Rattle.fault_model.proofs.Public.{detection_is_of_any_solution, has_solutions, under_other}
use Rattle.fault_model.proofs.Public.{observes}
use Rattle.flat_circuit.specs.Readers.{IsLive, observed, through}
use Rattle.flat_circuit.specs.Regions.{IsStem, LeadsTo, here, lone_reader, onward}
use Rattle.block_sim.{specs.Flips.{DetectsFlip, flip}, proofs.EnteredGates.{IsFree, same_where}}

-- from the one reader of a signal the way to the stem goes on
pub leads_on : (c : List Statement) {s r : ℕ} (g : ℕ) → IsStem c r → lone_reader c s ≡ Some g
    → LeadsTo c s r → LeadsTo c g r
leads_on c g stem alone here = let bad : None ≡ Some g = sym stem ∙ alone in cc
leads_on c {r = r} g stem alone (onward {g = k} h more) =
    let gates : Some k ≡ Some g = sym h ∙ alone in
    let same : k ≡ g = cc in
    subst (λ z. LeadsTo c z r) same more

-- ---- a signal that is not live
module _ (c : List Statement) (well : IsWellFormed c) (t : Test) (s : ℕ) (dead : ¬ IsLive c s) where
  -- complemented it changes no live signal, so no observer sees it
  module _ (bit : Bool) (v w : Name
      → Bool) (p : Solves c t None v) (q : Solves c t (Some (flip s bit)) w) where
    away : (m : Name) → IsLive c (signal c m) → line.Stem s ≢ line.Stem (signal c m)
    away m live e = let same : s ≡ signal c m = cc in dead (subst (IsLive c) (sym same) live)

    kept : (m : Name) → Among m (names c) → IsLive c (signal c m)
        → (v m ≡ w m) ⊎ (IsFree None (signal c m) × IsFree (Some (flip s bit)) (signal c m)
        × ((kind : Kind) (args : List Name) → Among (Gate m kind args) c → (a : Name) → Among a args
        → IsLive c (signal c a)))
    kept m a live = inr (
      tt,
      (away m live, λ pin e. cc),
      λ kind args stands x h. through (record {
        name = m;
        kind = kind;
        args = args;
        read = x;
        gate = contained c (Gate m kind args) stands;
        number = refl;
        reads = contained args x h;
        of = refl;
      }) live,
    )

    unseen : (o : Sink × Name) → Contains (observers c) o
        → shows None v o ≢ shows (Some (flip s bit)) w o → ⊥
    unseen o there differs =
        let it = observes c o well there in
        let same = same_where c t None (Some (flip s bit)) v w well p q (λ m. IsLive c (signal c m))
        kept o.1 (among (names c) o.1 it.named) (observed (o, there, refl)) in
        differs (same ∙ sym (under_other (flip s bit) (branch o.0) (w o.1) (it.no_stem s)))

  pub dead_flip : DetectsFlip c t s → ⊥
  dead_flip d =
      let v = has_solutions c well t None in
      let w = has_solutions c well t (Some (flip s d.0)) in
      let a = (detection_is_of_any_solution c well (flip s d.0) t v.0 w.0 v.1 w.1).0 d.2 in
      unseen d.0 v.0 w.0 v.1 w.1 a.0 a.1 a.2
