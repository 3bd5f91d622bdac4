-- A test detects an observed signal that is complemented.
use Rattle.std.{proofs.Common.{◌≡◌, refl, sym, ◌∙◌, ap, ℕ, not, List}, specs.Prelude.{None, Some}}
use Rattle.bench_net.specs.{Statement.Statement, Scan.{name_of, names, signal}}
use Rattle.bench_net.{specs.Circuit.IsWellFormed, proofs.Public.name_of-signal}
use Rattle.list_lemmas.proofs.Members.{among}
use Rattle.fault_model.specs.declared.Line.TheVariants as line
use Rattle.fault_model.specs.{Fault.branch, Solution.Test}
use Rattle.fault_model.proofs.Public.{has_solutions, observes, under_other}
use Rattle.flat_circuit.specs.Readers.{IsObserved}
use Rattle.block_sim.{specs.Flips.{DetectsFlip, flip}, proofs.Flips.{not_itself, stem_stuck}}

pub observed_flip : (c : List Statement) (t : Test) (s : ℕ) → IsWellFormed c → IsObserved c s
    → DetectsFlip c t s
observed_flip c t s well o =
    let seen = observes c o.0 well o.1 in
    let n = o.0.1 in
    let u = has_solutions c well t None in
    let bit = u.0 n in
    let f = flip s bit in
    let w = has_solutions c well t (Some f) in
    let stuck : w.0 n ≡ not bit =
    stem_stuck c well t f w.0 n w.1 (among (names c) n seen.named) (ap line.Stem (sym o.2)) in (
      bit,
      (u.0, n, u.1, subst_name o.2 (name_of-signal c n seen.named), refl),
      (
        u.0,
        w.0,
        o.0,
        u.1,
        w.1,
        o.1,
        λ e. not_itself bit (e ∙ (under_other f (branch o.0.0) (w.0 n) (seen.no_stem s) ∙ stuck)),
      ),
    )
  where
    subst_name : signal c o.0.1 ≡ s → name_of c (signal c o.0.1) ≡ Some o.0.1
        → name_of c s ≡ Some o.0.1
    subst_name e h = sym (ap (name_of c) e) ∙ h
