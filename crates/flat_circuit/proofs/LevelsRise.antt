-- A gate has a higher level than the signals that it reads.
use Rattle.std.{proofs.Common.{◌≡◌, ◌<◌, ℕ, sym, ◌∙◌, ap, length, List}, specs.Option.option_map_or}
use Rattle.std.specs.Prelude.{Contains, Option}
use Rattle.bench_net.specs.{Statement.{Name, Statement}, Scan.{names, name_of, signal}}
use Rattle.bench_net.specs.{Circuit.IsWellFormed, Level.{AreLevels, HasLevel}}
use Rattle.bench_net.proofs.Public.{name_of-signal}
use Rattle.list_lemmas.proofs.Places.{at_place, within_place}
use Rattle.flat_circuit.proofs.LevelOrder.{one_level}

-- the level of a signal, by its number
abbrev pub level_at : List Statement → (Name → ℕ) → ℕ → ℕ
level_at c level s = option_map_or level (name_of c s) 0

pub level_named : (c : List Statement) (level : Name → ℕ) (n : Name) (s : ℕ) → Contains (names c) n
    → signal c n ≡ s → level_at c level s ≡ level n
level_named c level n s at number = ap (λ x. level_at c level x) (sym number)
    ∙ ap (λ (o : Option Name). option_map_or level o 0) (name_of-signal c n at)

-- in each choice of levels a signal has its level
pub level_is : (c : List Statement) (level : Name → ℕ) (g k : ℕ) → IsWellFormed c
    → AreLevels c level → HasLevel c g k → level_at c level g ≡ k
level_is c level g k well are h = ap (λ (o : Option Name). option_map_or level o 0) h.3
    ∙ (one_level c well level h.0 h.1 are h.2 (at_place (names c) g h.1 h.3) ∙ h.4)

-- a signal has its level by its number
pub has_level : (c : List Statement) (level : Name → ℕ) (g : ℕ) → AreLevels c level
    → g < length (names c) → HasLevel c g (level_at c level g)
has_level c level g are within = let n = within_place (names c) g within in
    (level, n.0, are, n.1, sym (ap (λ (o : Option Name). option_map_or level o 0) n.1))
