-- The status of a class, read from the states of its pieces.
use Rattle.std.proofs.Common.{◌≡◌, ℕ, zero, suc, ◌+◌, ◌-◌, ◌*◌, ◌<◌, ◌≤◌, List, ◌∷◌, map, length}
use Rattle.std.proofs.Common.{slice_index_or, Some, None, sym, ap, ◌∙◌, arith}
use Rattle.patterns.specs.Least.{from_up, below}
use Rattle.patterns.proofs.Public.{length-map-below, get_or-map-below, map-below_same}
use Rattle.fault_ledger.specs.declared.{Shape.Shape, PieceState.PieceState, Status.Status}
use Rattle.fault_ledger.specs.History.{History, entry, block_count, piece_count, piece_at}
use Rattle.fault_ledger.specs.{History.states_of, Settled.{status_from, status}, Seats.AreStates}
use Rattle.fault_ledger.proofs.PieceNumbers.{piece_at-below}
use Rattle.fault_ledger.proofs.LegalHistories.{legal_hit, never_first}
use Rattle.fault_ledger.specs.declared.PieceState.TheVariants as state
use Rattle.fault_ledger.specs.declared.Status.TheVariants as status_is

-- past blocks that are clear
status-past : (g : ℕ → PieceState) (a m n all b : ℕ) → m + n ≡ all → a + m ≡ b
    → ((k : ℕ) → a ≤ k → k < b → g k ≡ state.Clear)
    → status_from a (map g (from_up a all)) ≡ status_from b (map g (from_up b n))
status-past g a zero n all b p q clear =
    let x : all ≡ n = omega arith in
    let y : a ≡ b = omega arith in
    λ i. status_from (y i) (map g (from_up (y i) (x i)))
status-past g a (suc m) n zero b p q clear = absurd (omega arith)
status-past g a (suc m) n (suc all) b p q clear =
    ap (λ x. status_from a (x ∷ map g (from_up (a + 1) all))) (clear a (omega arith) (omega arith))
    ∙ status-past g (a + 1) m n all b (omega arith) (omega arith) (λ k l o. clear k (omega arith) o)

-- at the first block that isn't clear, and if all are
pub status-hit : (g : ℕ → PieceState) (n b k : ℕ) → b < n → ((j : ℕ) → j < b → g j ≡ state.Clear)
    → g b ≡ state.Hit k → status_from 0 (map g (below n)) ≡ status_is.Settled (Some (64 * b + k))
status-hit g n b k l clear e =
    status-past g 0 b (suc (n - b - 1)) n b (omega arith) (omega arith) (λ j _ o. clear j o)
    ∙ ap (λ x. status_from b (x ∷ map g (from_up (b + 1) (n - b - 1)))) e

pub status-open : (g : ℕ → PieceState) (n b : ℕ) → b < n → ((j : ℕ) → j < b → g j ≡ state.Clear)
    → g b ≡ state.Open → status_from 0 (map g (below n)) ≡ status_is.Waiting b
status-open g n b l clear e =
    status-past g 0 b (suc (n - b - 1)) n b (omega arith) (omega arith) (λ j _ o. clear j o)
    ∙ ap (λ x. status_from b (x ∷ map g (from_up (b + 1) (n - b - 1)))) e

pub status-none : (g : ℕ → PieceState) (n : ℕ) → ((j : ℕ) → j < n → g j ≡ state.Clear)
    → status_from 0 (map g (below n)) ≡ status_is.Settled None
status-none g n clear = status-past g 0 n 0 n n (omega arith) (omega arith) (λ j _ o. clear j o)

-- the state at the place of a class and a block
pub found-entry : (s : Shape) (states : List PieceState) (h : History) (class block : ℕ)
    (d : PieceState) → states ≡ states_of s h → class < s.classes → block < block_count s
    → slice_index_or states (class + s.classes * block) d ≡ entry (piece_at s class block) h
found-entry s states h class block d e l m = ap (λ x. slice_index_or x (piece_at s class block) d) e
    ∙ get_or-map-below (λ p. entry p h) (piece_count s) (piece_at s class block) d
    (piece_at-below s class block l m)

-- the state that a list of states shows of a class and a block
abbrev pub shown : Shape → List PieceState → ℕ → ℕ → PieceState
shown s states class block = slice_index_or states (class + s.classes * block) state.Open

shown-entry : (s : Shape) (states : List PieceState) (h : History) (class block : ℕ)
    → states ≡ states_of s h → class < s.classes → block < block_count s
    → shown s states class block ≡ entry (piece_at s class block) h
shown-entry s states h class block e l m = found-entry s states h class block state.Open e l m

-- the status of the class in a history with these states
pub shown-status : (s : Shape) (states : List PieceState) (h : History) (class : ℕ) (x : Status)
    → class < s.classes → states ≡ states_of s h
    → status_from 0 (map (shown s states class) (below (block_count s))) ≡ x → x ≡ status s h class
shown-status s states h class x l e is = sym is
    ∙ ap (status_from 0) (map-below_same (shown s states class) (λ block. entry
    (piece_at s class block) h) (block_count s) (λ k m. shown-entry s states h class k e l m))

-- the test of a hit that is shown is below 64, and there are few blocks
pub shown-hit : (s : Shape) (states : List PieceState) (class block k : ℕ) → AreStates s states
    → class < s.classes → block < block_count s → shown s states class block ≡ state.Hit k → k < 64
shown-hit s states class block k are l m e =
    let a = legal_hit s (piece_at s class block) k are.0 are.1
    (sym (shown-entry s states are.0 class block are.2 l m) ∙ e) in
    omega arith

-- a skipped piece never comes after only clear ones
pub shown-skipped : (s : Shape) (states : List PieceState) (class block : ℕ)
    → AreStates s states → class < s.classes → block < block_count s → ((k : ℕ) → k < block
    → shown s states class k ≡ state.Clear) → shown s states class block ≡ state.Skipped → ⊥
shown-skipped s states class block are l m clear e =
    let h = are.0 in
    let r = never_first s h are.1 class block l m
    (sym (shown-entry s states h class block are.2 l m) ∙ e) in
    r.2 (sym (shown-entry s states h class r.0 are.2 l (let a = r.1 in omega arith))
    ∙ clear r.0 r.1)

pub shown-within : (s : Shape) (states : List PieceState) (class block : ℕ) → AreStates s states
    → class < s.classes → block < block_count s → class + s.classes * block < length states
shown-within s states class block are l m =
    let a = piece_at-below s class block l m in
    let b : length states ≡ piece_count s = ap (λ (xs : List PieceState). length xs) are.2
    ∙ length-map-below (λ p. entry p are.0) (piece_count s) in
    omega arith
