-- Each order file is accepted or has an error, with one result.
use Rattle.std.proofs.Common.{◌≡◌, ℕ, ◌<◌, ◌≤◌, ◌⊎◌, All, List, [], ◌∷◌, map, length, sym, refl, ap}
use Rattle.std.proofs.{Common.{◌∙◌, subst, inl, inr, ⊎_elim, arith}, lemmas.Bool.cases_lt}
use Rattle.std.proofs.lemmas.List.{length-map, Elements.All-map}
use Rattle.orders.specs.declared.OrderFault.{OrderFault}
use Rattle.orders.specs.Order.{max_moves, number, order_faults, HasMoves, IsOrderRefusal}
use Rattle.orders.proofs.MoveFaults.{order_faults-not_memory, rows-no_order_fault}
use Rattle.orders.specs.declared.OrderFault.TheVariants as order
use Rattle.text_lines.specs.Rows.{rows}

order_faults-refusal : (text : List ℕ) (workers : ℕ) (f : OrderFault)
    → IsOrderRefusal text workers f
    → (more : List OrderFault) × (order_faults text workers ≡ f ∷ more)
order_faults-refusal text workers order.Memory is = absurd is
order_faults-refusal text workers (order.BadNumber line) is = is
order_faults-refusal text workers (order.NoSuchWorker line) is = is
order_faults-refusal text workers order.TooMany is = is

refusal-order_faults : (text : List ℕ) (workers : ℕ) (f : OrderFault) (more : List OrderFault)
    → order_faults text workers ≡ f ∷ more → IsOrderRefusal text workers f
refusal-order_faults text workers order.Memory more is =
    order_faults-not_memory text workers more is
refusal-order_faults text workers (order.BadNumber line) more is = (more, is)
refusal-order_faults text workers (order.NoSuchWorker line) more is = (more, is)
refusal-order_faults text workers order.TooMany more is = (more, is)

moves_or_refusal : (text : List ℕ) (workers : ℕ) (faults : List OrderFault)
    → order_faults text workers ≡ faults → ((moves : List ℕ) × HasMoves text workers moves)
    ⊎ ((f : OrderFault) × IsOrderRefusal text workers f)
moves_or_refusal text workers [] is = inl (map (λ row. number row.bytes) (rows text), (is, refl))
moves_or_refusal text workers (f ∷ more) is = inr (f, refusal-order_faults text workers f more is)

-- a file has its moves or an error
pub moves_cases : (text : List ℕ) (workers : ℕ) → ((moves : List ℕ) × HasMoves text workers moves)
    ⊎ ((f : OrderFault) × IsOrderRefusal text workers f)
moves_cases text workers = moves_or_refusal text workers (order_faults text workers) refl

pub moves_same : (text : List ℕ) (workers : ℕ) (m n : List ℕ) → HasMoves text workers m
    → HasMoves text workers n → m ≡ n
moves_same text workers m n has_m has_n = has_m.1 ∙ sym has_n.1

pub moves_not_refused : (text : List ℕ) (workers : ℕ) (moves : List ℕ) (f : OrderFault)
    → HasMoves text workers moves → IsOrderRefusal text workers f → ⊥
moves_not_refused text workers moves f has refused =
    let faults = order_faults-refusal text workers f refused in
    let clash : f ∷ faults.0 ≡ [] = sym faults.1 ∙ has.0 in cc

pub order_refusal_same : (text : List ℕ) (workers : ℕ) (f g : OrderFault)
    → IsOrderRefusal text workers f → IsOrderRefusal text workers g → f ≡ g
order_refusal_same text workers f g is_f is_g =
    let first = order_faults-refusal text workers f is_f in
    let second = order_faults-refusal text workers g is_g in
    let same : f ∷ first.0 ≡ g ∷ second.0 = sym first.1 ∙ second.1 in cc

rows-order_limit : (text : List ℕ) (workers : ℕ) → order_faults text workers ≡ []
    → length (rows text) ≤ max_moves
rows-order_limit text workers none = ⊎_elim (λ (past : max_moves < length (rows text)). let last =
    rows-no_order_fault text workers none max_moves (record { line = 0; bytes = [] }) past in
    absurd (omega (arith, last.0))) (λ (within : length (rows text) ≤ max_moves). within)
    (cases_lt max_moves (length (rows text)))

-- the moves of a text name workers, and are within the limit
pub All-has_moves : (text : List ℕ) (workers : ℕ) (moves : List ℕ) → HasMoves text workers moves
    → All (λ worker. worker < workers) moves
All-has_moves text workers moves has = subst (All (λ worker. worker < workers)) (sym has.1)
    (All-map (λ worker. worker < workers) (λ row. number row.bytes) (rows text)
    (λ k d within. (rows-no_order_fault text workers has.0 k d within).1))

pub length-has_moves : (text : List ℕ) (workers : ℕ) (moves : List ℕ) → HasMoves text workers moves
    → length moves ≤ max_moves
length-has_moves text workers moves has = omega (
  arith,
  ap length has.1,
  length-map (rows text) (λ row. number row.bytes),
  rows-order_limit text workers has.0,
)
