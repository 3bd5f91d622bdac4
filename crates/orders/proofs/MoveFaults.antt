-- The errors of the rows of an order.
use Rattle.std.proofs.Common.{◌≡◌, ℕ, ◌<◌, List, [], ◌∷◌, length, get_or, Option, Some, None}
use Rattle.std.proofs.lemmas.Bool.{cond_both, not-false, ltb-true}
use Rattle.orders.specs.declared.OrderFault.{OrderFault}
use Rattle.orders.specs.Order.{max_moves, number, order_fault, order_faults}
use Rattle.orders.specs.declared.OrderFault.TheVariants as fault
use Rattle.text_lines.{specs.Rows.{Row, rows}, proofs.Public.{first_fault, no_fault_at}}

-- the error of a row, by cases
order_fault_by : (workers : ℕ) (at : ℕ × Row) (P : Option OrderFault → Type 0)
    → P (Some fault.TooMany) → P (Some (fault.BadNumber at.1.line))
    → P (Some (fault.NoSuchWorker at.1.line))
    → (at.0 < max_moves → number at.1.bytes < workers → P None) → P (order_fault workers at)
order_fault_by workers at P many bad out none = cond_both _ _ _ P (λ _. many) (λ room.
    cond_both _ _ _ P (λ _. bad) (λ digits. cond_both _ _ _ P (λ _. out) (λ below.
    none (ltb-true _ _ (not-false _ room)) (ltb-true _ _ (not-false _ below)))))

not_memory : (workers : ℕ) (at : ℕ × Row) → order_fault workers at ≡ Some fault.Memory → ⊥
not_memory workers at = order_fault_by workers at (λ o. o ≡ Some fault.Memory → ⊥)
    (λ e. cc) (λ e. cc) (λ e. cc) (λ room below e. cc)

order_fault-none : (workers : ℕ) (at : ℕ × Row) → order_fault workers at ≡ None
    → (at.0 < max_moves) × (number at.1.bytes < workers)
order_fault-none workers at =
    order_fault_by workers at (λ o. o ≡ None → (at.0 < max_moves) × (number at.1.bytes < workers))
    (λ e. absurd (cc)) (λ e. absurd (cc)) (λ e. absurd (cc)) (λ room below e. (room, below))

-- missing memory is no error of a file
pub order_faults-not_memory : (text : List ℕ) (workers : ℕ) (more : List OrderFault)
    → order_faults text workers ≡ fault.Memory ∷ more → ⊥
order_faults-not_memory text workers more e =
    let found = first_fault (order_fault workers) text fault.Memory more e in
    not_memory workers found.0 found.1

-- if no row has an error, each is within the limit and names a worker
pub rows-no_order_fault : (text : List ℕ) (workers : ℕ) → order_faults text workers ≡ []
    → (i : ℕ) (d : Row) → i < length (rows text)
    → (i < max_moves) × (number (get_or (rows text) i d).bytes < workers)
rows-no_order_fault text workers none i d within =
    order_fault-none workers (i, get_or (rows text) i d)
    (no_fault_at (order_fault workers) text none i d within)
