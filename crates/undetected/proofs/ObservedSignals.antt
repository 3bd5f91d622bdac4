-- The signals that data pins and OUTPUT lines read, out of what the calls of a circuit give.
use Rattle.std.{proofs.Common.{◌≡◌, ◌∙◌, ℕ, List, ap, refl, sym}, specs.Prelude.unwrap_or}
use Rattle.std.proofs.lemmas.Option.{get_or_from_slice_get, slice_get-map}
use Rattle.std.specs.Prelude.{None, Option, Some, map, option_map, slice_get, slice_index_or}
use Rattle.bench_net.specs.{declared.ScanCell.ScanCell, Statement.{Name, Statement}}
use Rattle.bench_net.specs.Scan.{cells, outputs, signal}
use Rattle.fault_model.specs.declared.Line.TheVariants as line
use Rattle.fault_model.specs.Detection.{name_on}

-- a value that was mapped comes from one
mapped_at : {A B : Type 0} (f : A → B) (o : Option A) (b : B) → option_map f o ≡ Some b
    → (a : A) × (o ≡ Some a) × (f a ≡ b)
mapped_at f None b e = let bad : None ≡ Some b = e in cc
mapped_at f (Some a) b e = (a, refl, ap (λ o. unwrap_or o b) e)

-- a data pin reads the signal of its cell's data
pub data_signal : (c : List Statement) (scan : List ScanCell) (cell : ℕ) (n : Name)
    (other : ScanCell) → map {B = ℕ × ℕ} (λ x. (x.q, x.d)) scan
    ≡ map (λ x. (signal c x.0, signal c x.1)) (cells c)
    → name_on c (line.Data cell) ≡ Some n → (slice_index_or scan cell other).d ≡ signal c n
data_signal c scan cell n other all named =
    let own = mapped_at (λ (x : Name × Name). x.1) (slice_get (cells c) cell) n named in
    let numbers : Name × Name → ℕ × ℕ = λ x. (signal c x.0, signal c x.1) in
    let both : ScanCell → ℕ × ℕ = λ x. (x.q, x.d) in
    let there : slice_get (map both scan) cell ≡ Some (numbers own.0) =
    ap (λ l. slice_get l cell) all
    ∙ (slice_get-map numbers (cells c) cell ∙ ap (option_map numbers) own.1) in
    let found : option_map both (slice_get scan cell) ≡ Some (numbers own.0) =
    sym (slice_get-map both scan cell) ∙ there in
    let at = mapped_at both (slice_get scan cell) (numbers own.0) found in
    ap (λ (x : ScanCell). x.d) (get_or_from_slice_get scan cell at.0 other at.1)
    ∙ (ap (λ (p : ℕ × ℕ). p.1) at.2 ∙ ap (signal c) own.2)

-- and an OUTPUT line the signal of its name
pub output_signal : (c : List Statement) (outs : List ℕ) (output other : ℕ) (n : Name)
    → outs ≡ map (signal c) (outputs c) → name_on c (line.Out output) ≡ Some n
    → slice_index_or outs output other ≡ signal c n
output_signal c outs output other n all named = get_or_from_slice_get outs output (signal c n) other
    (ap (λ l. slice_get l output) all
    ∙ (slice_get-map (signal c) (outputs c) output ∙ ap (option_map (signal c)) named))
