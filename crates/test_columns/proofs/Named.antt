-- The columns of a test file, and the first place at which two lists of names differ.
use Rattle.std.proofs.Common.{◌≡◌, ◌∙◌, ◌<◌, ◌≤◌, ◌-◌, ◌⊎◌, ℕ, suc, List, [], ◌∷◌, Result, Ok, Err}
use Rattle.std.{proofs.Common.{ap, arith, inl, inr, length, refl, sym}, specs.Prelude.unwrap_or}
use Rattle.std.specs.Prelude.{◌≢◌, Some, None, IfErr, OnOk, option_and_then, option_map, slice_get}
use Rattle.bench_net.specs.{declared.BenchFault.BenchFault, Refusal.{IsAccepted, IsRefused}}
use Rattle.bench_net.specs.{Scan.sources, Statement.{Name, Statement}}
use Rattle.bench_net.specs.declared.BenchFault.TheVariants as bench_fault
use Rattle.test_columns.specs.declared.ColumnFault.{ColumnFault}
use Rattle.test_columns.specs.Columns.{AreInOrder, Columns, IsColumnFault, IsNamesFault, columns}
use Rattle.test_columns.specs.Columns.{columns_in, first_written, names_in}
use Rattle.test_columns.specs.declared.ColumnFault.TheVariants as fault

-- names that are the same at each place
pub same_names : (xs ys : List Name) (n : ℕ) → length xs ≤ n → length ys ≤ n
    → ((k : ℕ) → k < n → slice_get xs k ≡ slice_get ys k) → xs ≡ ys
same_names [] [] n long other same = refl
same_names [] (y ∷ ys) n long other same =
    let bad : None ≡ Some y = same 0 (omega (arith, other)) in cc
same_names (x ∷ xs) [] n long other same =
    let bad : Some x ≡ None = same 0 (omega (arith, long)) in cc
same_names (x ∷ xs) (y ∷ ys) n long other same =
    let first : Some x ≡ Some y = same 0 (omega (arith, long)) in
    let head : x ≡ y = ap (λ o. unwrap_or o x) first in
    let rest : xs ≡ ys = same_names xs ys (n - 1) (omega (arith, long)) (omega (arith, other))
    (λ k lt. same (suc k) (omega (arith, lt))) in
    ap (λ z. z ∷ xs) head ∙ ap (λ l. y ∷ l) rest

-- the columns that the first line names
pub columns_are : (text bytes : List ℕ) (number : ℕ) (names : List Name)
    → Some (number, bytes) ≡ first_written text → Some names ≡ names_in bytes
    → columns text ≡ Some (record { line = number; names = names })
columns_are text bytes number names line named = ap (option_and_then columns_in) (sym line)
    ∙ ap (option_map (λ names. record { line = number; names = names })) (sym named)

-- a bench file with an error has no circuit
pub passed_refused : (bench text : List ℕ) (f : BenchFault)
    → (f ≡ bench_fault.Memory) ⊎ IsRefused bench f
    → ((d : List Statement) (g : BenchFault) → IsAccepted bench d → ¬ IsRefused bench g)
    → f ≢ bench_fault.Memory → AreInOrder bench text
passed_refused bench text f (inl out) apart other = absurd (other out)
passed_refused bench text f (inr refused) apart other =
    λ c given accepted is. absurd (apart c f accepted refused)

pub passed_names : (bench text : List ℕ) (c : List Statement) (given : Columns)
    → ((d : List Statement) → IsAccepted bench d → d ≡ c) → columns text ≡ Some given
    → given.names ≡ sources c → AreInOrder bench text
passed_names bench text c given one is same d other accepted at =
    let both : Some other ≡ Some given = sym at ∙ is in
    let own : other ≡ given = ap (λ o. unwrap_or o other) both in
    ap (λ g. g.names) own ∙ (same ∙ ap sources (sym (one d accepted)))

pub on_ok : {P Q : Type 0} {T E : Type 0} (r : Result T E) → OnOk r P → (P → Q) → OnOk r Q
on_ok (Ok x) p f = f p
on_ok (Err e) p f = tt

pub names_fault : (bench text : List ℕ) (c : List Statement) (given : Columns) (f : ColumnFault)
    → IsAccepted bench c → columns text ≡ Some given → IsNamesFault c given f
    → IsColumnFault bench text f
names_fault bench text c given (fault.Mismatched m) accepted is at = (c, given, accepted, is, at)
names_fault bench text c given fault.Memory accepted is at = tt

pub if_err : {T E : Type 0} {P Q : E → Type 0} (r : Result T E) → IfErr r P
    → ((e : E) → P e → Q e) → IfErr r Q
if_err (Ok x) p f = tt
if_err (Err e) p f = f e p
