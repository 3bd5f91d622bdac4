use Rattle.std.{proofs.lemmas.Result.err_from_is_err_and, specs.Prelude.{false, ◌==◌, vec_len}}
use Rattle.std.proofs.Common.{◌∙◌, sym, ◌≡◌, List, arith, ap, refl, [], length}
use Rattle.std.proofs.lemmas.Bool.{false≢true, eq-eqb}
use Rattle.bench_net.specs.{declared.read.Lines.Lines, Statement.Name}
use Rattle.bench_net.proofs.CircuitTables.{table_lines, count, circuit, inside, refused}
use Rattle.bench_net.proofs.circuit.circuit_of.Goals as goal

abbrev ns_of : Lines → List Name
ns_of read = read.names

some : (read : Lines) → false ≡ (vec_len read.lines == 0)
    → vec_len read.lines ≡ length read.lines.items → read.lines.items ≡ [] → ⊥
some read full len e = false≢true (full ∙ eq-eqb (vec_len read.lines) 0 (len ∙ ap length e))

pub tables_of-requires : goal.tables_of-requires
tables_of-requires c = rw (c.deref.ensures.value, c.deref-2.ensures.value) (record {
  lines = table_lines
      (ns_of c.args.lines) c.args.lines.lines.items c.args.lines.at.items c.requires;
  at = c.requires.line_count
      ∙ sym (count (ns_of c.args.lines) c.args.lines.lines.items c.args.lines.at.items c.requires);
})

pub invariant_of-result : goal.invariant_of-result
invariant_of-result c =
    inside (ns_of c.args.lines) c.args.lines.lines.items c.args.lines.at.items c.requires
    c.in_ok-tables.tables (rw c.deref.ensures.value at c.in_ok-tables.ensures.tables)
    (some c.args.lines c.if-is_empty.ensures (omega arith))

pub returns-clause-accepted : goal.returns-clause-accepted
returns-clause-accepted c = (
  refl,
  circuit (ns_of c.args.lines) c.args.lines.lines.items c.args.lines.at.items c.requires
      c.in_ok-tables.tables (rw c.deref.ensures.value at c.in_ok-tables.ensures.tables)
      (some c.args.lines c.if-is_empty.ensures (omega arith)),
)

pub returns-in_err-tables-clause-refused : goal.returns-in_err-tables-clause-refused
returns-in_err-tables-clause-refused c =
    let p = err_from_is_err_and c.from_residual.result c.from_residual.ensures.1 in
    rw (p.1, p.2) (refused (ns_of c.args.lines) c.args.lines.lines.items c.args.lines.at.items
    c.requires c.in_err-tables.field-0.0
    (rw (c.deref.ensures.value, c.deref-2.ensures.value) at c.in_err-tables.ensures.fault))
