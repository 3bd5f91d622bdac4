use Rattle.std.proofs.Common.{◌≡◌, ◌∙◌, ◌++◌, ◌<◌, ℕ, List, [], ◌∷◌, sym, ap, take, take_all, ◌+◌}
use Rattle.std.{proofs.Common.{append_assoc, arith, length}, specs.Prelude.{codes, slice_get, Some}}
use Rattle.bench_net.specs.{Scan.sources, Statement.Statement}
use Rattle.test_columns.{specs.Columns.{columns, columns_line}, proofs.ReadBack.spaced_more}
use Rattle.test_columns.proofs.ReadBack.{columns_read, found_name, rows_read, source_names, spaced}
use Rattle.test_columns.proofs.written.columns_line.Goals.{in_default}
use Rattle.test_columns.proofs.written.columns_line.Goals.{
  in-Some+in_ok-push+in_ok-extend_from_slice-2,
}
use Rattle.text_lines.specs.Rows.{rows}
use Rattle.test_columns.proofs.written.columns_line.Goals as goal

pub loop-place-preserved : goal.loop-place-preserved
loop-place-preserved c = elim c.match-source_at.branch [
  | in-Some+in_ok-push+in_ok-extend_from_slice-2 w ↦
      let names = sources c.args.circuit.now in
      let place = c.loop-place.place in
      let front = codes "# columns:" ++ spaced (take place names) in
      let name = w.in-Some.name.now in
      let at : Some name ≡ slice_get names place = w.in-Some.ensures in
      let space = w.in_ok-push.ensures.items in
      let added = w.in_ok-extend_from_slice-2.ensures.items in
      ap (λ v. v.items) w.line-is ∙ (added
      ∙ (ap (λ l. l ++ name) (space ∙ ap (λ l. l ++ 32 ∷ []) c.loop-place.invariant)
      ∙ (append_assoc front (32 ∷ []) name
      ∙ ap (λ l. codes "# columns:" ++ l) (sym (spaced_more names place name (sym at))))))
  | in_default w ↦ absurd (found_name (sources c.args.circuit.now) c.loop-place.place
      c.source_at.result (omega (arith, c.loop-place-test.true, c.sources-place-end.ensures.count))
      c.source_at.ensures w.in_default.not-Some)
]

-- the whole line
line_is : (c : List Statement) (place : ℕ) (front line : List ℕ) → length (sources c) < place + 1
    → front ≡ codes "# columns:" ++ spaced (take place (sources c)) → line ≡ front ++ 10 ∷ []
    → line ≡ columns_line (sources c)
line_is c place front line all is end =
    end ∙ (ap (λ l. l ++ 10 ∷ []) (is ∙ ap (λ names. codes "# columns:" ++ spaced names)
    (take_all place (sources c) (omega (arith, all))))
    ∙ append_assoc (codes "# columns:") (spaced (sources c)) (10 ∷ []))

pub returns-clause-line : goal.returns-clause-line
returns-clause-line c =
    line_is c.args.circuit.now c.loop-place.place c.loop-place.line.items c.push-2.new.self.items
    (omega (arith, c.loop-place-test.false, c.sources-place-end.ensures.count))
    c.loop-place.invariant c.in_ok-push-2.ensures.items

pub returns-clause-named : goal.returns-clause-named
returns-clause-named c = λ bench rest accepted.
    ap (λ line. columns (line ++ rest)) (returns-clause-line c)
    ∙ columns_read (sources c.args.circuit.now) rest
    (source_names bench c.args.circuit.now accepted)

pub returns-clause-rows : goal.returns-clause-rows
returns-clause-rows c = λ bench rest accepted.
    ap (λ line. rows (line ++ rest)) (returns-clause-line c)
    ∙ rows_read (sources c.args.circuit.now) rest (source_names bench c.args.circuit.now accepted)
