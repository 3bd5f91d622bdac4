use Rattle.std.proofs.Common.{◌≡◌, ap, sym, ◌∙◌, arith, inl, inr, refl, length, subst}
use Rattle.std.proofs.lemmas.Result.{err_from_is_err_and}
use Rattle.part_files.specs.PartReading.{IsPart, head_in, texts_in}
use Rattle.part_files.proofs.JoinedParts.{joined_items, same_count, texts_count}
use Rattle.part_files.proofs.merge.Merge.add.Goals as goal

pub join-requires : goal.join-requires
join-requires c =
    let names = same_count _ _ c.in_ok-check_names.ensures.same in
    omega (
      arith,
      names,
      ap (λ l. length l) c.deref_mut.ensures.value,
      ap (λ l. length l) c.as_slice-3.ensures.value,
      ap (λ l. length l) c.as_slice.ensures.value,
      ap (λ l. length l) c.as_slice-2.ensures.value,
      c.in_ok-part.ensures.read.lines.same,
      texts_count c.in_ok-part.part.faults.items,
      c.args.self.same,
    )

pub returns-in_err-check_new-clause-refused : goal.returns-in_err-check_new-clause-refused
returns-in_err-check_new-clause-refused c =
    let p = err_from_is_err_and c.from_residual-in_err-check_new.result
    c.from_residual-in_err-check_new.ensures.1 in
    let at = rw (c.deref.ensures.value) at c.in_err-check_new.ensures.refused in
    rw (p.1, p.2, at.0) (
      head_in c.in_ok-part.part.header,
      texts_in c.in_ok-part.part.faults.items,
      c.in_ok-part.part.verdicts.items,
      c.in_ok-part.ensures.read,
      c.in_ok-check_run.ensures.run,
      at.1,
      refl,
    )

pub returns-in_err-check_names-clause-refused : goal.returns-in_err-check_names-clause-refused
returns-in_err-check_names-clause-refused c =
    let p = err_from_is_err_and c.from_residual-in_err-check_names.result
    c.from_residual-in_err-check_names.ensures.1 in
    let at = rw (
      c.as_slice.ensures.value,
      c.as_slice-2.ensures.value,
    ) at c.in_err-check_names.ensures.refused in
    rw (p.1, p.2, at.1) (
      head_in c.in_ok-part.part.header,
      texts_in c.in_ok-part.part.faults.items,
      c.in_ok-part.part.verdicts.items,
      c.in_ok-part.ensures.read,
      c.in_ok-check_run.ensures.run,
      rw (c.deref.ensures.value) at c.in_ok-check_new.ensures.fresh,
      at.0,
      refl,
      inl at.2,
    )

pub returns-in_err-join-clause-refused : goal.returns-in_err-join-clause-refused
returns-in_err-join-clause-refused c =
    let p = err_from_is_err_and c.from_residual-in_err-join.result
    c.from_residual-in_err-join.ensures.1 in
    let at = rw (
      c.deref_mut.ensures.value,
      c.as_slice-3.ensures.value,
    ) at c.in_err-join.ensures.refused in
    rw (p.1, p.2, at.1) (
      head_in c.in_ok-part.part.header,
      texts_in c.in_ok-part.part.faults.items,
      c.in_ok-part.part.verdicts.items,
      c.in_ok-part.ensures.read,
      c.in_ok-check_run.ensures.run,
      rw (c.deref.ensures.value) at c.in_ok-check_new.ensures.fresh,
      at.0,
      refl,
      inr at.2,
    )

pub returns : goal.returns
returns c =
    let names : texts_in c.in_ok-part.part.faults.items ≡ texts_in c.args.self.faults.items =
    ap texts_in (sym c.as_slice-2.ensures.value)
    ∙ (sym c.in_ok-check_names.ensures.same ∙ ap texts_in c.as_slice.ensures.value) in
    record {
      merged = record {
        head = head_in c.in_ok-part.part.header;
        verdicts = c.in_ok-part.part.verdicts.items;
        part = subst (λ l. IsPart c.args.text.now (head_in c.in_ok-part.part.header) l
            c.in_ok-part.part.verdicts.items) names c.in_ok-part.ensures.read;
        run = c.in_ok-check_run.ensures.run;
        fresh = rw (c.deref.ensures.value) at c.in_ok-check_new.ensures.fresh;
        head_is = refl;
        faults_are = refl;
        joined = joined_items _ _ _ _ _ _ _ c.in_ok-join.ensures.joined c.deref_mut.ensures.value
            c.as_slice-3.ensures.value (omega (
              arith,
              c.args.self.verdicts.ok.0,
              c.in_ok-join.ensures.joined.count,
              ap (λ l. length l) c.deref_mut.ensures.value,
            ));
        seen = c.in_ok-add_part.ensures;
      };
      refused = tt;
    }
