use Rattle.std.proofs.Common.{◌≡◌, ◌∙◌, ◌∷◌, ◌++◌, [], ap, sym, inl, inr, refl, arith, take}
use Rattle.std.{proofs.Common.{option_map, append-nil, append_assoc}, specs.Option.option_to_list}
use Rattle.std.proofs.lemmas.Bool.{not-true, not-false, both_ways}
use Rattle.list_lemmas.proofs.{Members.among, Distinct.{distinct_append, distinct_from_pairs}}
use Rattle.bench_net.specs.reader.{Parsed.names_of, Entries.{names_in, defined_of}}
use Rattle.bench_net.proofs.NumberedLines.{redefined, names_more}
use Rattle.bench_net.proofs.Names.{in_contained, among_in, pairs_distinct}
use Rattle.bench_net.proofs.number.add_names.Goals as goal

pub loop-line-init : goal.loop-line-init
loop-line-init c = (
  sym (append-nil (names_of c.args.names.now.keys)),
  distinct_from_pairs (names_of c.args.names.now.keys) c.requires,
)

pub returns-then-not-branch-clause-refused : goal.returns-then-not-branch-clause-refused
returns-then-not-branch-clause-refused c =
    let line = c.line-item.result in
    let n = c.in-Some.name.now in
    let ns = names_of c.loop-line.names.keys in
    let one : defined_of line ≡ n ∷ [] =
    c.defined.ensures ∙ ap (λ o. option_to_list (option_map (λ m. m.now) o)) c.in-Some.is in
    let before = not-false _ (sym c.in_ok-add_name.ensures.added ∙ c.if-not-branch.true) in
    λ none. λ text of.
    let same = c.loop-line.invariant.0
    ∙ ap (λ l. l ++ names_in (take c.loop-line.line-index c.args.stated.now)) none in
    inr (redefined text c.args.stated.now of c.loop-line.line-index line (omega arith)
    c.line-item.is n (rw one (inl refl)) (rw same at (among ns n (in_contained ns n before)))
    (rw same at c.loop-line.invariant.1))

pub loop-line-preserved : goal.loop-line-preserved
loop-line-preserved c =
    let line = c.line-item.result in
    let n = c.in-Some.name.now in
    let ns = names_of c.loop-line.names.keys in
    let one : defined_of line ≡ n ∷ [] =
    c.defined.ensures ∙ ap (λ o. option_to_list (option_map (λ m. m.now) o)) c.in-Some.is in
    let more = names_more _ c.loop-line.line-index line (omega arith) c.line-item.is defined_of in
    let new = not-true _ (sym c.in_ok-add_name.ensures.added ∙ c.if-not-branch.false) in (
      c.in_ok-add_name.ensures.names
          ∙ rw (c.if-not-branch.false, c.loop-line.invariant.0, more, one, append_assoc) refl,
      rw (c.in_ok-add_name.ensures.names, c.if-not-branch.false)
          (distinct_append ns (n ∷ []) c.loop-line.invariant.1 (λ a. a, tt) (λ m a b. elim b [
            | inl e ↦ both_ways _ new (among_in ns n (rw (← e) at a))
            | inr a ↦ absurd a
          ])),
    )

pub returns-clause-once : goal.returns-clause-once
returns-clause-once c = pairs_distinct _ c.loop-line.invariant.1
