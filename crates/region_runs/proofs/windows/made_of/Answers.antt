use Rattle.std.proofs.Common.{◌≡◌, ◌-◌, ◌∙◌, ap, min, refl, rules, subst, ◌*◌, ⊎_elim}
use Rattle.patterns.specs.Making.{IsMadeOf, IsWordsRefusal}
use Rattle.patterns.specs.declared.WordsFault.TheVariants as words_fault
use Rattle.region_runs.proofs.{FittingWords.never_refused, WindowWords.{begins_before, window_cut}}
use Rattle.region_runs.proofs.windows.made_of.Goals as goal

pub returns-in-Ok-clause-tests : goal.returns-in-Ok-clause-tests
returns-in-Ok-clause-tests c =
    let window = c.args.window in
    let tests = c.args.tests.now in
    let on = c.requires.window.1 in
    let low = begins_before _ _ window on in
    window_cut tests c.in-Ok.some window.from window.end (c.min.result - 64 * window.from)
    c.min.result c.args.words.now c.requires.list c.in-Ok.ensures.list c.requires.words
    (subst (λ w. IsMadeOf w (c.min.result - 64 * window.from) c.args.words.now c.in-Ok.some)
    c.width.ensures.width c.in-Ok.ensures.tests)
    (c.min.ensures ∙ ap (λ n. min n (64 * window.end)) c.count.ensures) refl low.0 on.within

pub unreachable-requires : goal.unreachable-requires
unreachable-requires c =
    let window = c.args.window in
    let tests = c.args.tests.now in
    let on = c.requires.window.1 in
    let low = begins_before _ _ window on in
    ⊎_elim (λ (e : c.in-Err.field-0 ≡ words_fault.Memory). search rules)
    (λ refused. never_refused tests window.from window.end (c.min.result - 64 * window.from)
    c.min.result c.args.words.now c.requires.list c.requires.words (λ i. (c.type_inv.words i).fits)
    (c.min.ensures ∙ ap (λ n. min n (64 * window.end)) c.count.ensures) refl low.0 on.within
    c.in-Err.field-0 (subst (λ w. IsWordsRefusal w (c.min.result - 64 * window.from)
    c.args.words.now c.in-Err.field-0) c.width.ensures.width refused)) c.in-Err.ensures.refused
