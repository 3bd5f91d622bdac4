use Rattle.std.proofs.Common.{◌≡◌, ◌∙◌, ◌++◌, ◌∷◌, [], All, ap, refl, sym, subst}
use Rattle.std.proofs.lemmas.List.Elements.{All-replicate}
use Rattle.wide_words.{specs.WideOverlay.number_at, proofs.WideOverlays.none_overlaid}
use Rattle.wide_words.proofs.wide_overlay.WideOverlay.new.Goals as goal

pub returns-clause-clear : goal.returns-clause-clear
returns-clause-clear c = none_overlaid c.push_reserved.new.self.items c.in_ok-index.index.items
    (ap (λ ws. number_at ws 0) (c.push_reserved.ensures.items
    ∙ ap (λ ws. ws ++ c.none.result ∷ []) c.in_ok-words.ensures.items) ∙ c.none.ensures)
    (subst (λ xs. All (λ p. p ≡ 0) xs)
    (sym (c.in_ok-index.ensures.items_if_clones_equal (λ y same. same)))
    (All-replicate (λ p. p ≡ 0) c.args.signals 0 refl))
