-- The meaning of a token's views for the table seat that it becomes.
use Rattle.std.proofs.Common.{◌≡◌, ℕ, List, [], ◌∷◌, sym, ◌∙◌}
use Rattle.atomic_table.specs.Table.{Me}
use Rattle.fault_ledger.specs.{declared.words.View.View, Seats.Sitter, Words.{one, StandsAlone}}

-- the table seat of a token that stands for one worker
pub token_me : (views : List View) (a : Sitter) (me : Me ℕ View) → StandsAlone views a
    → views ≡ me.0 ∷ [] → me.1 ≡ [] → me ≡ (one a.place.shape a.worker a.exhausted a.seen, [])
token_me views a me alone e f =
    let q : me.0 ≡ one a.place.shape a.worker a.exhausted a.seen =
    head_same me.0 (one a.place.shape a.worker a.exhausted a.seen) (sym e ∙ alone) in
    (λ k. (q k, f k))
  where
    head_same : (x y : View) → x ∷ [] ≡ y ∷ [] → x ≡ y
    head_same x y e = cc
