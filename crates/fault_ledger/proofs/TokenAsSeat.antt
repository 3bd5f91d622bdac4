-- A token of a ledger as a table seat, and the seat as a token again.
use Rattle.std.proofs.Common.{◌≡◌, ℕ, Bool, List, [], ◌∷◌, sym, ap, ◌∙◌}
use Rattle.atomic_table.specs.{Seated.TableId, Table.Me, declared.badge.Badge.Badge}
use Rattle.fault_ledger.specs.{declared.Shape.Shape, declared.words.View.View, History.History}
use Rattle.fault_ledger.{specs.Seats.{Place, Sitter, sitter_at}, proofs.TokenViews.token_me}
use Rattle.fault_ledger.specs.Words.{one, place_of, sitter, StandsAlone}

-- the table t and the view and slots of the table seat that a token became, which is of the ledger
-- with this table and shape
pub record Taken (shape : Shape) (table : TableId) (a : Sitter) (t : TableId)
    (me : Me ℕ View) : Type 0 where
  pub table_is : t ≡ table
  pub me_is : me ≡ (one shape a.worker a.exhausted a.seen, [])
  pub place_is : a.place ≡ place_of table shape

-- a token of the sitter `a` with this table and these views is moved out and made a table seat
pub taken : {shape : Shape} {table : TableId} {place : Place} {a : Sitter} {old : TableId}
    {views : List View} {t : TableId} (me : Me ℕ View)
    → sitter old views ≡ a → StandsAlone views (sitter old views) → a.place ≡ place
    → place_of table shape ≡ place
    → t ≡ old → (views ≡ me.0 ∷ []) × (me.1 ≡ []) → Taken shape table a t me
taken {shape} {table} {place} {a} {old} {views} me is alone at here same seat =
    let there : a.place ≡ place_of table shape = at ∙ sym here in
    let m = token_me views (sitter old views) me alone seat.0 seat.1 in
    record {
      table_is = same ∙ ap (λ (x : Sitter). x.place.table) is ∙ ap (λ (p : Place). p.table) there;
      me_is = m ∙ ap (λ (x : Sitter). (one x.place.shape x.worker x.exhausted x.seen, [])) is
          ∙ ap (λ (p : Place). (one p.shape a.worker a.exhausted a.seen, [])) there;
      place_is = there;
    }

-- the token of the table seat after a step, which stands for the same worker
pub put_back : {shape : Shape} {table : TableId} {a : Sitter} {t : TableId} {me : Me ℕ View}
    → Taken shape table a t me
    → (exhausted : Bool) (h : History) {now_t : TableId} (now : Me ℕ View) (b : Badge View)
    → now_t ≡ t → now.0 ≡ one shape a.worker exhausted h → b.table_id ≡ now_t → b.views ≡ now.0 ∷ []
    → sitter b.table_id b.views ≡ sitter_at a exhausted h
put_back {shape} {table} {a} taken exhausted h now b same is table_of views_of =
    let x : b.table_id ≡ table = table_of ∙ same ∙ taken.table_is in
    let y : b.views ≡ one shape a.worker exhausted h ∷ [] =
    views_of ∙ ap (λ (v : View). v ∷ []) is in
    let s : sitter b.table_id b.views ≡ sitter table (one shape a.worker exhausted h ∷ []) =
    (λ k. sitter (x k) (y k)) in
    s ∙ ap (λ (p : Place). record { place = p; worker = a.worker; exhausted = exhausted; seen = h })
    (sym taken.place_is)
