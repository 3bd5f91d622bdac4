use Rattle.std.proofs.Common.{◌≡◌, ◌<◌, ℕ, Option, Some, None, get_or, slice_get, sym, ap, ◌∙◌}
use Rattle.std.{proofs.Common.{subst, arith}, specs.Option.option_map}
use Rattle.std.proofs.lemmas.Option.{slice_get_read}
use Rattle.fault_ledger.specs.{History.{History, held_by}, Face.{Face, face, IsLedger}}
use Rattle.fault_ledger.{specs.Seats.class_and_block, proofs.PieceNumbers.some_class}
use Rattle.fault_ledger.proofs.CallReplies.{faced, found-held, found-piece, ledger-holding}
use Rattle.fault_ledger.proofs.sequential.Ledger.held.Goals as goal

-- the piece at the place of a worker
at : (f : Face) (w : ℕ) (x y : Option ℕ) → IsLedger f → w < f.shape.workers
    → x ≡ get_or f.holding w x → x ≡ y → slice_get f.holding w ≡ Some y
at f w x y i lt e is = slice_get_read f.holding f.shape.workers w x (sym (ledger-holding f i)) lt e
    ∙ ap Some is

says : (f g : Face) (w : ℕ) (y : Option ℕ) (h : History) → f ≡ g → slice_get f.holding w ≡ Some y
    → g ≡ face g.shape h → option_map {U = ℕ × ℕ} (class_and_block f.shape) y
    ≡ option_map {U = ℕ × ℕ} (class_and_block g.shape) (held_by w h)
says f g w y h same place e =
    let here : held_by w h ≡ y =
    found-held f h w y (subst (λ (x : Face). x ≡ face x.shape h) (sym same) e) place in
    ap (λ (x : Face). option_map {U = ℕ × ℕ} (class_and_block x.shape) y) same
    ∙ ap (option_map {U = ℕ × ℕ} (class_and_block g.shape)) (sym here)

pub index-requires : goal.index-requires
index-requires c =
    let s = c.self.inside in
    let f = faced s.shape s.claimed s.holding.items s.states.items in
    let lt =
    subst (λ (x : Face). c.args.worker < x.shape.workers) (sym c.self.view_is) c.requires in
    omega (arith, lt, ledger-holding f c.self.invariant.0, s.holding.ok.0)

pub nonzero_rem-result : goal.nonzero_rem-result
nonzero_rem-result c =
    let s = c.self.inside in
    let f = faced s.shape s.claimed s.holding.items s.states.items in
    let lt =
    subst (λ (x : Face). c.args.worker < x.shape.workers) (sym c.self.view_is) c.requires in
    some_class s.shape c.in-Some.piece (found-piece f c.args.worker
    c.in-Some.piece c.self.invariant.0 (at f c.args.worker c.index.result.now
    (Some c.in-Some.piece) c.self.invariant.0 lt c.index.ensures c.in-Some.is))

pub nonzero_div-result : goal.nonzero_div-result
nonzero_div-result c = nonzero_rem-result c

pub returns-in-Some-clause-held : goal.returns-in-Some-clause-held
returns-in-Some-clause-held c = λ h e.
    let s = c.self.inside in
    let f = faced s.shape s.claimed s.holding.items s.states.items in
    let lt =
    subst (λ (x : Face). c.args.worker < x.shape.workers) (sym c.self.view_is) c.requires in
    says f c.args.self.now c.args.worker (Some c.in-Some.piece) h c.self.view_is
    (at f c.args.worker c.index.result.now
    (Some c.in-Some.piece) c.self.invariant.0 lt c.index.ensures c.in-Some.is) e

pub returns-in-None-clause-held : goal.returns-in-None-clause-held
returns-in-None-clause-held c = λ h e.
    let s = c.self.inside in
    let f = faced s.shape s.claimed s.holding.items s.states.items in
    let lt =
    subst (λ (x : Face). c.args.worker < x.shape.workers) (sym c.self.view_is) c.requires in
    says f c.args.self.now c.args.worker None h c.self.view_is (at f c.args.worker
    c.index.result.now None c.self.invariant.0 lt c.index.ensures c.in-None.is) e
