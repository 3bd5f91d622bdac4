-- `open` moves the pointer and the allocator. If it holds something, they own its box.
use Rattle.std.{proofs.Common.{◌≡◌, List, [], ◌∷◌, ◌++◌, refl}, specs.Prelude.{Option, Some}}
use Rattle.std.proofs.raw_atomic.Walks.{proved_at}
use mir.Val.{Val}
use base.{Fml.{ftrue, fsep}, Logic.id⊢}
use contract.{Monad.fact, Running.tables}
use prog.Wp.{WpFn}
use types.Kit.{‵, raw, ◌⊛◌, prop, ◌$◌, ◌∵◌, !, qed, move, drop, use1, join, split, fsplit, fjoin}
use types.{Kit.{rewrite, regoal, suffices, done}, Part.{whole, sub, agg}}
use types.Run.{of_opd, stop, fld, no_more, and_then, returns, enter}
use types.ByLocal.{alloc_all, pass_all, free_all, look_at, get, get_in, sets}
use denote.{Exit.yes, Struct.Owning.row, Steps.{heard, nothing}}
use denote.Triple.Walked.{says, Stays, stay_dropped, walk_of, ends_at, Goes-dropped}
use Rattle.faultsim_c.{specs.Held.{Value, held_by}, proofs.held.Held.«open».Statement.statement}
use Rattle.faultsim_c.proofs.Boxed.{heap_of_c, held_handle, taken_type}
use Rattle.faultsim_c.proofs.Pointed.{word, word_typed, pointer_typed, fields_out, fields_in}
use Rattle.faultsim_c.specs.contracts.held.Held as held
use Rattle.faultsim_c.specs.contracts.held.Held.«open» as f
use Rattle.faultsim_c.proofs.held.Held.«open».Code as code

abbrev stayed : Stays (f.ended).signature.params (f.ended).kept
stayed = (stay_dropped held_handle yes, tt)

pub open_spec : {M : Type 1} → statement M
open_spec 𝓤 𝓛 𝓜 𝓡 wired =
    let c = f.clauses 𝓛 𝓜.mem 𝓡.returns in let W = walk_of 𝓛 f.ended stayed c in
    let 𝓣 = tables 𝓤 𝓛.H 𝓜 𝓡 𝓡.env in
    proved_at 𝓛 f.ended stayed c 𝓜 𝓡 (Goes-dropped 𝓛 0 held_handle yes (λ κs x w. refl), tt)
    f.Key.name code.function (code.unfolded 𝓤 𝓛.H 𝓜 𝓡 wired) (λ y are.
    let h = y.0.3.0 in let p = h.at in let a = h.alloc in let vs = y.0.4.0 in
    let Z = heap_of_c in let To = row taken_type in
    let IsHeld : Type 0 = (v : Value) × (h.holding ≡ Some v) in
    qed 𝓛 ((‵ ftrue ⊛ ‵ (fsep ((held.the_row).own_val h vs) ftrue)) ∷ raw (fact 𝓤 IsHeld) ∷ []) ∵
    move ! (1 ∷ []) $ heard ! IsHeld (λ held_is.
    let made : To.Denot = record { ptr = p; alloc = a; value = held_is.0 } in
    split ! $ drop ! $ fsplit ! $ fsplit ! $
    rewrite ! 1 (λ (s : Option Value). ‵ (held_by a p s)) held_is.1 refl $
    fields_out Z ! p a vs (λ hv one fits.
    regoal ! (λ (us : List Val). prop (WpFn 𝓤 𝓛.H 𝓣.C 𝓣.Λ code.function (us ++ [])
    (W.post y))) one refl $
    enter ! _ _ _ _ _ $ alloc_all ! (λ l. pass_all ! refl (word_typed Z p hv fits, tt) $
    sets ! (of_opd ! (get_in ! (fld ! refl (stop !)) (sub ! 0 refl (whole !)))) refl
    (pointer_typed p) $
    sets ! (of_opd ! (get_in ! (fld ! refl (stop !)) (sub ! 1 refl (whole !)))) refl fits $
    sets ! (of_opd ! (get ! refl)) refl (pointer_typed p) $
    sets ! (agg ! (and_then ! (get ! refl) (and_then ! (get ! refl) (no_more !)))) refl
    (word_typed Z p hv fits) $ returns ! (look_at ! 0 refl) $ free_all ! refl $
    -- [the allocator; the box's memory; what was owned beside]
    fields_in Z ! p a $ fjoin ! $ use1 𝓛 (‵ (To.own_val made (word p hv ∷ []))) (id⊢ 𝓤 _) $
    move ! (1 ∷ []) $ drop ! $
    suffices ! _ (ends_at 𝓛 f.ended stayed c y (word p hv) made (tt, tt) (tt, tt)) $
    says ! held_is.1 $ nothing ! $ nothing ! $ fjoin ! $ join ! $ nothing ! $ join ! $ done !))))
