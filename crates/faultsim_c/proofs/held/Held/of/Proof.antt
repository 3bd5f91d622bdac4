-- `of` moves the pointer and the allocator, and what they own goes with them.
use Rattle.std.{proofs.Common.{List, [], ◌∷◌, ◌++◌, refl}, specs.Prelude.Some}
use Rattle.std.proofs.raw_atomic.Walks.{proved_at}
use mir.Val.{Val}
use base.{Fml.{ftrue, fsep}, Logic.{emp, id⊢}}
use prog.Wp.{WpFn}
use types.Kit.{‵, raw, ◌⊛◌, prop, ◌$◌, ◌∵◌, !, qed, move, drop, use1, join, split, fsplit, fjoin}
use types.{Kit.{regoal, suffices, done}, Part.{whole, sub, agg}}
use types.Run.{of_opd, stop, fld, no_more, and_then, returns, enter}
use types.ByLocal.{alloc_all, pass_all, free_all, look_at, get, get_in, sets}
use contract.Running.{tables}
use denote.{Exit.yes, Struct.Owning.row, Steps.nothing}
use denote.Triple.Walked.{says, Stays, stay_dropped, walk_of, ends_at, Goes-dropped}
use Rattle.faultsim_c.proofs.Boxed.{heap_of_c, taken_holding, taken_type}
use Rattle.faultsim_c.proofs.Pointed.{word, word_typed, pointer_typed, fields_out, fields_in}
use Rattle.faultsim_c.proofs.held.Held.of.Statement.{statement}
use Rattle.faultsim_c.specs.contracts.held.Held as held
use Rattle.faultsim_c.specs.contracts.held.Held.of as f
use Rattle.faultsim_c.proofs.held.Held.of.Code as code

abbrev stayed : Stays (f.ended).signature.params (f.ended).kept
stayed = (stay_dropped taken_holding yes, tt)

pub of_spec : {M : Type 1} → statement M
of_spec 𝓤 𝓛 𝓜 𝓡 wired =
    let c = f.clauses 𝓛 𝓜.mem 𝓡.returns in let W = walk_of 𝓛 f.ended stayed c in
    let 𝓣 = tables 𝓤 𝓛.H 𝓜 𝓡 𝓡.env in
    proved_at 𝓛 f.ended stayed c 𝓜 𝓡 (Goes-dropped 𝓛 0 taken_holding yes (λ κs x w. refl), tt)
    f.Key.name code.function (code.unfolded 𝓤 𝓛.H 𝓜 𝓡 wired) (λ y are.
    let t = y.0.3.0 in let p = t.ptr in let a = t.alloc in let vs = y.0.4.0 in
    let Z = heap_of_c in let From = row taken_type in
    let made : (held.the_row).Denot = record { at = p; alloc = a; holding = Some t.value } in
    qed 𝓛 ((‵ ftrue ⊛ ‵ (fsep (From.own_val t vs) ftrue)) ∷ raw (emp 𝓤) ∷ []) ∵
    split ! $ drop ! $ fsplit ! $ fsplit ! $ fields_out Z ! p a vs (λ hv one fits.
    regoal ! (λ (us : List Val). prop (WpFn 𝓤 𝓛.H 𝓣.C 𝓣.Λ code.function (us ++ [])
    (W.post y))) one refl $
    enter ! _ _ _ _ _ $ alloc_all ! (λ l. pass_all ! refl (word_typed Z p hv fits, tt) $
    sets ! (of_opd ! (get_in ! (fld ! refl (stop !)) (sub ! 0 refl (whole !)))) refl
    (pointer_typed p) $
    sets ! (of_opd ! (get_in ! (fld ! refl (stop !)) (sub ! 1 refl (whole !)))) refl fits $
    sets ! (of_opd ! (get ! refl)) refl (pointer_typed p) $
    sets ! (agg ! (and_then ! (get ! refl) (and_then ! (get ! refl) (no_more !)))) refl
    (word_typed Z p hv fits) $ returns ! (look_at ! 0 refl) $ free_all ! refl $
    -- [the allocator; the box's memory; what was owned beside; the empty `requires`]
    fields_in Z ! p a $ fjoin ! $ use1 𝓛 (‵ ((held.the_row).own_val made (word p hv
    ∷ []))) (id⊢ 𝓤 _) $ move ! (1 ∷ 2 ∷ []) $ drop ! $ drop ! $
    suffices ! _ (ends_at 𝓛 f.ended stayed c y (word p hv) made (tt, tt) (tt, tt)) $ says ! refl $
    nothing ! $ nothing ! $ fjoin ! $ join ! $ nothing ! $ join ! $ done !)))
