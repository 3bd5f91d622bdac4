-- `none` puts null beside the allocator, and a handle at null owns nothing.
use Rattle.std.{proofs.Common.{List, [], ◌∷◌, ◌++◌, refl}, specs.Prelude.None}
use Rattle.std.proofs.{alloc.Calls.handle_tells, raw_atomic.Walks.proved_at}
use mir.Val.{Val}
use base.{Fml.{ftrue, fsep}, Logic.{emp, id⊢}}
use prog.Wp.{WpFn}
use types.Kit.{‵, raw, ◌⊛◌, prop, ◌$◌, ◌∵◌, !, qed, move, drop, use1, join, split, fsplit, fjoin}
use types.{Kit.{regoal, suffices, done}, Part.agg, Run.{lit, no_more, and_then, returns, enter}}
use types.ByLocal.{alloc_all, pass_all, free_all, look_at, get, sets}
use contract.Running.{tables}
use denote.{Exit.yes, RawPtr.null_ptr, Steps.nothing}
use denote.Triple.Walked.{says, Stays, stay_dropped, walk_of, ends_at, Goes-dropped}
use Rattle.faultsim_c.proofs.{Boxed.{heap_of_c, handle}, Pointed.{word, word_typed, fields_in}}
use Rattle.faultsim_c.proofs.held.Held.none.Statement.{statement}
use Rattle.faultsim_c.specs.contracts.held.Held as held
use Rattle.faultsim_c.specs.contracts.held.Held.none as f
use Rattle.faultsim_c.proofs.held.Held.none.Code as code

abbrev stayed : Stays (f.ended).signature.params (f.ended).kept
stayed = (stay_dropped handle yes, tt)

pub none_spec : {M : Type 1} → statement M
none_spec 𝓤 𝓛 𝓜 𝓡 wired =
    let c = f.clauses 𝓛 𝓜.mem 𝓡.returns in let W = walk_of 𝓛 f.ended stayed c in
    let 𝓣 = tables 𝓤 𝓛.H 𝓜 𝓡 𝓡.env in
    proved_at 𝓛 f.ended stayed c 𝓜 𝓡 (Goes-dropped 𝓛 0 handle yes (λ κs x w. refl), tt)
    f.Key.name code.function (code.unfolded 𝓤 𝓛.H 𝓜 𝓡 wired) (λ y are.
    let a = y.0.3.0 in let vs = y.0.4.0 in let Z = heap_of_c in
    let made : (held.the_row).Denot = record { at = null_ptr; alloc = a; holding = None } in
    qed 𝓛 ((‵ ftrue ⊛ ‵ (fsep (Z.row.own_val a vs) ftrue)) ∷ raw (emp 𝓤) ∷ []) ∵
    split ! $ drop ! $ fsplit ! $ handle_tells Z ! a vs (λ hv one fits.
    regoal ! (λ (us : List Val). prop (WpFn 𝓤 𝓛.H 𝓣.C 𝓣.Λ code.function (us ++ [])
    (W.post y))) one refl $ enter ! _ _ _ _ _ $ alloc_all ! (λ l. pass_all ! refl (fits, tt) $
    sets ! (agg ! (and_then ! (lit ! tt) (and_then ! (get ! refl) (no_more !)))) refl
    (word_typed Z null_ptr hv fits) $ returns ! (look_at ! 0 refl) $ free_all ! refl $
    -- [the allocator; what it owned beside; the empty `requires`]
    fields_in Z ! null_ptr a $ fjoin ! $
    use1 𝓛 (‵ ((held.the_row).own_val made (word null_ptr hv ∷ []))) (id⊢ 𝓤 _) $
    move ! (1 ∷ []) $ drop ! $
    suffices ! _ (ends_at 𝓛 f.ended stayed c y (word null_ptr hv) made (tt, tt) (tt, tt)) $
    says ! refl $ nothing ! $ nothing ! $ fjoin ! $ join ! $ nothing ! $ join ! $ done !)))
