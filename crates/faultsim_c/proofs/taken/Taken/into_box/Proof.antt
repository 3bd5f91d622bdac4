-- `into_box` has the box made of the pointer and the allocator, with all that they own.
use Rattle.std.proofs.{Common.{◌≡◌, List, [], ◌∷◌, ◌++◌, refl}, VecSteps.Shapes.after}
use Rattle.std.proofs.{alloc.Calls.{Al, Goes-blank}, raw_atomic.Walks.proved_at}
use Rattle.std.proofs.boxed.Box.from_raw.Met.{met}
use mir.{Syntax.{Args, a_type, dcons, dnil}, MapTy.inst_fn, Val.Val}
use base.{Fml.{ftrue, fsep, flft}, Logic.id⊢}
use contract.{BorrowLft.◌⊑◌, Monad.fact, Running.tables}
use prog.Wp.{WpFn}
use types.Kit.{Item, at_ret, ‵, raw, ◌⊛◌, some, later, prop, ◌$◌, ◌∵◌, !, qed, move, drop, use1}
use types.Kit.{join, split, split3, fsplit, fjoin, feq_i, pick, regoal, suffices, await, done}
use types.Part.{whole, sub}
use types.Run.{of_opd, stop, fld, no_more, and_then, first, blocks, exec, returns, enter}
use types.ByLocal.{alloc_all, pass_all, free_all, look_at, get, get_in, sets, lands_last, env}
use denote.{Exit.no, Laws.{Is, shows}, Param.{param, bounded}, Param.Laws.param_laws}
use denote.{RattleType.RattleType, RawPtr.rawptr_vals, Signature.{Slot, plain}, Triple.Table.framed}
use denote.{Steps.{heard, nothing, peeks}, Triple.Call.calls_at_last, Triple.Clauses.{Lasts, lasts}}
use denote.Triple.{Spec.triple_of, Walked.{says, Stays, stay_dropped, walk_of, ends_at}}
use Rattle.std.specs.contracts.boxed.Box as boxed
use Rattle.std.proofs.boxed.Box.TheLaws as boxed_laws
use Rattle.std.specs.contracts.boxed.Box.from_raw as g
use Rattle.faultsim_c.proofs.Pointed.{word_typed, pointer_typed, fields_out}
use Rattle.faultsim_c.proofs.taken.Taken.into_box.Statement.{statement}
use Rattle.faultsim_c.specs.contracts.taken.Taken as taken
use Rattle.faultsim_c.specs.contracts.taken.Taken.into_box as f
use Rattle.faultsim_c.proofs.taken.Taken.into_box.Code as code

pub into_box_spec : {M : Type 1} → statement M
into_box_spec 𝓤 𝓛 𝓜 𝓡 wired X Y LX LY gs d dd is_allocator drops_y =
    let Z : Al = record { row = Y; laws = LY; g = gs; d = d; drops = dd } in
    let R : RattleType = param 0 X in let P : RattleType = param 1 Y in
    let B : RattleType = boxed.the_row R P gs in let T : RattleType = taken.the_row R P gs in
    let args : Args = bounded (a_type ∷ a_type ∷ []) (X, (Y, tt)) (dcons d (dcons dd dnil)) in
    let En = f.ended X Y gs d dd in let c = f.clauses X Y gs d dd 𝓛 𝓜.mem 𝓡.returns in
    let From : Slot 2 = plain (λ _. T) in
    let stayed : Stays En.signature.params En.kept = (stay_dropped From no, tt) in
    let W = walk_of 𝓛 En stayed c in let 𝓣 = tables 𝓤 𝓛.H 𝓜 𝓡 𝓡.env in
    let fn = inst_fn args code.function in
    proved_at 𝓛 En stayed c 𝓜 𝓡 (Goes-blank 𝓛 2 From no (λ κs x w. tt), tt)
    (f.Key.name args) fn (code.unfolded 𝓤 𝓛.H 𝓜 𝓡 wired (X, (Y, tt)) d dd) (λ y are.
    let κs = y.0.0 in let qs = y.0.1 in let t = y.0.3.0 in let p = t.ptr in let a = t.alloc in
    let vs = y.0.4.0 in
    let tokens : Item 𝓤 = ‵ (flft κs.0 qs.0) ⊛ ‵ (flft κs.1.0 qs.1.0) ⊛ ‵ ftrue in
    let in_x : Item 𝓤 = raw (fact 𝓤 (κs.0 ⊑ X.lives)) in
    let in_y : Item 𝓤 = raw (fact 𝓤 (κs.1.0 ⊑ Y.lives)) in
    let G = triple_of 𝓛 (g.signature X Y gs d dd) (g.spec X Y gs d dd 𝓛 𝓜.mem 𝓡.returns) in
    qed 𝓛 ((tokens ⊛ ‵ (fsep (T.own_val t vs) ftrue)) ∷ (in_x ⊛ in_y ⊛ ‵ ftrue) ∷ []) ∵
    split ! $ move ! (1 ∷ []) $ fsplit ! $ fsplit ! $ fields_out Z ! p a vs (λ hv one fits.
    let z : G.Ghost = ((κs, qs, tt, (a, (p, tt)), (hv ∷ [], (rawptr_vals p, tt))), t.value) in
    regoal ! (λ (us : List Val). prop (WpFn 𝓤 𝓛.H 𝓣.C 𝓣.Λ fn (us ++ []) (W.post y))) one refl $
    enter ! _ _ _ _ _ $ alloc_all ! (λ l. pass_all ! refl (word_typed Z p hv fits, tt) $
    sets ! (of_opd ! (get_in ! (fld ! refl (stop !)) (sub ! 0 refl (whole !)))) refl
    (pointer_typed p) $
    sets ! (of_opd ! (get_in ! (fld ! refl (stop !)) (sub ! 1 refl (whole !)))) refl fits $
    first ! $ blocks ! $ sets ! (of_opd ! (get ! refl)) refl fits $
    -- [the allocator; the box's memory; true; the tokens; what outlives them]
    move ! (4 ∷ []) $ split3 ! $ move ! (2 ∷ []) $ drop ! $
    move ! (1 ∷ 3 ∷ []) $ join ! $ move ! (1 ∷ 0 ∷ []) $ join ! $
    move ! (2 ∷ []) $ feq_i ! (List Val) (rawptr_vals p) (rawptr_vals p) refl $ fjoin ! $
    move ! (2 ∷ 0 ∷ []) $ fjoin ! $
    move ! (2 ∷ 0 ∷ []) $ join ! $ join ! $ use1 𝓛 (raw (G.pre z)) (id⊢ 𝓤 _) $
    calls_at_last ! (framed 𝓤 𝓛.H 𝓜 𝓣) G (met 𝓤 𝓛 𝓜 𝓡
    (code.calls-std_alloc::boxed::Box::from_raw 𝓡.env wired) X Y LX LY gs d dd is_allocator
    drops_y) z (and_then ! (get ! refl) (and_then ! (get ! refl) (no_more !))) (λ u.
    use1 𝓛 (later (some (λ (r : B.Denot). (tokens ⊛ ‵ (B.own_val r (u ∷ []))) ⊛
    some (λ (ws : Lasts (g.ended X Y gs d dd) κs (
      a,
      (p, tt),
    )). ‵ (lasts (g.ended X Y gs d dd) κs (
      a,
      (p, tt),
    ) ws) ⊛ (raw (fact 𝓤 (r.value ≡ t.value)) ⊛ raw (fact 𝓤 (r.alloc ≡ a))))))) (id⊢ 𝓤 _) $
    await ! tt $ pick ! (λ r. split ! $ move ! (1 ∷ []) $ pick ! (λ ws. split3 ! $ drop ! $
    heard ! (r.value ≡ t.value) (λ same. drop ! $
    split ! $ move ! (1 ∷ []) $ peeks ! B (Is B) (shows 𝓛 B) r (u ∷ []) (λ is.
    let typed = (((boxed_laws.the_row_laws R P gs (param_laws 0 X LX)
    (param_laws 1 Y LY)).lawful 𝓛).typed r (u ∷ []) is).0 in
    lands_last ! refl typed $ exec ! 𝓣.C 𝓣.Λ (env fn.locals l) (after 3 fn.body) (at_ret _
    (W.post y)) $
    sets ! (of_opd ! (get ! refl)) refl typed $ returns ! (look_at ! 0 refl) $ free_all ! refl $
    -- [the box; the tokens]
    suffices ! _ (ends_at 𝓛 En stayed c y u r ((tt, (tt, tt)), tt) (tt, tt)) $ says ! same $
    nothing ! $ nothing ! $ fjoin ! $ join ! $ move ! (1 ∷ 0 ∷ []) $ join ! $ done !))))))))
