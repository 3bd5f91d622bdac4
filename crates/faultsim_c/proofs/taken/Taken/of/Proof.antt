-- `of` has the box turned into its pointer and its allocator, which own what it owned.
use Rattle.std.proofs.{Common.{◌≡◌, List, [], ◌∷◌, ◌++◌, refl, sym, ap}, raw_atomic.Walks.proved_at}
use Rattle.std.{proofs.alloc.Calls.{Al, handle_tells, Goes-blank}, specs.Box.Ownership.box_owns}
use Rattle.std.proofs.boxed.Box.into_raw_with_allocator.Met.{met}
use mir.{Syntax.{Args, a_type, dcons, dnil}, MapTy.inst_fn, Val.Val}
use base.{Fml.{ftrue, fsep, flft}, Logic.id⊢}
use contract.{BorrowLft.◌⊑◌, Monad.fact, Running.tables}
use prog.Wp.{WpFn}
use types.Kit.{Item, ‵, raw, ◌⊛◌, some, later, prop, ◌$◌, ◌∵◌, !, qed, move, drop, use1, join}
use types.Kit.{split, fsplit, fjoin, pick, rewrite, regoal, suffices, await, done}
use types.{Part.{whole, sub, agg}, Run.{of_opd, stop, fld, no_more, and_then, returns, enter}}
use types.ByLocal.{alloc_all, pass_all, free_all, look_at, get, get_in, sets, lands_as}
use denote.{Exit.no, Param.{param, bounded}, Param.Laws.param_laws, RattleType.RattleType}
use denote.{RawPtr.{Ptr, RawPtr}, Signature.{Slot, plain}, Steps.{heard, nothing, only}}
use denote.{Struct.Tuple.Tuple, Triple.Call.calls_at, Triple.Clauses.{Lasts, lasts}}
use denote.Triple.{Spec.triple_of, Table.framed}
use denote.Triple.Walked.{says, Stays, stay_dropped, walk_of, ends_at}
use Rattle.std.specs.contracts.boxed.Box as boxed
use Rattle.std.proofs.boxed.Box.TheLaws as boxed_laws
use Rattle.std.specs.contracts.boxed.Box.into_raw_with_allocator as g
use Rattle.faultsim_c.proofs.Pointed.{word, word_typed, pointer_typed, fields_out, fields_in}
use Rattle.faultsim_c.proofs.taken.Taken.of.Statement.{statement}
use Rattle.faultsim_c.specs.contracts.taken.Taken as taken
use Rattle.faultsim_c.specs.contracts.taken.Taken.of as f
use Rattle.faultsim_c.proofs.taken.Taken.of.Code as code

pub of_spec : {M : Type 1} → statement M
of_spec 𝓤 𝓛 𝓜 𝓡 wired X Y LX LY gs d dd dx is_allocator drops_y drops_x =
    let Z : Al = record { row = Y; laws = LY; g = gs; d = d; drops = dd } in
    let R : RattleType = param 0 X in let P : RattleType = param 1 Y in
    let B : RattleType = boxed.the_row R P gs in let To : RattleType = taken.the_row R P gs in
    let whole_box : Al = record {
      row = B;
      laws = boxed_laws.the_row_laws R P gs (param_laws 0 X LX) (param_laws 1 Y LY);
      g = record { dealloc_token = λ a σ p. ftrue };
      d = d;
      drops = dd;
    } in
    let args : Args = bounded (a_type ∷ a_type ∷ []) (
      X,
      (Y, tt),
    ) (dcons d (dcons dd (dcons dx dnil))) in
    let En = f.ended X Y gs d dd dx in let c = f.clauses X Y gs d dd dx 𝓛 𝓜.mem 𝓡.returns in
    let From : Slot 2 = plain (λ _. B) in
    let stayed : Stays En.signature.params En.kept = (stay_dropped From no, tt) in
    let W = walk_of 𝓛 En stayed c in let 𝓣 = tables 𝓤 𝓛.H 𝓜 𝓡 𝓡.env in
    let fn = inst_fn args code.function in
    proved_at 𝓛 En stayed c 𝓜 𝓡 (Goes-blank 𝓛 2 From no (λ κs x w. tt), tt)
    (f.Key.name args) fn (code.unfolded 𝓤 𝓛.H 𝓜 𝓡 wired (X, (Y, tt)) d dd dx) (λ y are.
    let κs = y.0.0 in let qs = y.0.1 in let v = y.0.3.0 in let vs = y.0.4.0 in
    let tokens : Item 𝓤 = ‵ (flft κs.0 qs.0) ⊛ ‵ (flft κs.1.0 qs.1.0) ⊛ ‵ ftrue in
    let outlived : Item 𝓤 = raw (fact 𝓤 (κs.0 ⊑ X.lives)) ⊛ raw (fact 𝓤
    (κs.1.0 ⊑ Y.lives)) ⊛ ‵ ftrue in
    let G = triple_of 𝓛 (g.signature X Y gs d dd dx) (g.spec X Y gs d dd dx 𝓛 𝓜.mem 𝓡.returns) in
    qed 𝓛 ((tokens ⊛ ‵ (fsep (B.own_val v vs) ftrue)) ∷ outlived ∷ []) ∵
    split ! $ move ! (1 ∷ []) $ fsplit ! $ handle_tells whole_box ! v vs (λ w one typed.
    let z : G.Ghost = ((κs, qs, tt, (v, tt), (w ∷ [], tt)), tt) in
    fjoin ! $ move ! (1 ∷ 0 ∷ []) $ join ! $ join ! $ use1 𝓛 (raw (G.pre z)) (id⊢ 𝓤 _) $
    regoal ! (λ (us : List Val). prop (WpFn 𝓤 𝓛.H 𝓣.C 𝓣.Λ fn (us ++ []) (W.post y))) one refl $
    enter ! _ _ _ _ _ $ alloc_all ! (λ l. pass_all ! refl (typed, tt) $
    sets ! (of_opd ! (get ! refl)) refl typed $ calls_at ! (framed 𝓤 𝓛.H 𝓜 𝓣) G (met 𝓤 𝓛 𝓜 𝓡
    (code.calls-std_alloc::boxed::Box::into_raw_with_allocator 𝓡.env wired) X Y LX LY gs d dd
    dx is_allocator drops_y drops_x) z (and_then ! (get ! refl) (no_more !)) (λ u.
    use1 𝓛 (later (some (λ (r : Ptr × Y.Denot). (tokens ⊛ ‵ ((Tuple (RawPtr ∷ P ∷ [])).own_val r (u
    ∷ []))) ⊛
    some (λ (ws : Lasts En κs y.0.3). ‵ (lasts En κs y.0.3 ws) ⊛ (raw (fact 𝓤 (r.1 ≡ v.alloc)) ⊛ ‵
    (box_owns (gs.dealloc_token v.alloc) R r.0 v.value)))))) (id⊢ 𝓤 _) $
    await ! tt $ pick ! (λ r. let p = r.0 in let a = r.1 in
    let made : To.Denot = record { ptr = p; alloc = a; value = v.value } in
    split ! $ split ! $ move ! (2 ∷ []) $ pick ! (λ ws. split ! $ drop ! $ split ! $
    heard ! (a ≡ v.alloc) (λ same.
    rewrite ! 0 (λ (s : Y.Denot). ‵ (box_owns (gs.dealloc_token s) R p v.value)) (sym same) refl $
    -- [the box's memory; the tokens; the pair]
    move ! (2 ∷ []) $ fields_out Z ! p a (u ∷ []) (λ hv pair fits.
    lands_as ! (ap only pair) refl (word_typed Z p hv fits) $
    sets ! (of_opd ! (get_in ! (fld ! refl (stop !)) (sub ! 0 refl (whole !)))) refl
    (pointer_typed p) $
    sets ! (of_opd ! (get_in ! (fld ! refl (stop !)) (sub ! 1 refl (whole !)))) refl fits $
    sets ! (of_opd ! (get ! refl)) refl fits $
    sets ! (agg ! (and_then ! (get ! refl) (and_then ! (get ! refl) (no_more !)))) refl
    (word_typed Z p hv fits) $ returns ! (look_at ! 0 refl) $ free_all ! refl $
    -- [the allocator; the box's memory; the tokens]
    fields_in Z ! p a $ fjoin ! $ use1 𝓛 (‵ (To.own_val made (word p hv ∷ []))) (id⊢ 𝓤 _) $
    suffices ! _ (ends_at 𝓛 En stayed c y (word p hv) made ((tt, (tt, tt)), tt) (tt, tt)) $
    says ! refl $
    nothing ! $ nothing ! $ fjoin ! $ join ! $ move ! (1 ∷ 0 ∷ []) $ join ! $ done !))))))))
