-- A struct of two fields, a pointer and an allocator's handle, as a step of a walk.
--     word                    its machine value
--     word_typed              that value has the struct's type
--     fields_of               what the two fields own
--     fields_out, fields_in   they own no more than the handle does
use Rattle.std.proofs.Common.{◌≡◌, List, [], ◌∷◌, ◌++◌, refl, ap, ◌∙◌, lit<}
use Rattle.std.proofs.alloc.Calls.{Al, α, Fits, handle_tells}
use seplogic.Ra.Ura.{Ura}
use lib.Dec.{T}
use mir.{Syntax.{ty_ptr, ty_struct}, Val.{Val, vstruct, of_list, has_ty, WT}}
use base.Fml.{Fml, ftrue, fsep, feq, fex}
use types.{Logic.Logic, Kit.feq_i}
use types.Kit.{Goal, Seq, Step, step, Item, ‵, ◌$◌, move, drop, fsplit, fjoin, fpick, fpack, feq_l}
use denote.{RawPtr.{Ptr, block_ptr, null_ptr, ptr_val}, Steps.nothing}
use denote.Struct.Struct.{to_tys, as_fields}

abbrev pub word : Ptr → Val → Val
word p handle = vstruct (of_list (ptr_val p ∷ handle ∷ []))

pub pointer_typed : (p : Ptr) → T (has_ty ty_ptr (ptr_val p)) × WT (ptr_val p)
pointer_typed (block_ptr b o) = (tt, tt)
pointer_typed null_ptr = (tt, record { fits = lit< tt })

module _ (Z : Al) where
  pub word_typed : (p : Ptr) (handle : Val) → Fits Z handle
      → T (has_ty (ty_struct [] (to_tys (ty_ptr ∷ α Z ∷ []))) (word p handle)) × WT (word p handle)
  word_typed p handle fits =
      as_fields (ty_ptr ∷ α Z ∷ []) (ptr_val p ∷ handle ∷ []) (pointer_typed p, (fits, tt))

  abbrev pub Parts : Type 0
  Parts = List Val × (List Val × Unit {0})

  abbrev pub in_parts : Ptr → Z.row.Denot → List Val → Parts → Fml
  in_parts p a vs parts = fsep (feq (List Val) vs (vstruct (of_list (parts.0 ++ (parts.1.0 ++ [])))
      ∷ []))
      (fsep (feq (List Val) parts.0 (ptr_val p ∷ [])) (fsep (Z.row.own_val a parts.1.0) ftrue))

  abbrev pub fields_of : Ptr → Z.row.Denot → List Val → Fml
  fields_of p a vs = fex Parts (in_parts p a vs)

module _ (Z : Al) {M : Type 1} {𝓤 : Ura M} {𝓛 : Logic 𝓤} {K : Type 0} {Γ : List
    (Item 𝓤)} {G : Goal 𝓤 𝓛.H} where
  pub fields_out : K → (p : Ptr) (a : Z.row.Denot) (vs : List Val)
      → ((handle : Val) → vs ≡ word p handle ∷ [] → Fits Z handle
      → Seq K 𝓛 (‵ (Z.row.own_val a (handle ∷ [])) ∷ Γ) G) → Seq K 𝓛 (‵ (fields_of Z p a vs) ∷ Γ) G
  fields_out t p a vs rest =
      fpick t (λ parts. fsplit t $ feq_l t (λ whole. fsplit t $ feq_l t (λ first. fsplit t $
      move t (1 ∷ []) $ drop t $ handle_tells Z t a parts.1.0 (λ handle second fits. rest handle
      (whole ∙ ap (λ (ps : List Val). vstruct (of_list (ps ++ (parts.1.0 ++ []))) ∷ []) first
      ∙ ap (λ (hs : List Val). vstruct (of_list (ptr_val p ∷ (hs ++ []))) ∷ []) second) fits))))

  pub fields_in : K → (p : Ptr) (a : Z.row.Denot) {handle : Val}
      → Step K 𝓛 (‵ (fields_of Z p a (word p handle ∷ [])) ∷ Γ) G (‵ (Z.row.own_val a (handle
      ∷ [])) ∷ Γ) G
  fields_in t p a {handle} = step (λ s. nothing t $ move t (1 ∷ []) $ fjoin t $
      feq_i t (List Val) (ptr_val p ∷ []) (ptr_val p ∷ []) refl $ fjoin t $
      feq_i t (List Val) (word p handle ∷ []) (word p handle ∷ []) refl $ fjoin t $
      fpack t (Parts Z) (in_parts Z p a (word p handle ∷ [])) (ptr_val p ∷ [], (handle ∷ [], tt)) $
      s)
