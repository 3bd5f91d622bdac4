-- Calls one after another.
use Rattle.std.proofs.Common.{◌≡◌, List, [], ◌∷◌, ◌++◌, refl, ap, subst}
use Rattle.fault_ledger.specs.declared.{Shape.Shape, Call.Call, Reply.Reply}
use Rattle.fault_ledger.specs.{History.History, Answer.{IsLegal, answer, after, replies, after_all}}
use Rattle.fault_ledger.{specs.Face.{Face, face, Answers}, proofs.LegalHistories.legal_after}

pub after_all-more : (s : Shape) (h : History) (calls : List Call) (c : Call)
    → after_all s h (calls ++ c ∷ []) ≡ after s (after_all s h calls) c
after_all-more s h [] c = refl
after_all-more s h (d ∷ calls) c = after_all-more s (after s h d) calls c

pub replies-more : (s : Shape) (h : History) (calls : List Call) (c : Call)
    → replies s h (calls ++ c ∷ []) ≡ replies s h calls ++ answer s (after_all s h calls) c ∷ []
replies-more s h [] c = refl
replies-more s h (d ∷ calls) c = ap (λ xs. answer s h d ∷ xs) (replies-more s (after s h d) calls c)

-- a call of a ledger with the face of this history
pub reply-at : (s : Shape) (f g : Face) (h : History) (c : Call) (r : Reply) → Answers f c r g
    → IsLegal s h → f ≡ face s h → (r ≡ answer s h c) × (g ≡ face s (after s h c))
reply-at s f g h c r a legal e = let b = subst (λ (x : Face). Answers x c r g) e a in b h legal refl

-- the events that calls add to a legal history leave it legal
pub legal-after_all : (s : Shape) (h : History) (calls : List Call) → IsLegal s h
    → IsLegal s (after_all s h calls)
legal-after_all s h [] l = l
legal-after_all s h (c ∷ calls) l = legal-after_all s (after s h c) calls (legal_after s h c l)
