-- A group's place, the words of a new table, and the pieces by the words of a closed table.
use Rattle.std.proofs.Common.{◌≡◌, ℕ, zero, suc, ◌<◌, ◌∷◌, [], List, map, length, slice_index}
use Rattle.std.proofs.Common.{replicate, refl, sym, ap, ◌∙◌, subst, arith}
use mathlib.Core.Option.{some, some-injective, some-ne-none}
use lib.ListN.{get_elem?}
use Rattle.patterns.{specs.Least.below, specs.Tests.size_of, proofs.Public.map-below_same}
use Rattle.atomic_table.specs.{Seated.TableId, Table.{Final, Seen}}
use Rattle.fault_ledger.specs.declared.{Shape.Shape, PieceState.PieceState, words.View.View}
use Rattle.fault_ledger.specs.History.{History, ContinuesWithout, piece_count, block_of, entry}
use Rattle.fault_ledger.specs.{History.states_of, Answer.IsLegal, Seats.Place, Words.state_at}
use Rattle.fault_ledger.specs.Words.{Crowd, crowd, place_of, IsKept, Knows, ForEach, field_in}
use Rattle.fault_ledger.proofs.{SumsOverViews.for_all, LegalHistories.legal_hit, FieldCodes.decoded}

-- a group of the ledger stands at the ledger's table, and its view has the ledger's shape
pub group_place : (t u : TableId) (s : Shape) (v : View) (g : Crowd) (p : Place) → crowd t v ≡ g
    → g.place ≡ p → place_of u s ≡ p → (t ≡ u) × (v.shape ≡ s)
group_place t u s v g p is here place =
    let q : place_of t v.shape ≡ place_of u s = ap (λ (x : Crowd). x.place) is ∙ here ∙ sym place in
    (ap (λ (x : Place). x.table) q, ap (λ (x : Place). x.shape) q)

-- the words of a new table
pub zeros_at : (n i : ℕ) → slice_index (replicate n 0) i ≡ 0
zeros_at zero i = refl
zeros_at (suc n) zero = refl
zeros_at (suc n) (suc i) = zeros_at n i

pub zeros_long : (n : ℕ) → length {A = ℕ} (replicate n 0) ≡ n
zeros_long zero = refl
zeros_long (suc n) = ap suc (zeros_long n)

-- a word of a closed table
pub index_at : (l : List ℕ) (i a : ℕ) → get_elem? l i ≡ some a → slice_index l i ≡ a
index_at [] i a e = absurd (some-ne-none a (sym e))
index_at (x ∷ xs) zero a e = some-injective x a e
index_at (x ∷ xs) (suc i) a e = index_at xs i a e

-- the last state of the table gives the states in its words, and the posts of the last group
pub closes : (s : Shape) (id : ℕ) (v : View) (g : Crowd) (words slots : List ℕ)
    (states : List PieceState)
    → Final (Seen (IsKept {S = ℕ} s) id v) words slots → v.posts ≡ g.posts
    → states ≡ map (λ piece. state_at (field_in words piece)) (below (piece_count s))
    → (h : History) × IsLegal s h × ForEach (λ p. ContinuesWithout p.worker h p.seen) g.posts
    × (states ≡ states_of s h)
closes s id v g words slots states f same is =
    let h = f.1.0.0 in
    let kept = f.1.0.1 in (
      h,
      kept.legal,
      subst (ForEach (λ p. ContinuesWithout p.worker h p.seen)) same
          (for_all (Knows s h v.shape) (λ p. ContinuesWithout p.worker h p.seen) v.posts
          (λ p k. k.newer) (kept.known id v f.1.1)),
      is ∙ map-below_same (λ piece. state_at (field_in words piece)) (λ piece. entry piece h)
          (piece_count s) (λ p l. ap (λ ws. state_at (field_in ws p)) (sym f.2)
          ∙ ap state_at (kept.marked p l) ∙ decoded (entry p h)
          (λ k e. below_64 k s.tests (block_of s p) (legal_hit s p k h kept.legal e))),
    )
  where
    below_64 : (k tests block : ℕ) → k < size_of tests block → k < 64
    below_64 k tests block l = omega arith
