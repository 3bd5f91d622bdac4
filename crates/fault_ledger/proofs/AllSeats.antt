-- The seats of all workers, one by one.
use Rattle.std.proofs.Common.{◌≡◌, ℕ, zero, suc, ◌+◌, ◌-◌, ◌<◌, false, true≢false, List, [], ◌∷◌}
use Rattle.std.proofs.Common.{◌++◌, map, length, replicate, slice_index_or, get_or, All, None, refl}
use Rattle.std.proofs.Common.{sym, ap, ◌∙◌, subst, arith, add-one, length-append}
use Rattle.std.proofs.Math.Seq.{get_or-append_seam}
use Rattle.std.proofs.lemmas.List.Elements.{All-nil, All-cons, All-map}
use Rattle.patterns.specs.Least.{below}
use Rattle.fault_ledger.specs.{declared.Shape.Shape, declared.words.Post.Post, Face.shape_fault}
use Rattle.fault_ledger.specs.{declared.shared.Remembered.Remembered, Seats.newcomers}
use Rattle.fault_ledger.specs.Seats.{Place, Sitter, IsSeated, Recalls, nothing_seen, newcomer}
use Rattle.fault_ledger.specs.Words.{post, post_of, newcomer_posts, first_post, others, ForEach}
use Rattle.fault_ledger.proofs.{ListsByPlace.more_below, SeatSteps.nothing_recalled}

-- the first of the workers from w on
pub newcomers_first : (w n : ℕ) → w < n
    → newcomer_posts w (n - w) ≡ post w false [] ∷ newcomer_posts (w + 1) (n - (w + 1))
newcomers_first w n l =
    let e : n - w ≡ suc (n - (w + 1)) = omega arith in
    ap (newcomer_posts w) e
    ∙ ap (λ k. post w false [] ∷ newcomer_posts k (n - (w + 1))) (sym (add-one w))

-- the first of the workers from w on is a newcomer, and so are the others
pub deal_first : (p : Place) (w n : ℕ) (posts rest : List Post) (a : Sitter) → w < n
    → posts ≡ newcomer_posts w (n - w) → posts ≡ post_of a ∷ rest → a.place ≡ p → a ≡ newcomer p w
deal_first p w n posts rest a l is parts at =
    let e : post_of a ≡ post w false [] = ap first_post (sym parts ∙ is ∙ newcomers_first w n l) in
    λ k. record {
      place = at k;
      worker = (e k).worker;
      exhausted = (e k).exhausted;
      seen = (e k).seen;
    }

pub deal_others : (w n : ℕ) (posts rest : List Post) (a : Sitter) → w < n → posts ≡ newcomer_posts w
    (n - w) → posts ≡ post_of a ∷ rest → rest ≡ newcomer_posts (w + 1) (n - (w + 1))
deal_others w n posts rest a l is parts = ap others (sym parts ∙ is ∙ newcomers_first w n l)

blanks_at : (n i : ℕ) → slice_index_or (replicate n nothing_seen) i nothing_seen ≡ nothing_seen
blanks_at zero i = refl
blanks_at (suc n) zero = refl
blanks_at (suc n) (suc i) = blanks_at n i

-- the data of a newcomer's seat, which remembers nothing
pub deal_seat : (p : Place) (s : Shape) (w n : ℕ) (clear : List Remembered) (a : Sitter)
    → a ≡ newcomer p w → p.shape ≡ s → shape_fault s ≡ None → w < s.workers
    → clear ≡ replicate n nothing_seen → IsSeated a w false s.classes None clear
deal_seat p s w n clear a e is limits l blank =
    subst (λ (x : Sitter). IsSeated x w false s.classes None clear) (sym e) (record {
      sitter = record {
        limits = subst (λ (x : Shape). shape_fault x ≡ None) (sym is) limits;
        among = subst (λ (x : Shape). w < x.workers) (sym is) l;
        legal = tt;
        ended = λ t. absurd (true≢false (sym t));
      };
      worker_is = refl;
      exhausted_is = refl;
      classes_is = ap (λ (x : Shape). x.classes) (sym is);
      piece_is = refl;
      remembers = λ class. subst (Recalls p.shape [] class)
          (sym (ap (λ (x : List Remembered). slice_index_or x class nothing_seen) blank
          ∙ blanks_at n class)) (nothing_recalled p.shape [] class);
    })

pub deal_more : (p : Place) (w : ℕ) (seats now : List Sitter) (a : Sitter)
    → a ≡ newcomer p w → seats ≡ map (newcomer p) (below w) → now ≡ seats ++ a ∷ []
    → now ≡ map (newcomer p) (below (w + 1))
deal_more p w seats now a e all pushed = more_below (newcomer p) w seats now a all e pushed

-- a property of each post is a property of each seat
pub of_each : (P : Post → Type 0) (seats : List Sitter) → ForEach P (map post_of seats)
    → All (λ a. P (post_of a)) seats
of_each P [] f = All-nil (λ (a : Sitter). P (post_of a))
of_each P (a ∷ seats) f = All-cons (λ (a : Sitter). P (post_of a)) a seats f.0 (of_each P seats f.1)

-- each of the seats came from this ledger
pub seat_place : (p : Place) (seats before after : List Sitter) (a : Sitter)
    → All (λ s. s.place ≡ p) seats → seats ≡ before ++ a ∷ after → a.place ≡ p
seat_place p seats before after a all e =
    let within : length before < length seats =
    omega (arith, ap (λ (l : List Sitter). length l) e, length-append before (a ∷ after)) in
    let at : get_or seats (length before) a ≡ a = ap (λ l. get_or l (length before) a) e
    ∙ get_or-append_seam before a after a in
    ap (λ (s : Sitter). s.place) (sym at) ∙ all (length before) a within

-- the seats of a new ledger are its own
pub newcomers_placed : (p : Place) (seats : List Sitter) → seats ≡ newcomers p
    → All (λ seat. seat.place ≡ p) seats
newcomers_placed p seats is = subst (All (λ seat. seat.place ≡ p)) (sym is)
    (All-map (λ seat. seat.place ≡ p) (newcomer p) (below p.shape.workers) (λ k d l. refl))
