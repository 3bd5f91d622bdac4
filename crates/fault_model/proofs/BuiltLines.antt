-- Building the list of lines, one signal after the other.
use Rattle.std.proofs.Common.{◌≡◌, ◌<◌, ◌≤◌, ℕ, zero, suc, ◌+◌, refl, sym, ◌∙◌, ap, subst, List, []}
use Rattle.std.proofs.Common.{◌∷◌, ◌++◌, length, take, arith, inl, inr, ◌⊎◌, length-append}
use Rattle.std.{proofs.Common.{append_assoc, append-nil}, specs.List.enumerate_from}
use Rattle.std.specs.Prelude.{Option, Some, None, slice_get, map, flat_map, option_and_then}
use Rattle.bench_net.specs.{Statement.{Name, Statement}, Scan.names}
use Rattle.bench_net.specs.Circuit.{IsCircuit, max_signals, max_sinks}
use Rattle.list_lemmas.proofs.Members.{Among, among, joined_from, mapped_from}
use Rattle.list_lemmas.proofs.Places.{numbered_at, place_within}
use Rattle.fault_model.specs.{declared.Line.Line, Fault.{branch, branches}, Lines.AreStemsOf}
use Rattle.fault_model.proofs.FaultLines.{lines_of, lines, branch_no_stem, lines_within}
use Rattle.fault_model.proofs.FrontParts.{at_front, at_end, below_or_at}
use Rattle.fault_model.specs.declared.Line.TheVariants as line

-- the lines of the first signals
abbrev pub lines_below : List Statement → ℕ → List Line
lines_below c k = flat_map (lines_of c) (take k (enumerate_from 0 (names c)))

-- the lines and the places of the stems, after the first signals
pub record Built (c : List Statement) (k : ℕ) (ls : List Line) (stems : List ℕ) : Type 0 where
  pub lines_are : ls ≡ lines_below c k
  pub stem_count : length stems ≡ k
  pub each_stem : (s : ℕ) → s < k
      → option_and_then (slice_get ls) (slice_get stems s) ≡ Some (line.Stem s)

-- one element more of a list that is joined
joined_more : {X Y : Type 0} (f : X → List Y) (xs : List X) (k : ℕ) (x : X)
    → slice_get xs k ≡ Some x → flat_map f (take (suc k) xs) ≡ flat_map f (take k xs) ++ f x
joined_more f [] k x e = let bad : None ≡ Some x = e in cc
joined_more f (y ∷ xs) zero x e = let same : y ≡ x = cc in simp (same, append-nil (f x))
joined_more f (y ∷ xs) (suc k) x e = ap (λ zs. f y ++ zs) (joined_more f xs k x e)
    ∙ sym (append_assoc (f y) (flat_map f (take k xs)) (f x))

numbered_place : {X : Type 0} (xs : List X) (from i : ℕ) (x : X) → slice_get xs i ≡ Some x
    → slice_get (enumerate_from from xs) i ≡ Some (from + i, x)
numbered_place [] from i x e = let bad : None ≡ Some x = e in cc
numbered_place (y ∷ xs) from zero x e =
    let same : y ≡ x = cc in
    let here : from ≡ from + 0 = omega arith in
    ap Some (ap (λ k. (k, y)) here ∙ ap (λ z. (from + 0, z)) same)
numbered_place (y ∷ xs) from (suc i) x e =
    let far : from + 1 + i ≡ from + suc i = omega arith in
    numbered_place xs (from + 1) i x e ∙ ap (λ k. Some (k, x)) far

numbered_place_0 : {X : Type 0} (xs : List X) (i : ℕ) (x : X) → slice_get xs i ≡ Some x
    → slice_get (enumerate_from 0 xs) i ≡ Some (i, x)
numbered_place_0 xs i x e =
    let zero_more : 0 + i ≡ i = omega arith in
    numbered_place xs 0 i x e ∙ ap (λ k. Some (k, x)) zero_more

pub built_more : (c : List Statement) (k : ℕ) (n : Name) (ls : List Line) (stems : List ℕ)
    → slice_get (names c) k ≡ Some n → Built c k ls stems
    → Built c (k + 1) ((ls ++ line.Stem k ∷ []) ++ map branch (branches c n))
    (stems ++ length ls ∷ [])
built_more c k n ls stems named b = record {
  lines_are = more;
  stem_count = counted;
  each_stem = each;
}
  where
    together : (ls ++ line.Stem k ∷ []) ++ map branch (branches c n) ≡ ls ++ lines_of c (k, n)
    together = append_assoc ls (line.Stem k ∷ []) (map branch (branches c n))

    more : (ls ++ line.Stem k ∷ []) ++ map branch (branches c n) ≡ lines_below c (k + 1)
    more =
        let next : suc k ≡ k + 1 = omega arith in
        together ∙ (ap (λ zs. zs ++ lines_of c (k, n)) b.lines_are
        ∙ (sym (joined_more (lines_of c) (enumerate_from 0 (names c)) k (k, n)
        (numbered_place_0 (names c) k n named)) ∙ ap (lines_below c) next))

    counted : length (stems ++ length ls ∷ []) ≡ k + 1
    counted =
        let h : length (stems ++ length ls ∷ []) ≡ length stems + 1 =
        length-append stems (length ls ∷ []) in
        omega (arith, h, b.stem_count)

    older : (s : ℕ) (o : Option ℕ) → slice_get stems s ≡ o
        → option_and_then (slice_get ls) o ≡ Some (line.Stem s)
        → option_and_then (slice_get (ls ++ lines_of c (k, n)))
        (slice_get (stems ++ length ls ∷ []) s) ≡ Some (line.Stem s)
    older s None e h = let bad : None ≡ Some (line.Stem s) = h in cc
    older s (Some p) e h = rw (at_front stems (length ls ∷ []) s p e)
        (at_front ls (lines_of c (k, n)) p (line.Stem s) h)

    each : (s : ℕ) → s < k + 1
        → option_and_then (slice_get ((ls ++ line.Stem k ∷ []) ++ map branch (branches c n)))
        (slice_get (stems ++ length ls ∷ []) s) ≡ Some (line.Stem s)
    each s lt = rw together (go (below_or_at s k lt))
      where
        go : (s < k) ⊎ (s ≡ k) → option_and_then (slice_get (ls ++ lines_of c (k, n)))
            (slice_get (stems ++ length ls ∷ []) s) ≡ Some (line.Stem s)
        go (inl h) = older s (slice_get stems s) refl (b.each_stem s h)
        go (inr h) =
            let place : slice_get (stems ++ length ls ∷ []) s ≡ Some (length ls) =
            subst (λ i. slice_get (stems ++ length ls ∷ []) i ≡ Some (length ls))
            (b.stem_count ∙ sym h) (at_end stems [] (length ls)) in
            rw place (at_end ls (map branch (branches c n)) (line.Stem k)
            ∙ ap (λ i. Some (line.Stem i)) (sym h))

-- a front part is at most as long as the whole
few_first : {X Y : Type 0} (f : X → List Y) (xs : List X) (k : ℕ)
    → length (flat_map f (take k xs)) ≤ length (flat_map f xs)
few_first f [] zero = omega arith
few_first f [] (suc k) = omega arith
few_first f (x ∷ xs) zero = omega arith
few_first f (x ∷ xs) (suc k) =
    let h : length (flat_map f (take k xs)) ≤ length (flat_map f xs) = few_first f xs k in
    let a : length (f x ++ flat_map f (take k xs))
    ≡ length (f x) + length (flat_map f (take k xs)) =
    length-append (f x) (flat_map f (take k xs)) in
    let b : length (f x ++ flat_map f xs) ≡ length (f x) + length (flat_map f xs) =
    length-append (f x) (flat_map f xs) in
    omega (arith, h, a, b)

pub built_within : (c : List Statement) (k : ℕ) (ls : List Line) (stems : List ℕ) → IsCircuit c
    → Built c k ls stems → length ls ≤ max_signals + max_sinks
built_within c k ls stems is b =
    let same : length ls ≡ length (lines_below c k) = ap length b.lines_are in
    let part : length (lines_below c k) ≤ length (lines c) =
    few_first (lines_of c) (enumerate_from 0 (names c)) k in
    let all : length (lines c) ≤ max_signals + max_sinks = lines_within c is in
    omega (arith, same, part, all)

take_numbered : {X : Type 0} (xs : List X) (from : ℕ)
    → take (length xs) (enumerate_from from xs) ≡ enumerate_from from xs
take_numbered [] from = refl
take_numbered (x ∷ xs) from = ap (λ zs. (from, x) ∷ zs) (take_numbered xs (from + 1))

-- after all signals these are the lines
pub built_all : (c : List Statement) (ls : List Line) (stems : List ℕ)
    → Built c (length (names c)) ls stems → ls ≡ lines c
built_all c ls stems b = b.lines_are ∙ ap (flat_map (lines_of c)) (take_numbered (names c) 0)

-- and the stems among them have their places
pub built_stems : (c : List Statement) (ls : List Line) (stems : List ℕ)
    → Built c (length (names c)) ls stems → AreStemsOf ls stems
built_stems c ls stems b = record {
  each = λ s at. b.each_stem s (of_signal s
      (subst (Among (line.Stem s)) (built_all c ls stems b) (among ls (line.Stem s) at)));
}
  where
    of_signal : (s : ℕ) → Among (line.Stem s) (lines c) → s < length (names c)
    of_signal s a =
        let p = joined_from (lines_of c) (enumerate_from 0 (names c)) (line.Stem s) a in
        go p.0 (place_within (names c) p.0.0 p.0.1 (numbered_at (names c) p.0 p.1)) p.2
      where
        go : (at : ℕ × Name) → at.0 < length (names c) → Among (line.Stem s) (lines_of c at)
            → s < length (names c)
        go at lt (inl e) =
            let it : line.Stem at.0 ≡ line.Stem s = e in
            let same : at.0 ≡ s = cc in
            omega (arith, lt, same)
        go at lt (inr h) =
            let q = mapped_from branch (branches c at.1) (line.Stem s) h in
            absurd (branch_no_stem q.0 s q.2)
