-- The tests of each class, group by group.
use Rattle.std.proofs.Common.{◌≡◌, ◌≢◌, ◌<◌, ◌≤◌, ◌+◌, ◌*◌, ◌⊎◌, inl, inr, ℕ, Bool, true, List, set}
use Rattle.std.{proofs.Common.{length, sym, ◌∙◌, ap, subst, arith}, specs.declared.vec.Vec.Vec}
use Rattle.std.specs.Prelude.{Some, bit_or, slice_get, slice_index, slice_index_or}
use Rattle.std.proofs.lemmas.{Bool.cases_eq, List.length-set}
use Rattle.std.proofs.lemmas.Option.{slice_get-get_or, slice_get_within}
use Rattle.list_lemmas.proofs.Places.{place_within}
use Rattle.counting_sort.specs.SortedPlaces.{ArePositions}
use Rattle.patterns.specs.Tests.{blocks}
use Rattle.flat_circuit.{proofs.Public.{set_here, set_there}, specs.BlockSpans.groups}
use Rattle.block_sim.specs.Parts.{BelongTogether, Parts}
use Rattle.region_sim.specs.Goals.{AreHits, TellHits}
use Rattle.region_runs.{proofs.Public.some_hits, specs.Tasks.{AreKept, task_of}}
use Rattle.n_detect.specs.{ClassTests.{AreClassTests, AreGroupsIn}, ListLanes.AreLanesIn}
use Rattle.n_detect.proofs.GroupWords.{lanes_more, lanes_same}

-- a word of a group more
pub groups_taken : (count group : ℕ) (hits : ℕ → Bool) (low from to : ℕ) → low ≤ from
    → (old : List ℕ) (word : ℕ) → TellHits true hits (128 * group) from to word
    → AreGroupsIn count hits low from old
    → AreGroupsIn count hits low to (set old group (bit_or (slice_index_or old group 0) word))
groups_taken count group hits low from to le old word tells was = record {
  long = length-set old group now ∙ was.long;
  each = λ g w at. go g w at (cases_eq g group);
}
  where
    now : ℕ
    now = bit_or (slice_index_or old group 0) word

    go : (g w : ℕ) → slice_get (set old group now) g ≡ Some w → (g ≡ group) ⊎ (g ≢ group)
        → AreLanesIn g hits low to w
    go g w at (inl same) =
        let here : slice_get (set old group now) group ≡ Some w =
        ap (slice_get (set old group now)) (sym same) ∙ at in
        let long = length-set old group now in
        let lt = slice_get_within (set old group now) group w here in
        let both : Some w ≡ Some now =
        sym here ∙ set_here old group now (omega (arith, lt, long)) in
        let is : w ≡ now = cc in
        subst (λ n. AreLanesIn n hits low to w) (sym same)
        (subst (AreLanesIn group hits low to) (sym is)
        (lanes_more group hits low from to le (slice_index_or old group 0) word tells
        (was.each group (slice_index_or old group 0)
        (slice_get-get_or old group 0 (omega (arith, lt, long))))))
    go g w at (inr ne) = lanes_same g hits low from to le group w word (λ e. ne (sym e)) tells
        (was.each g w (sym (set_there old group g now ne) ∙ at))

-- past the last group nothing changes
pub groups_past : (count group : ℕ) (hits : ℕ → Bool) (low from to : ℕ) → low ≤ from
    → (old : List ℕ) (word : ℕ) → length old ≤ group
    → TellHits true hits (128 * group) from to word → AreGroupsIn count hits low from old
    → AreGroupsIn count hits low to old
groups_past count group hits low from to le old word past tells was = record {
  long = was.long;
  each = λ g w at.
      let lt = slice_get_within old g w at in
      lanes_same g hits low from to le group w word
      (λ e. let q : group ≡ g = e in omega (arith, lt, past, q)) tells (was.each g w at);
}

-- what a run keeps of all classes are the tests of each at its position
pub tests_of_classes : {Z : Type 0} (job : Parts) → BelongTogether job → (count : ℕ)
    → count ≡ groups (length job.tests.tests) → (classes positions : List ℕ)
    (rows : List (Vec ℕ Z)) → ArePositions classes positions
    → length positions ≡ length job.classes.representative → AreKept (task_of job 0 (λ _. true)
    (λ hits low high (kept : Vec ℕ Z). AreGroupsIn count hits low high kept.items)) classes rows
    → AreClassTests job positions rows
tests_of_classes {Z} job b count is classes positions rows placed long are = record {
  count = long;
  within = λ class lt.
      let at = there class lt in
      let low = slice_get_within classes (slice_index positions class) class at in
      let same = are.count in
      omega (arith, low, same);
  long = λ class row lt at. (own class row lt at).1.long ∙ is;
  each = λ class group word row lt at e.
      let x = own class row lt at in
      let h = x.0.1 in
      let lanes = x.1.each group word e in (
        h.0,
        h.1,
        λ k low. (
          λ on. (h.2 (128 * group + k)).0 ((lanes k low).0 on).2,
          λ d. (lanes k low).1 (
            omega arith,
            (let lt = place_within job.tests.tests (128 * group + k) d.0 d.1 in omega (arith, lt)),
            (h.2 (128 * group + k)).1 d,
          ),
        ),
      );
}
  where
    there : (class : ℕ) → class < length job.classes.representative
        → slice_get classes (slice_index positions class) ≡ Some class
    there class lt = placed.each class (omega (arith, lt, long))

    own : (class : ℕ) (row : Vec ℕ Z) → class < length job.classes.representative
        → slice_get rows (slice_index positions class) ≡ Some row
        → (hit : (hits : ℕ → Bool) × AreHits job class hits)
        × AreGroupsIn count hit.0 0 (64 * blocks (length job.tests.tests)) row.items
    own class row lt at =
        let h = some_hits job b class lt in
        (h, are.each h.0 (slice_index positions class) class row (there class lt) at h.1)
