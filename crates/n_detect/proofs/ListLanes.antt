-- The lanes of the classes of a list, from those of their rows.
use Rattle.std.proofs.Common.{◌≡◌, ◌∙◌, ℕ, List, ap, arith, length, subst, sym}
use Rattle.std.specs.Prelude.{Some, option_map, slice_get, unwrap_or}
use Rattle.std.proofs.lemmas.{List.length-map, Option.{slice_get-map, slice_get_within}}
use Rattle.list_lemmas.proofs.Places.{within_place}
use Rattle.flat_circuit.specs.declared.origin.ListedClass.{ListedClass}
use Rattle.block_sim.specs.Parts.{Parts}
use Rattle.region_sim.specs.ClassOrder.{AreRowsOf, classes_of}
use Rattle.n_detect.specs.ListLanes.{AreGroupLanes, AreListLanes, HaveGroupLanes}

same_value : {X : Type 0} {x y : X} → Some x ≡ Some y → x ≡ y
same_value {x = x} e = ap (λ o. unwrap_or o x) e

-- the row of the class at a place
row_at : (job : Parts) (listed : List ℕ) (rows : List ListedClass) (k class : ℕ)
    → AreRowsOf job listed rows → slice_get listed k ≡ Some class
    → (row : ListedClass) × (slice_get rows k ≡ Some row) × (row.class ≡ class)
row_at job listed rows k class are at =
    let own : slice_get (classes_of rows) k ≡ Some class =
    ap (λ (l : List ℕ). slice_get l k) are.same ∙ at in
    let low = slice_get_within (classes_of rows) k class own in
    let long = length-map rows (λ (row : ListedClass). row.class) in
    let row = within_place rows k (omega (arith, low, long)) in (
      row.0,
      row.1,
      same_value (sym (slice_get-map (λ (r : ListedClass). r.class) rows k
          ∙ ap (option_map (λ (r : ListedClass). r.class)) row.1) ∙ own),
    )

pub list_lanes_are : (job : Parts) (group : ℕ) (classes : List ℕ) (rows : List ListedClass)
    (words : List ℕ) → AreRowsOf job classes rows → length words ≡ length classes
    → HaveGroupLanes job group rows 0 (length rows) words → AreListLanes job group classes words
list_lanes_are job group classes rows words are count found = record {
  count = count;
  each = λ k class word own at.
      let row = row_at job classes rows k class are own in
      let h = found k row.0 (omega arith) (slice_get_within rows k row.0 row.1) row.1 in
      let same : h.0 ≡ word = same_value (sym h.1 ∙ at) in
      subst (λ w. AreGroupLanes job group class w) same
      (subst (λ n. AreGroupLanes job group n h.0) row.2 h.2);
}
