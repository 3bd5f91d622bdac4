use Rattle.std.proofs.Common.{◌≡◌, ◌∙◌, ap, false, length, replicate, rules, true}
use Rattle.std.proofs.lemmas.List.{length-replicate}
use Rattle.bench_net.specs.Scan.{names}
use Rattle.undetected.proofs.AddedWindows.{none_below}
use Rattle.undetected.proofs.activations.Activations.none.Goals as goal

pub returns : goal.returns
returns c = λ job same.
    let signals = c.signals-signals.result in
    let zero : c.in_ok-at_zero.at_zero.items ≡ replicate signals false =
    c.in_ok-at_zero.ensures.items_if_clones_equal (λ y is. search rules) in
    let one : c.in_ok-at_one.at_one.items ≡ replicate signals false =
    c.in_ok-at_one.ensures.items_if_clones_equal (λ y is. search rules) in
    let count : signals ≡ length (names job.circuit) = c.signals-signals.ensures.count
    ∙ ap (λ x. length (names x)) same in
    let long = length-replicate signals false ∙ count in
    record {
      zero_room = ap length zero ∙ long;
      one_room = ap length one ∙ long;
      at_zero = none_below job false signals c.in_ok-at_zero.at_zero.items zero;
      at_one = none_below job true signals c.in_ok-at_one.at_one.items one;
    }
