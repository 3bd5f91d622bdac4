use Rattle.std.proofs.Common.{◌≡◌, ◌∙◌, ℕ, List, [], ◌∷◌, ◌++◌, ap, arith, length, map, refl, subst}
use Rattle.std.{proofs.Common.{sym, Vec, Global}, specs.Prelude.All}
use Rattle.std.proofs.lemmas.List.{length-append, length-map, Elements.All-nil}
use Rattle.blocking_pins.proofs.{VecRows.{all_pushed, rows_of}, SignalReaders.readers_none}
use Rattle.blocking_pins.proofs.readers.no_readers.Goals as goal

pub loop-place-init : goal.loop-place-init
loop-place-init c =
    let none = c.in_ok-readers.ensures.items in
    record {
      count = ap length none;
      empty = subst (λ l. All (λ row. row ≡ []) (rows_of l)) (sym none)
          (All-nil (λ (row : List ℕ). row ≡ []));
    }

pub loop-place-preserved : goal.loop-place-preserved
loop-place-preserved c =
    let items = c.in_ok-push.ensures.items in
    let long = length-append c.loop-place.readers.items (c.new.result ∷ []) in
    record {
      count = ap length items ∙ omega (arith, long, c.loop-place.invariant.count);
      empty = subst (λ l. All (λ row. row ≡ []) (rows_of l)) (sym items)
          (all_pushed (λ row. row ≡ []) c.loop-place.readers.items c.new.result
          c.loop-place.invariant.empty c.new.ensures.items);
    }

pub returns : goal.returns
returns c =
    let long = length-map c.loop-place.readers.items (λ (row : Vec ℕ Global). row.items) in
    readers_none c.args.circuit.now.arranged (rows_of c.loop-place.readers.items) (omega (
      arith,
      long,
      c.loop-place.invariant.count,
      c.loop-place-test.false,
      c.loop-place.auto._place-end,
      c.signals-place-end.ensures.count,
    )) c.loop-place.invariant.empty
