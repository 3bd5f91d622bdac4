-- The box of a handle's contents, and the rows of a holder of its pointer.
use mathlib.Core.List.{[]}
use mir.Syntax.{impl, tnil, dnil}
use denote.{Signature.{Slot, plain}, Struct.Owning.{Owning, row}}
use Rattle.std.proofs.alloc.Calls.{Al}
use Rattle.std_heap.specs.contracts.Global as heap
use Rattle.std_heap.specs.contracts.GlobalAllocator.TheImpl.{ghosts, dict}
use Rattle.std_heap.proofs.Global.TheLaws as heap_laws
use Rattle.faultsim_c.specs.contracts.holding.Holding as holding
use Rattle.faultsim_c.specs.contracts.taken.Taken as taken
use Rattle.faultsim_c.specs.contracts.held.Held as held

-- the C library's allocator
abbrev pub heap_of_c : Al
heap_of_c = record {
  row = heap.the_row;
  laws = heap_laws.the_row_laws;
  g = ghosts;
  d = dict;
  drops
      = impl [] tnil dnil;
}

abbrev pub handle : Slot 0
handle = plain (λ _. heap.the_row)

abbrev pub taken_type : Owning
taken_type = taken.the_type holding.the_row heap.the_row ghosts

abbrev pub taken_holding : Slot 0
taken_holding = plain (λ _. row taken_type)

abbrev pub held_handle : Slot 0
held_handle = plain (λ _. held.the_row)
