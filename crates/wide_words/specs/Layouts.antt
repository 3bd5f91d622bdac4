-- The layouts of the kinds of copies.
use Rattle.std.specs.Prelude.{ℕ, zero, suc}
use Rattle.std.proofs.Common.{refl, inl, inr, lit≤}
use Rattle.wide_words.specs.Lanes.{IsLayout, Layout}

abbrev pub low_layout : Layout
low_layout = record { base = 0; size = 64 }

abbrev pub high_layout : Layout
high_layout = record { base = 64; size = 64 }

abbrev pub both_layout : Layout
both_layout = record { base = 0; size = 128 }

pub low_sized : IsLayout low_layout
low_sized = record { whole = inl refl; within = lit≤ tt }

pub high_sized : IsLayout high_layout
high_sized = record { whole = inl refl; within = lit≤ tt }

pub both_sized : IsLayout both_layout
both_sized = record { whole = inr refl; within = lit≤ tt }

-- of four things, that of a slot; past the fourth slot the fourth
abbrev pub one_of : {X : Type 0} → X → X → X → X → ℕ → X
one_of first second third fourth zero = first
one_of first second third fourth (suc zero) = second
one_of first second third fourth (suc (suc zero)) = third
one_of first second third fourth (suc (suc (suc slot))) = fourth
