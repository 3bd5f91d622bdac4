use Rattle.std.proofs.Common.{◌≡◌, ◌++◌, length}
use Rattle.bench_net.specs.{reader.Parsed.names_of, NameText.{cut_names, AreEnds, AreTexts}}
use Rattle.bench_net.proofs.name_table.joined.Given as goal

abbrev pub invariant-loop-name : goal.invariant-loop-name
invariant-loop-name l =
    (cut_names l.text.items 0 l.ends.items ++ names_of l.name-iterator ≡ names_of l.names.keys)
    × AreEnds (length l.text.items) 0 l.ends.items
    × AreTexts (cut_names l.text.items 0 l.ends.items)
