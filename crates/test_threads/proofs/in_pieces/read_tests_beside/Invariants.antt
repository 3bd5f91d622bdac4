use Rattle.test_threads.specs.Pieces.{text_of}
use Rattle.test_threads.proofs.in_pieces.read_tests_beside.Given as goal

-- the text of the file: the bytes that were read, and those that are left
abbrev pub ghosts-read_in_turn : goal.ghosts-read_in_turn
ghosts-read_in_turn g a = record {
  text = text_of a.first.items (g.F.Read.remaining a.file);
  width = a.width;
}
