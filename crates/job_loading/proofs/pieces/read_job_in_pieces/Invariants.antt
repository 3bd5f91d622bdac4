use Rattle.job_loading.proofs.pieces.read_job_in_pieces.Given as goal

-- the text of the file is what is left to read, and it is summed if that is requested
abbrev pub ghosts-read_summed : goal.ghosts-read_summed
ghosts-read_summed g a = record { text = g.F.Read.remaining a.file; summed = a.is_summed }
