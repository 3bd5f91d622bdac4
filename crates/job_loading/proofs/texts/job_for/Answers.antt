use Rattle.std.proofs.{Common.{◌<◌, inl, inr}, lemmas.Result.err_from_is_err_and}
use Rattle.patterns.specs.Tests.{max_pieces}
use Rattle.block_sim.specs.Parts.{Parts, piece_count}
use Rattle.job_loading.proofs.JobsOfTexts.{job_is, job_refused}
use Rattle.job_loading.proofs.texts.job_for.Goals as goal

pub new-requires : goal.new-requires
new-requires c =
    (job_is c.args.model c.args.circuit c.in_ok-faults.faults c.in_ok-classes.classes c.args.tests
    c.in_ok-faults.ensures c.in_ok-classes.ensures.classes c.requires).2

pub returns-clause-job : goal.returns-clause-job
returns-clause-job c = rw (c.in_ok-new.ensures.job)
    (job_is c.args.model c.args.circuit c.in_ok-faults.faults c.in_ok-classes.classes c.args.tests
    c.in_ok-faults.ensures c.in_ok-classes.ensures.classes c.requires)

pub returns-in_err-new-clause-refused : goal.returns-in_err-new-clause-refused
returns-in_err-new-clause-refused c =
    let p = err_from_is_err_and c.from_residual-in_err-new.result
    c.from_residual-in_err-new.ensures.1 in
    let job : Parts = record {
      circuit = c.args.circuit;
      list = c.in_ok-faults.faults;
      classes = c.in_ok-classes.classes;
      tests = c.args.tests;
    } in
    let is = job_is c.args.model c.args.circuit c.in_ok-faults.faults c.in_ok-classes.classes
    c.args.tests c.in_ok-faults.ensures c.in_ok-classes.ensures.classes c.requires in
    rw (p.1, p.2) (elim (job_refused Parts (max_pieces < piece_count job) c.in_err-new.field-0.0
    c.in_err-new.ensures.too_many) [ inl h ↦ inl h | inr h ↦ inr (job, is, h) ])
