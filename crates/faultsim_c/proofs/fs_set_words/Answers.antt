use Rattle.std.proofs.Common.{rules, sym, ◌∙◌, length}
use Rattle.bench_net.specs.Scan.{sources}
use Rattle.faultsim_c.{specs.Statuses.IsWordsReply, proofs.Replies.{words_refused, words_shared}}
use Rattle.faultsim_c.proofs.fs_set_words.Goals as goal

pub returns-in-Err-clause-refused : goal.returns-in-Err-clause-refused
returns-in-Err-clause-refused c three =
    let h = c.in-Some.holding.value in
    let width = length (sources h.session.circuit) in
    let reply : IsWordsReply h.alone width c.args.count c.args.words.now c.in-Err.refusal =
    search rules in
    let why = words_refused h.alone width c.args.count c.args.words.now c.in-Err.refusal
    c.tell.new.fault reply (sym c.tell.ensures.status ∙ three) (c.tell.ensures.fault three) in
    (h.session, why.0, c.in-Some.ensures.job, why.1, why.2)

pub returns-in-Err-clause-shared : goal.returns-in-Err-clause-shared
returns-in-Err-clause-shared c five =
    let h = c.in-Some.holding.value in
    let width = length (sources h.session.circuit) in
    let reply : IsWordsReply h.alone width c.args.count c.args.words.now c.in-Err.refusal =
    search rules in
    let no = words_shared h.alone width c.args.count c.args.words.now c.in-Err.refusal reply
    (sym c.tell.ensures.status ∙ five) in
    (h, c.in-Some.ensures.some, no)
