use Rattle.std.{proofs.Common.{◌≡◌, ◌∙◌, Some, ap, arith, length}, specs.Prelude.slice_get}
use Rattle.std.proofs.lemmas.{List.length-set, Option.{slice_get-get_or, slice_get_within}}
use Rattle.fault_model.specs.Fault.{Fault, FaultList}
use Rattle.faultsim_c.{specs.Circuits.{no_site, site_of}, proofs.Tables.next_of}
use Rattle.faultsim_c.proofs.circuit.fill_sites.Goals as goal

pub loop-fault-preserved : goal.loop-fault-preserved
loop-fault-preserved c =
    let job = c.args.job.now in
    let sites = c.loop-fault.sites in
    let fault = c.loop-fault.fault in
    let r = c.site_of.result in
    let same = c.loop-fault.invariant.0 in
    let low = c.loop-fault-test.true in
    let end = c.count-fault-end.ensures in
    let part = ap (λ (x : FaultList). length x.list) c.faults.ensures.part in
    let fit = c.requires in (
      length-set sites fault r ∙ same,
      next_of no_site (λ k site. (f : Fault) → slice_get job.list.list k ≡ Some f
          → site ≡ site_of f) fault r sites
          (omega (arith, same, low, end, part, fit)) c.site_of.ensures c.loop-fault.invariant.1,
    )

pub returns : goal.returns
returns c =
    let job = c.args.job.now in
    let sites = c.loop-fault.sites in
    let same = c.loop-fault.invariant.0 in
    let high = c.loop-fault-test.false in
    let end = c.count-fault-end.ensures in
    let part = ap (λ (x : FaultList). length x.list) c.faults.ensures.part in
    let fit = c.requires in
    λ i f own.
    let within = slice_get_within job.list.list i f own in
    slice_get-get_or sites i no_site (omega (arith, within, same, fit))
    ∙ ap Some (c.loop-fault.invariant.1 i (omega (arith, within, high, end, part)) f own)
