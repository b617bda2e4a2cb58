use Rattle.std.proofs.Common.{◌≡◌, ◌∙◌, ap, map, refl, subst}
use Rattle.std.proofs.lemmas.Result.{IfOk-weaker}
use Rattle.std.specs.Prelude.{IsTrue}
use Rattle.std.specs.List.{AllByRecursion}
use Rattle.dn_pages.specs.Pages.{items}
use Rattle.dn_store.specs.Run.{IsRun}
use Rattle.dn_store.specs.Table.{KeysDiffer, TableState, run_after, write_of}
use Rattle.dn_store.specs.Value.{fits}
use Rattle.dn_store.proofs.FrontingLemmas.{numbered_run}
use Rattle.dn_store.proofs.NumberingLemmas.{rising_paged}
use Rattle.dn_store.proofs.RunLemmas.{run_differ, run_fit, run_is, run_seen}
use Rattle.dn_store.proofs.table.Table.changes_after.Goals as goal

pub run_of-requires : goal.run_of-requires
run_of-requires c = rising_paged (items c.self.inside.units) (items c.self.inside.changes) c.self.invariant.table.differ c.self.invariant.indexed

pub returns-clause-run : goal.returns-clause-run
returns-clause-run c =
    IfOk-weaker c.run_of.result (λ run. run ≡ run_after c.args.usn c.args.room c.self.inside.top (items c.self.inside.units))
    (λ run. run ≡ run_after c.args.usn c.args.room c.args.self.now.1 c.args.self.now.0)
    (λ run is. is ∙ ap (λ (table : TableState). run_after c.args.usn c.args.room table.1 table.0) c.self.view_is)
    (numbered_run c.args.usn c.args.room c.self.inside.top (items c.self.inside.units) (items c.self.inside.changes) c.run_of.result c.self.invariant.indexed c.run_of.ensures)

pub returns-clause-longest : goal.returns-clause-longest
returns-clause-longest c =
    run_seen (IsRun c.args.usn c.args.room c.args.self.now.1 c.args.self.now.0) c.args.usn c.args.room c.self.inside.top (items c.self.inside.units) (items c.self.inside.units) c.run_of.result
    (numbered_run c.args.usn c.args.room c.self.inside.top (items c.self.inside.units) (items c.self.inside.changes) c.run_of.result c.self.invariant.indexed c.run_of.ensures) refl
    (subst (λ (table : TableState). IsRun c.args.usn c.args.room table.1 table.0 (run_after c.args.usn c.args.room c.self.inside.top (items c.self.inside.units))) c.self.view_is
    (run_is c.args.usn c.args.room c.self.inside.top (items c.self.inside.units) c.self.invariant.table.differ))

pub returns-clause-differ : goal.returns-clause-differ
returns-clause-differ c =
    run_seen (λ run. KeysDiffer (map write_of run.units)) c.args.usn c.args.room c.self.inside.top (items c.self.inside.units) (items c.self.inside.units) c.run_of.result
    (numbered_run c.args.usn c.args.room c.self.inside.top (items c.self.inside.units) (items c.self.inside.changes) c.run_of.result c.self.invariant.indexed c.run_of.ensures) refl
    (run_differ c.args.usn c.args.room c.self.inside.top (items c.self.inside.units) c.self.invariant.table.ordered)

pub returns-clause-fit : goal.returns-clause-fit
returns-clause-fit c =
    run_seen (λ run. AllByRecursion (λ write. IsTrue (fits write.value)) (map write_of run.units)) c.args.usn c.args.room c.self.inside.top (items c.self.inside.units) (items c.self.inside.units) c.run_of.result
    (numbered_run c.args.usn c.args.room c.self.inside.top (items c.self.inside.units) (items c.self.inside.changes) c.run_of.result c.self.invariant.indexed c.run_of.ensures) refl
    (run_fit c.args.usn c.args.room c.self.inside.top (items c.self.inside.units) c.self.invariant.table.fitting)
