use Rattle.std.proofs.Common.{◌≡◌, ◌+◌, ◌-◌, ℕ, List, arith, subst, sym}
use Rattle.std.proofs.lemmas.Result.{err_from_is_err_and}
use Rattle.dn_message.specs.declared.rr.Rr.{Rr}
use Rattle.dn_message.specs.Record.{IsRr, typed_data}
use Rattle.dn_message.specs.ReplyReading.{AreEntries}
use Rattle.dn_message.proofs.EntryLemmas.{Completing, all_read, none_read, one_read, refused}
use Rattle.dn_message.proofs.row.read_rows.Goals as goal

pub returns-in_err-row-clause-exact : goal.returns-in_err-row-clause-exact
returns-in_err-row-clause-exact c =
    let p = err_from_is_err_and c.from_residual.result c.from_residual.ensures.1 in
    let more : c.args.count - c.loop.counter ≡ (c.args.count - (c.loop.counter + 1)) + 1 = omega arith in
    let Is = IsRr typed_data c.args.bytes.now in
    rw (p.1, p.2) (refused (λ (found : Rr × ℕ). Is c.loop.place found.0 found.1) (λ (found : List Rr × ℕ). AreEntries Is c.args.count c.args.at found.0 found.1)
    c.in_err-row.field-0.0 c.in_err-row.ensures.exact
    (none_read Is c.args.count c.args.at c.loop.rows _ c.loop.place
    (subst (λ n. Completing Is c.args.count c.args.at c.loop.rows n c.loop.place) more c.loop.invariant.so_far)))

pub loop-preserved : goal.loop-preserved
loop-preserved c =
    let more : c.args.count - c.loop.counter ≡ (c.args.count - (c.loop.counter + 1)) + 1 = omega arith in
    let Is = IsRr typed_data c.args.bytes.now in
    let read = c.in_ok-row.ensures.exact in
    record {
      so_far = subst (λ xs. Completing Is c.args.count c.args.at xs (c.args.count - (c.loop.counter + 1)) c.in_ok-row.next) (sym c.in_ok-push.ensures.ok)
          (one_read Is c.args.count c.args.at c.loop.rows _ c.loop.place
          (subst (λ n. Completing Is c.args.count c.args.at c.loop.rows n c.loop.place) more c.loop.invariant.so_far) c.in_ok-row.row c.in_ok-row.next read.0 read.1);
      within = c.in_ok-row.ensures.within;
    }

pub returns-clause-exact : goal.returns-clause-exact
returns-clause-exact c = all_read (IsRr typed_data c.args.bytes.now) c.args.count c.args.at _ c.loop.place c.loop.rows (omega arith) c.loop.invariant.so_far
