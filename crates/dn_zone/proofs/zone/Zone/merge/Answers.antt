use Rattle.std.proofs.Common.{rules, ◌≡◌, ◌+◌, ◌≤◌, false, nat_lt, length, arith, subst}
use Rattle.dn_store.specs.Table.{change_limit}
use Rattle.dn_link.specs.declared.packet.Changes.{Changes}
use Rattle.dn_zone.specs.declared.event.Answer.TheVariants as answers
use Rattle.dn_link.specs.Sent.{units_limit}
use Rattle.dn_zone.specs.Joins.{Joins}
use Rattle.dn_zone.specs.Merge.{cursor_of}
use Rattle.dn_zone.specs.State.{ZoneState}
use Rattle.dn_zone.specs.Zone.{merge_step}
use Rattle.dn_zone.proofs.JoinLemmas.{joins_seen}
use Rattle.dn_zone.proofs.KeptLemmas.{kept_seen}
use Rattle.dn_zone.proofs.WinnerLemmas.{won_taken}
use Rattle.dn_zone.proofs.zone.Zone.merge.Goals as goal

pub after_merge-requires-clause-keys : goal.after_merge-requires-clause-keys
after_merge-requires-clause-keys c =
    (won_taken c.args.self.now.table.0 c.changes.inside.units c.as_slice.result.now c.in_ok-won.won c.changes.invariant c.as_slice.ensures c.in_ok-won.ensures).keys

pub after_merge-requires-clause-values : goal.after_merge-requires-clause-values
after_merge-requires-clause-values c =
    (won_taken c.args.self.now.table.0 c.changes.inside.units c.as_slice.result.now c.in_ok-won.won c.changes.invariant c.as_slice.ensures c.in_ok-won.ensures).values

pub overflow_cast-count : goal.overflow_cast-count
overflow_cast-count c =
    let most : length c.in_ok-won.won ≤ units_limit =
    (won_taken c.args.self.now.table.0 c.changes.inside.units c.as_slice.result.now c.in_ok-won.won c.changes.invariant c.as_slice.ensures c.in_ok-won.ensures).count in
    omega arith

pub returns-clause-joins : goal.returns-clause-joins
returns-clause-joins c =
    subst (λ (changes : Changes). Joins changes.units c.args.self.now.table.0 c.in_ok-after.after.table.0) c.changes.view_is
    (joins_seen c.args.self.now.table.0 c.in_ok-after.after.table.0 c.changes.inside.units c.as_slice.result.now c.in_ok-won.won c.changes.invariant.keys
    c.as_slice.ensures c.in_ok-won.ensures c.in_ok-after.ensures.written c.in_ok-after.ensures.others)

pub returns-then-changes-cursor-clause-step : goal.returns-then-changes-cursor-clause-step
returns-then-changes-cursor-clause-step c =
    let sent = c.changes.inside in
    let whole : nat_lt c.of-cursor.result sent.from ≡ false = search rules in
    let none : length c.in_ok-won.won ≡ 0 = search rules in
    let room : nat_lt change_limit (c.args.self.now.table.1 + length c.in_ok-won.won) ≡ false = search rules in
    let within : sent.to ≤ c.of-cursor.result = search rules in
    let found : c.of-cursor.result ≡ cursor_of sent.supplier c.args.self.now.cursors =
    subst (λ (zone : ZoneState). c.of-cursor.result ≡ cursor_of sent.supplier zone.cursors) c.self.view_is c.of-cursor.ensures in
    subst (λ (changes : Changes). merge_step c.args.self.now changes ≡ (c.args.self.now, answers.Merged 0)) c.changes.view_is
    (kept_seen c.args.self.now (record { zone = sent.zone; supplier = sent.supplier; from = sent.from; to = sent.to; units = sent.units }) c.of-cursor.result
    c.as_slice.result.now c.in_ok-won.won found whole c.as_slice.ensures c.in_ok-won.ensures none room within)
