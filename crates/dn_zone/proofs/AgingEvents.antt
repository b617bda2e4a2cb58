-- Each event of a zone keeps what its passes rest on, and a step of a pass takes away stale records alone.
use Rattle.std.proofs.Common.{◌≡◌, ℕ, ◌+◌, ◌≤◌, Bool, true, false, cond, List, [], ◌∷◌, length, nat_lt, Option, None, Some, refl, subst}
use Rattle.std.proofs.lemmas.Bool.{ltb-false}
use Rattle.std.specs.List.{list_all}
use Rattle.dn_io.specs.Moments.{hour_of, seconds_of}
use Rattle.dn_name.specs.Name.{is_under}
use Rattle.dn_property.specs.Rules.{rules_of}
use Rattle.dn_stamp.specs.declared.stamp.ReplicaId.{ReplicaId}
use Rattle.dn_rdata.specs.Record.{made}
use Rattle.dn_store.specs.declared.unit.Unit as units
use Rattle.dn_store.specs.declared.unit.Write.{Write}
use Rattle.dn_store.specs.Contents.{properties_of}
use Rattle.dn_store.specs.Table.{TableState, change_limit, units_after}
use Rattle.dn_store.specs.Value.{fits}
use Rattle.dn_update.specs.Writes.{Outcome, Wanted, stamped, when_stamped, with_writes, written}
use Rattle.dn_pass.specs.declared.pass.Pass.{Pass}
use Rattle.dn_link.specs.declared.packet.Changes.{Changes}
use Rattle.dn_zone.specs.declared.event.AdminCmd.{AdminCmd}
use Rattle.dn_zone.specs.declared.event.AdminCmd.TheVariants.{Add, AgingOn, AgingOff, NoRefresh, Refresh}
use Rattle.dn_zone.specs.declared.event.Answer.{Answer}
use Rattle.dn_zone.specs.State.{ZoneState}
use Rattle.dn_zone.specs.Aging.{Given}
use Rattle.dn_zone.specs.Merge.{cursor_of, winners}
use Rattle.dn_zone.specs.Settings.{settings_of}
use Rattle.dn_zone.specs.Zone.{add_wanted, admin_step, merge_step, merged, after_merge, set_step, settings_wanted, with_table}
use Rattle.dn_zone.proofs.AgingSound.{IsSound, RunsSound, sound_after}
use Rattle.dn_zone.proofs.OwnWrites.{GivenSound, given_taken}

abbrev pub Both : Given → List units.Unit → ℕ → Option Pass → Type 0
Both given list top pass = IsSound list top pass × GivenSound list top pass given

-- ---- commands and merges

running_start : (list : List units.Unit) (top : ℕ) (pass : Option Pass) → IsSound list top pass → (running : Pass) → pass ≡ Some running → running.start ≤ top
running_start list top pass sound running is =
    let runs : RunsSound list top running = (subst (λ (one : Option Pass). IsSound list top one) is sound).passing in
    runs.start

both_taken : (given : Given) (list : List units.Unit) (top : ℕ) (pass : Option Pass) (writes : List Write) → top + length writes ≤ change_limit → Both given list top pass
    → Both given (units_after list top writes) (top + length writes) pass
both_taken given list top pass writes within both =
    (sound_after list top pass writes within both.0, given_taken list top writes given pass both.0.units (running_start list top pass both.0) both.1)

unless_full : (full : Bool) (given : Given) (table : TableState) (pass : Option Pass) (writes : List Write) (one other : Outcome)
    → nat_lt change_limit (table.1 + length writes) ≡ full → Both given table.0 table.1 pass
    → let after = cond {A = TableState × Outcome} full (table, one) (with_writes writes table, other) in Both given after.0.0 after.0.1 pass
unless_full true given table pass writes one other is both = both
unless_full false given table pass writes one other is both =
    both_taken given table.0 table.1 pass writes (ltb-false change_limit (table.1 + length writes) is) both

when_both : (given : Given) (table : TableState) (pass : Option Pass) (writes : Option (List Write)) → Both given table.0 table.1 pass
    → Both given (when_stamped table writes).0.0 (when_stamped table writes).0.1 pass
when_both given table pass None both = both
when_both given table pass (Some []) both = both
when_both given table pass (Some (first ∷ rest)) both = unless_full (nat_lt change_limit (table.1 + length (first ∷ rest))) given table pass (first ∷ rest) _ _ refl both

fitting_both : (fit : Bool) (given : Given) (table : TableState) (pass : Option Pass) (writes : Option (List Write)) (other : Outcome) → Both given table.0 table.1 pass
    → let after = cond {A = TableState × Outcome} fit (when_stamped table writes) (table, other) in Both given after.0.0 after.0.1 pass
fitting_both true given table pass writes other both = when_both given table pass writes both
fitting_both false given table pass writes other both = both

written_both : (given : Given) (wanted : List Wanted) (id : ReplicaId) (ticks : ℕ) (table : TableState) (pass : Option Pass) → Both given table.0 table.1 pass
    → Both given (written wanted id ticks table).0.0 (written wanted id ticks table).0.1 pass
unfolding written
written_both given wanted id ticks table pass both =
    fitting_both (list_all (λ one. fits one.value) wanted) given table pass (stamped table.0 id (seconds_of ticks) wanted) _ both

abbrev pub BothZone : Given → ZoneState → Type 0
BothZone given zone = Both given zone.table.0 zone.table.1 zone.pass

set_both : (given : Given) (zone : ZoneState) (cmd : AdminCmd) (moment : ℕ) → BothZone given zone → BothZone given (set_step zone cmd moment).0
unfolding set_step
set_both given zone cmd moment both =
    written_both given (settings_wanted (properties_of zone.table.0) (settings_of cmd (rules_of (properties_of zone.table.0)) (hour_of moment))) zone.id moment zone.table zone.pass both

under_both : (under : Bool) (given : Given) (zone : ZoneState) (wanted : List Wanted) (moment : ℕ) (other : Answer) → BothZone given zone
    → BothZone given (cond {A = ZoneState × Answer} under (with_table zone (written wanted zone.id moment zone.table)) (zone, other)).0
under_both true given zone wanted moment other both = written_both given wanted zone.id moment zone.table zone.pass both
under_both false given zone wanted moment other both = both

pub admin_both : (given : Given) (zone : ZoneState) (cmd : AdminCmd) (moment : ℕ) → BothZone given zone → BothZone given (admin_step zone cmd moment).0
unfolding admin_step
admin_both given zone (Add name ttl rtype rdata hour) moment both =
    under_both (is_under name zone.apex) given zone (add_wanted zone name (made rtype ttl hour rdata) moment) moment _ both
admin_both given zone AgingOn moment both = set_both given zone AgingOn moment both
admin_both given zone AgingOff moment both = set_both given zone AgingOff moment both
admin_both given zone (NoRefresh hours) moment both = set_both given zone (NoRefresh hours) moment both
admin_both given zone (Refresh hours) moment both = set_both given zone (Refresh hours) moment both

merged_both : (full : Bool) (given : Given) (zone : ZoneState) (changes : Changes) (won : List Write) (one other : Answer)
    → nat_lt change_limit (zone.table.1 + length won) ≡ full → BothZone given zone → BothZone given (cond {A = ZoneState × Answer} full (zone, one) (after_merge zone changes won, other)).0
merged_both true given zone changes won one other is both = both
merged_both false given zone changes won one other is both =
    both_taken given zone.table.0 zone.table.1 zone.pass won (ltb-false change_limit (zone.table.1 + length won) is) both

gap_both : (gap : Bool) (given : Given) (zone : ZoneState) (changes : Changes) (won : List Write) (answer : Answer) → BothZone given zone
    → BothZone given (cond {A = ZoneState × Answer} gap (zone, answer) (merged zone changes won)).0
gap_both true given zone changes won answer both = both
gap_both false given zone changes won answer both = merged_both (nat_lt change_limit (zone.table.1 + length won)) given zone changes won _ _ refl both

pub merge_both : (given : Given) (zone : ZoneState) (changes : Changes) → BothZone given zone → BothZone given (merge_step zone changes).0
unfolding merge_step
merge_both given zone changes both =
    gap_both (nat_lt (cursor_of changes.supplier zone.cursors) changes.from) given zone changes (winners zone.table.0 changes.units) _ both
