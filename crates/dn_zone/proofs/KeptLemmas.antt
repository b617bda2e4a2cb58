-- A merge of which no unit wins and after which the cursor is what it was leaves the zone as it is.
use Rattle.std.proofs.Common.{◌≡◌, ℕ, ◌+◌, ◌≤◌, Bool, false, cond, List, [], length, max, nat_lt, sym, ap, subst, ◌∙◌, arith}
use Rattle.std.proofs.lemmas.List.{nil_from_length}
use Rattle.dn_stamp.specs.declared.stamp.ReplicaId.{ReplicaId}
use Rattle.dn_store.specs.declared.unit.Write.{Write}
use Rattle.dn_store.specs.Table.{change_limit}
use Rattle.dn_update.specs.declared.plan.Limit.TheVariants as limits
use Rattle.dn_link.specs.declared.packet.Changes.{Changes}
use Rattle.dn_zone.specs.declared.event.Answer.{Answer}
use Rattle.dn_zone.specs.declared.event.Answer.TheVariants as answers
use Rattle.dn_zone.specs.State.{ZoneState}
use Rattle.dn_zone.specs.Merge.{cursor_of, winners, with_cursor}
use Rattle.dn_zone.specs.Zone.{after_merge, merge_step, merged}
use Rattle.dn_zone.proofs.CursorLemmas.{cursor_kept}

more_none : (top : ℕ) → top + 0 ≡ top
more_none top = omega arith

larger : (cursor to : ℕ) → to ≤ cursor → max cursor to ≡ cursor
larger cursor to within = omega arith

zone_kept : (zone : ZoneState) (changes : Changes) → changes.to ≤ cursor_of changes.supplier zone.cursors → after_merge zone changes [] ≡ zone
zone_kept zone changes within =
    let cursor : ℕ = cursor_of changes.supplier zone.cursors in
    ap (λ (top : ℕ). record zone { table = (zone.table.0, top); cursors = with_cursor changes.supplier (max cursor changes.to) zone.cursors }) (more_none zone.table.1)
    ∙ ap (λ (seen : ℕ). record zone { cursors = with_cursor changes.supplier seen zone.cursors }) (larger cursor changes.to within)
    ∙ ap (λ (cursors : List (ReplicaId × ℕ)). record zone { cursors = cursors }) (cursor_kept zone.cursors changes.supplier)

pub merge_kept : (zone : ZoneState) (changes : Changes) → nat_lt (cursor_of changes.supplier zone.cursors) changes.from ≡ false → winners zone.table.0 changes.units ≡ []
    → nat_lt change_limit (zone.table.1 + 0) ≡ false → changes.to ≤ cursor_of changes.supplier zone.cursors → merge_step zone changes ≡ (zone, answers.Merged 0)
unfolding merge_step
merge_kept zone changes whole none room within =
    let cursor : ℕ = cursor_of changes.supplier zone.cursors in
    let gap : ZoneState × Answer = (zone, answers.Gap cursor changes.from) in
    let full : ZoneState × Answer = (zone, answers.Refused limits.Changes) in
    ap (λ (test : Bool). cond {A = ZoneState × Answer} test gap (merged zone changes (winners zone.table.0 changes.units))) whole
    ∙ ap (merged zone changes) none
    ∙ ap (λ (test : Bool). cond {A = ZoneState × Answer} test full (after_merge zone changes [], answers.Merged 0)) room
    ∙ ap (λ (kept : ZoneState). (kept, answers.Merged 0)) (zone_kept zone changes within)

-- the same, for writes as a call saw them
pub kept_seen : (zone : ZoneState) (changes : Changes) (cursor : ℕ) (seen won : List Write) → cursor ≡ cursor_of changes.supplier zone.cursors → nat_lt cursor changes.from ≡ false
    → seen ≡ changes.units → won ≡ winners zone.table.0 seen → length won ≡ 0 → nat_lt change_limit (zone.table.1 + length won) ≡ false → changes.to ≤ cursor
    → merge_step zone changes ≡ (zone, answers.Merged 0)
kept_seen zone changes cursor seen won is whole same are none room within =
    merge_kept zone changes (ap (λ (number : ℕ). nat_lt number changes.from) (sym is) ∙ whole) (ap (winners zone.table.0) (sym same) ∙ sym are ∙ nil_from_length won none)
    (ap (λ (count : ℕ). nat_lt change_limit (zone.table.1 + count)) (sym none) ∙ room) (subst (λ (number : ℕ). changes.to ≤ number) is within)
