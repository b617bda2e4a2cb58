-- Replication: what a replica asks of another, what it is sent, and what a zone takes of it.
use Rattle.std.specs.Prelude.{ℕ, min, Bool, true, nat_eq, if◌then◌else◌, List, [], ◌∷◌, filter, map, Option, None, Some}
use Rattle.dn_name.specs.Name.{Labels}
use Rattle.dn_stamp.specs.declared.stamp.ReplicaId.{ReplicaId}
use Rattle.dn_stamp.specs.Stamp.{is_id, is_newer}
use Rattle.dn_store.specs.declared.unit.Unit as units
use Rattle.dn_store.specs.declared.unit.Write.{Write}
use Rattle.dn_store.specs.Table.{TableState, run_after, unit_at, write_of}
use Rattle.dn_link.specs.declared.packet.Changes.{Changes}
use Rattle.dn_link.specs.declared.packet.Packet.{Packet}
use Rattle.dn_link.specs.declared.packet.Packet.TheVariants as packets
use Rattle.dn_link.specs.Sent.{changes_room}
use Rattle.dn_zone.specs.State.{ZoneState}

-- ---- cursors: up to which number of a supplier's changes a zone has taken

-- the cursor of a supplier, 0 where there is none
unfoldable pub cursor_of : ReplicaId → List (ReplicaId × ℕ) → ℕ
cursor_of supplier [] = 0
cursor_of supplier (entry ∷ cursors) = if is_id supplier entry.0 then entry.1 else cursor_of supplier cursors

-- the cursors with that of a supplier at a number: each supplier keeps its place, and a new one comes last
abbrev pub cursor_set : ReplicaId → ℕ → List (ReplicaId × ℕ) → List (ReplicaId × ℕ)
cursor_set supplier seen [] = (supplier, seen) ∷ []
cursor_set supplier seen (entry ∷ cursors) =
    if is_id supplier entry.0 then (entry.0, seen) ∷ cursors else entry ∷ cursor_set supplier seen cursors

-- the same where the cursor stands at the number already, so a cursor of 0 is never written down
unfoldable pub with_cursor : ReplicaId → ℕ → List (ReplicaId × ℕ) → List (ReplicaId × ℕ)
with_cursor supplier seen cursors = if nat_eq (cursor_of supplier cursors) seen then cursors else cursor_set supplier seen cursors

-- ---- which of two writes is newer

abbrev pub is_newer_than : Write → Option units.Unit → Bool
is_newer_than write None = true
is_newer_than write (Some unit) = is_newer write.stamp unit.stamp

-- The write has a greater stamp than the unit of its key here, or its key isn't here.
unfoldable pub wins : List units.Unit → Write → Bool
wins list write = is_newer_than write (unit_at write.key list)

-- those of the writes that win, in their order
unfoldable pub winners : List units.Unit → List Write → List Write
winners list writes = filter (wins list) writes

-- ---- what is sent

-- the changes of a table above a number, as many as there is room for
unfoldable pub changes_of : TableState → Labels → ReplicaId → ℕ → Changes
changes_of table apex id after =
    let from = min after table.1 in
    let run = run_after from changes_room table.1 table.0 in
    record { zone = apex; supplier = id; from = from; to = run.to; units = map write_of run.units }

-- what a zone asks of a supplier: its changes above the cursor
abbrev pub pull_of : ZoneState → ReplicaId → Packet
pull_of zone supplier = packets.Pull zone.apex zone.id (cursor_of supplier zone.cursors)
