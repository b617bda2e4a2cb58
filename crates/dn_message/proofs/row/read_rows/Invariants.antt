use Rattle.std.proofs.Common.{◌-◌, ◌≤◌, length}
use Rattle.dn_message.specs.Record.{IsRr, typed_data}
use Rattle.dn_message.proofs.EntryLemmas.{Completing}
use Rattle.dn_message.proofs.row.read_rows.Given as goal

abbrev pub invariant-loop : goal.invariant-loop
invariant-loop l = record {
  so_far : Completing (IsRr typed_data l.bytes) l.count l.at l.rows (l.count - l.counter) l.place;
  within : l.place ≤ length l.bytes;
}
