use Rattle.std.proofs.Common.{◌-◌, ◌≤◌, length}
use Rattle.dn_message.specs.declared.additional.Seen.{Seen}
use Rattle.dn_message.specs.Reading.{Completes}
use Rattle.dn_message.proofs.additional.read_additional.Given as goal

abbrev pub invariant-loop : goal.invariant-loop
invariant-loop l = record {
  goes : (final : Seen) → Completes l.bytes (l.count - l.counter) l.place l.seen final → Completes l.bytes l.count l.at l.initial.seen final;
  only : (final : Seen) → Completes l.bytes l.count l.at l.initial.seen final → Completes l.bytes (l.count - l.counter) l.place l.seen final;
  within : l.place ≤ length l.bytes;
}
