use Rattle.std.proofs.Common.{◌-◌, ◌≤◌, length}
use Rattle.dn_message.specs.Reply.{IsQuestion}
use Rattle.dn_message.proofs.EntryLemmas.{Completing}
use Rattle.dn_message.proofs.questions.read_questions.Given as goal

abbrev pub invariant-loop : goal.invariant-loop
invariant-loop l = record {
  so_far : Completing (IsQuestion l.bytes) l.count l.at l.questions (l.count - l.counter) l.place;
  within : l.place ≤ length l.bytes;
}
