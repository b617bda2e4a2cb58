use Rattle.std.proofs.Common.{ℕ}
use Rattle.dn_name.specs.Name.{Labels, IsName}
use Rattle.dn_name.specs.Turning.{Finishes, IsWithin, Meets, turns_left}
use Rattle.dn_name.specs.declared.error.NameError.{NameError}
use Rattle.dn_name.proofs.name.Name.read_wire.Given as goal

abbrev pub invariant-loop-next : goal.invariant-loop-next
invariant-loop-next l = record {
  goes : (name : Labels) (next : ℕ) → Finishes l.bytes l.walk name next → Finishes l.bytes l.initial.walk name next;
  only : (name : Labels) (next : ℕ) → Finishes l.bytes l.initial.walk name next → Finishes l.bytes l.walk name next;
  faults : (error : NameError) → Meets l.bytes l.walk error → Meets l.bytes l.initial.walk error;
  named : IsName l.walk.name;
  within : IsWithin l.bytes l.walk;
}

abbrev pub decreases-loop-next : goal.decreases-loop-next
decreases-loop-next l = turns_left l.walk
