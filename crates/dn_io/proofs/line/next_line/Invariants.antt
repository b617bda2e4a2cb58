use Rattle.std.proofs.Common.{◌≡◌, ◌-◌, vec_len}
use Rattle.dn_io.specs.Reading.{Fills}
use Rattle.dn_io.proofs.line.next_line.Given as goal

abbrev pub invariant-loop-text : goal.invariant-loop-text
invariant-loop-text g l = record {
  fills : Fills l.initial.held.items l.held.items (g.S.Source.left l.initial.source) (g.S.Source.left l.source);
  taken : l.taken ≡ l.initial.taken;
  same : g.S.Source.faults l.source ≡ g.S.Source.faults l.initial.source;
}

abbrev pub decreases-loop-text : goal.decreases-loop-text
decreases-loop-text g l = 200001 - vec_len l.held
