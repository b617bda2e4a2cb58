use Rattle.std.proofs.Common.{◌≡◌, [], length}
use Rattle.dn_io.specs.Reading.{Appended}
use Rattle.dn_io.proofs.outside.write_all.Given as goal

abbrev pub invariant-loop-rest : goal.invariant-loop-rest
invariant-loop-rest g l = record {
  appended : Appended (g.K.Sink.written l.initial.sink) (g.K.Sink.written l.sink) l.fn.bytes l.rest;
  same : g.K.Sink.faults l.sink ≡ g.K.Sink.faults l.initial.sink;
  nothing : l.fn.bytes ≡ [] → l.sink ≡ l.initial.sink;
}

abbrev pub decreases-loop-rest : goal.decreases-loop-rest
decreases-loop-rest g l = length l.rest
