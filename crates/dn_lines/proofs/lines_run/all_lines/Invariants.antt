use Rattle.std.proofs.Common.{◌≡◌, ◌+◌, ◌-◌, ◌^◌, ◌≤◌, None}
use Rattle.dn_io.specs.Outside.{WhereTold}
use Rattle.dn_lines.specs.Said.Turns.{EndedAhead, GoesOn}
use Rattle.dn_lines.proofs.lines_run.all_lines.Given as goal

abbrev pub invariant-loop-number : goal.invariant-loop-number
invariant-loop-number g l = record {
  kept : l.lines.kept ≡ None;
  ready : g.C.LineCommand.ready l.command;
  number : l.number ≤ l.lines.taken + 1;
  taken : l.lines.taken ≤ 2 ^ 30;
  ended : WhereTold (g.S.Source.left l.fn.source) (g.S.Source.left l.source) (λ before now.
      GoesOn (EndedAhead g.C.LineCommand.gives l.fn.command 1 l.fn.lines before) (g.K.Sink.written l.fn.sink)
      (EndedAhead g.C.LineCommand.gives l.command l.number l.lines now) (g.K.Sink.written l.sink));
  reads : g.S.Source.faults l.fn.source ≤ g.S.Source.faults l.source;
  writes : g.K.Sink.faults l.fn.sink ≤ g.K.Sink.faults l.sink;
}

abbrev pub decreases-loop-number : goal.decreases-loop-number
decreases-loop-number g l = 2 ^ 30 - l.lines.taken
