use Rattle.dn_io.specs.declared.status.Status.TheVariants.{Done}
use Rattle.dn_lines.specs.Said.Turns.{EndedAhead}
use Rattle.dn_lines.proofs.LineTurns.{turns_end}
use Rattle.dn_lines.proofs.lines_run.all_lines.Goals as goal

pub returns-clause-ended : goal.returns-clause-ended
returns-clause-ended g c =
    turns_end (g.S.Source.left c.args.source.now) (g.S.Source.left c.loop-number.source) (g.S.Source.left c.turn.new.source)
    (g.K.Sink.written c.args.sink.now) (g.K.Sink.written c.loop-number.sink) (g.K.Sink.written c.turn.new.sink) Done
    (EndedAhead g.C.LineCommand.gives c.args.command.now 1 c.args.lines.now) (EndedAhead g.C.LineCommand.gives c.loop-number.command c.loop-number.number c.loop-number.lines)
    c.loop-number.invariant.ended (rw c.if-branch.false at c.in_ok-turn.ensures.turns)
