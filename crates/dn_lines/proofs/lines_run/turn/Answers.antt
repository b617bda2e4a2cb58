use Rattle.std.proofs.Common.{◌+◌}
use Rattle.std.proofs.lemmas.Result.{err_from_is_err_and}
use Rattle.dn_lines.specs.Said.Turns.{EndedAhead}
use Rattle.dn_lines.proofs.LineTurns.{turn_done, turn_ends, turn_fails, turn_stops}
use Rattle.dn_lines.proofs.lines_run.turn.Goals as goal

pub returns-in_err-run_text-in-Ok-Text-clause-turns : goal.returns-in_err-run_text-in-Ok-Text-clause-turns
returns-in_err-run_text-in-Ok-Text-clause-turns g c =
    let p = err_from_is_err_and c.from_residual.result c.from_residual.ensures.1 in
    rw (p.1, p.2)
    (turn_stops g.C.LineCommand.gives c.args.command.now c.args.number c.args.lines.now c.read_line.new.buf (g.S.Source.left c.args.source.now) (g.S.Source.left c.read_line.new.source)
    (g.K.Sink.written c.args.sink.now) (g.K.Sink.written c.run_text.new.sink) c.in-Ok-Text.text c.in_err-run_text-in-Ok-Text.field-0.0
    (EndedAhead g.C.LineCommand.gives c.run_text.new.command (c.args.number + 1) c.read_line.new.buf)
    (rw c.in-Ok-Text.field-0-is at (c.in-Ok-Text.ensures.line c.requires.kept))
    (rw c.as_slice.ensures at c.in_err-run_text-in-Ok-Text.ensures.runs))

pub returns-in_ok-run_text-in-Ok-Text-clause-turns : goal.returns-in_ok-run_text-in-Ok-Text-clause-turns
returns-in_ok-run_text-in-Ok-Text-clause-turns g c =
    turn_done g.C.LineCommand.gives c.args.command.now c.args.number c.args.lines.now c.read_line.new.buf (g.S.Source.left c.args.source.now) (g.S.Source.left c.read_line.new.source)
    (g.K.Sink.written c.args.sink.now) (g.K.Sink.written c.run_text.new.sink) c.run_text.new.command c.in-Ok-Text.text
    (rw c.in-Ok-Text.field-0-is at (c.in-Ok-Text.ensures.line c.requires.kept))
    (rw c.as_slice.ensures at c.in_ok-run_text-in-Ok-Text.ensures.runs)

pub returns-in-Ok-End-clause-turns : goal.returns-in-Ok-End-clause-turns
returns-in-Ok-End-clause-turns g c =
    turn_ends g.C.LineCommand.gives c.args.command.now c.args.number c.args.lines.now c.read_line.new.buf (g.S.Source.left c.args.source.now) (g.S.Source.left c.read_line.new.source)
    (g.K.Sink.written c.args.sink.now) (EndedAhead g.C.LineCommand.gives c.args.command.now (c.args.number + 1) c.read_line.new.buf)
    (rw c.in-Ok-End.field-0-is at (c.in-Ok-End.ensures.line c.requires.kept))

pub returns-in-Err-clause-turns : goal.returns-in-Err-clause-turns
returns-in-Err-clause-turns g c =
    rw c.status_of.ensures
    (turn_fails g.C.LineCommand.gives c.args.command.now c.args.number c.args.lines.now c.read_line.new.buf (g.S.Source.left c.args.source.now) (g.S.Source.left c.read_line.new.source)
    (g.K.Sink.written c.args.sink.now) c.in-Err.error (EndedAhead g.C.LineCommand.gives c.args.command.now (c.args.number + 1) c.read_line.new.buf)
    (c.in-Err.ensures.line c.requires.kept))
