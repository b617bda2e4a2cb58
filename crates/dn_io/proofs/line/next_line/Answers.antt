use Rattle.std.proofs.lemmas.Result.{err_from_is_err_and}
use Rattle.dn_io.proofs.LineReaderLemmas.{reads-error}
use Rattle.dn_io.proofs.line.next_line.Goals as goal

pub returns-in_err-text-clause-line : goal.returns-in_err-text-clause-line
returns-in_err-text-clause-line g c =
    let p = err_from_is_err_and c.from_residual.result c.from_residual.ensures.1 in
    rw (p.1, p.2) (reads-error c.args.held.now.items c.loop-text.held.items c.take_line.new.held.items c.args.taken.now c.loop-text.taken
    c.take_line.new.taken c.in_err-text.field-0.0 (g.S.Source.left c.args.source.now) (g.S.Source.left c.loop-text.source)
    c.loop-text.invariant.fills c.loop-text.invariant.taken c.in_err-text.ensures.takes)
