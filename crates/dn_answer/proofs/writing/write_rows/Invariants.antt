use Rattle.dn_answer.proofs.WrittenLemmas.{Goes}
use Rattle.dn_answer.proofs.writing.write_rows.Given as goal

abbrev pub invariant-loop-row : goal.invariant-loop-row
invariant-loop-row l = Goes l.fn.writer l.section l.rows l.row-index l.writer
