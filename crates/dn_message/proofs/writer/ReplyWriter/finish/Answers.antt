use Rattle.std.proofs.Common.{ap, length}
use Rattle.dn_message.proofs.WriterLemmas.{finished, finished_bytes, rest_kept}
use Rattle.dn_message.proofs.writer.ReplyWriter.finish.Goals as goal

pub returns-clause-reads : goal.returns-clause-reads
returns-clause-reads c = λ reply holds. finished c.args.self reply holds c.bytes_of_header.result c.put.new.out c.put.result c.bytes_of_header.ensures c.put.ensures.appends

pub returns-clause-rest : goal.returns-clause-rest
returns-clause-rest c = λ before keeps. rest_kept c.args.self before c.bytes_of_header.result c.put.new.out c.put.result (ap length c.bytes_of_header.ensures) c.put.ensures.appends keeps

pub returns-clause-bytes : goal.returns-clause-bytes
returns-clause-bytes c = λ reply holds. finished_bytes c.args.self reply holds c.bytes_of_header.result c.put.new.out c.put.result c.bytes_of_header.ensures c.put.ensures.appends
