use Rattle.std.proofs.Common.{refl}
use Rattle.dn_message.proofs.WriterLemmas.{begins}
use Rattle.dn_message.proofs.writer.ReplyWriter.begin.Goals as goal

pub returns-clause-holds : goal.returns-clause-holds
returns-clause-holds c = begins _ c.args.head refl refl refl c.requires
