use Rattle.dn_message.proofs.WritingLemmas.{written_is, written_kind}
use Rattle.dn_message.proofs.writing.write_query.Goals as goal

pub returns-clause-read_back : goal.returns-clause-read_back
returns-clause-read_back c =
    written_is c.args.query.now _ c.put_query.ensures.appends.front c.query_len.ensures.named c.requires c.put_query.ensures.small

pub returns-clause-kind : goal.returns-clause-kind
returns-clause-kind c = written_kind c.args.query.now _ c.put_query.ensures.appends.front
