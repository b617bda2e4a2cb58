use Rattle.std.proofs.Common.{sym}
use Rattle.dn_message.proofs.rdata.add_part.Goals as goal

pub returns-in-Bytes-clause-grows : goal.returns-in-Bytes-clause-grows
returns-in-Bytes-clause-grows c = rw (c.in-Bytes.is, sym c.from.ensures) (c.add_bytes.ensures.grows c.args.end)

pub returns-in-OneName-clause-grows : goal.returns-in-OneName-clause-grows
returns-in-OneName-clause-grows c = rw c.in-OneName.is (c.add_name.ensures.grows c.args.end)

pub returns-in-OneText-clause-grows : goal.returns-in-OneText-clause-grows
returns-in-OneText-clause-grows c = rw c.in-OneText.is (c.add_text.ensures.grows c.args.end)

pub returns-in-Texts-clause-grows : goal.returns-in-Texts-clause-grows
returns-in-Texts-clause-grows c = rw c.in-Texts.is c.add_texts.ensures.grows

pub returns-in-Rest-clause-grows : goal.returns-in-Rest-clause-grows
returns-in-Rest-clause-grows c = rw c.in-Rest.is c.add_rest.ensures.grows
