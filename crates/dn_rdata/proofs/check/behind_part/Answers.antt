use Rattle.dn_rdata.proofs.check.behind_part.Goals as goal

pub returns-in-Bytes-clause-only : goal.returns-in-Bytes-clause-only
returns-in-Bytes-clause-only c = rw c.in-Bytes.is c.behind_bytes.ensures.only

pub returns-in-OneName-clause-only : goal.returns-in-OneName-clause-only
returns-in-OneName-clause-only c = rw c.in-OneName.is c.behind_name.ensures.only

pub returns-in-OneText-clause-only : goal.returns-in-OneText-clause-only
returns-in-OneText-clause-only c = rw c.in-OneText.is c.behind_text.ensures.only

pub returns-in-Texts-clause-only : goal.returns-in-Texts-clause-only
returns-in-Texts-clause-only c = rw c.in-Texts.is c.behind_texts.ensures.only
