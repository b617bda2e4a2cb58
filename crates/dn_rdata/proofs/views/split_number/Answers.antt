use Rattle.dn_rdata.proofs.views.split_number.Goals as goal

pub returns-clause-short : goal.returns-clause-short
returns-clause-short c = c.from_be_bytes.type_inv
