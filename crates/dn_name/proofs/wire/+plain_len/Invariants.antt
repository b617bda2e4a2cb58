use Rattle.dn_name.proofs.wire.+plain_len.Given as goal

abbrev pub decreases-plain_len : goal.decreases-plain_len
decreases-plain_len l = l.most
