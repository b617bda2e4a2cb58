use Rattle.std.proofs.Common.{arith, refl, rules}
use Rattle.dn_name.specs.Name.{wire_of}
use Rattle.dn_rdata.specs.Stored.{wires_of}
use Rattle.dn_record.proofs.NameLemmas.{no_first, no_other}
use Rattle.dn_record.proofs.names.plain_names.Goals as goal

pub returns-in-None-clause-none : goal.returns-in-None-clause-none
returns-in-None-clause-none c = no_first wire_of wires_of (λ name names. refl) refl c.args.count c.args.bytes.now c.requires.0 c.in-None.ensures.only

pub returns-in-None-plain_name-clause-none : goal.returns-in-None-plain_name-clause-none
returns-in-None-plain_name-clause-none c =
    no_other wire_of wires_of (λ name names. refl) refl c.args.count c.args.bytes.now c.in-Some.first c.in-Some.rest.now _ (omega (arith, c.requires.0, c.if-count-eq1.false)) c.in-None-plain_name.ensures.only c.in-Some.ensures.only
    (search rules)
