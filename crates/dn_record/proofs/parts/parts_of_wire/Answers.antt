use Rattle.std.proofs.Common.{◌≤◌, ◌∷◌, ◌∙◌, arith, rules}
use Rattle.dn_rdata.specs.Record.{names_in}
use Rattle.dn_record.specs.Names.{name_or_none}
use Rattle.dn_record.proofs.PartLemmas.{cut, wire_as, wire_found, wire_more, wire_names}
use Rattle.dn_record.proofs.parts.parts_of_wire.Goals as goal

pub returns-then-behind-end-clause-none : goal.returns-then-behind-end-clause-none
returns-then-behind-end-clause-none c =
    let some : 1 ≤ names_in c.args.rtype = omega (arith, c.if-count-eq0.false, c.names_in-count.ensures) in
    let front = c.in_ok-before.ensures.cases in
    wire_more c.args.rtype some c.args.rdata.now c.in_ok-before.before.now c.in_ok-before.rest.now (front.3 ∙ c.bytes_before_names.ensures) (cut _ _ _ _ front.1 front.2)
    c.names_in-count.result c.names_in-count.ensures
    (c.in-Some.first ∷ name_or_none c.in-Some.second) c.in-Some.behind.now c.in-Some.ensures.found (search rules)

pub returns-else-behind-end-clause-found : goal.returns-else-behind-end-clause-found
returns-else-behind-end-clause-found c =
    let some : 1 ≤ names_in c.args.rtype = omega (arith, c.if-count-eq0.false, c.names_in-count.ensures) in
    let front = c.in_ok-before.ensures.cases in
    wire_as c.args.rtype c.args.rdata.now c.with_names.result c.in_ok-before.before.now c.in-Some.behind.now c.in-Some.first c.in-Some.second
    (search rules) (search rules) (search rules) (search rules)
    (wire_found c.args.rtype some c.args.rdata.now c.in_ok-before.before.now c.in_ok-before.rest.now (front.3 ∙ c.bytes_before_names.ensures) (cut _ _ _ _ front.1 front.2)
    c.names_in-count.result c.names_in-count.ensures
    (c.in-Some.first ∷ name_or_none c.in-Some.second) c.in-Some.behind.now c.in-Some.ensures.found (search rules))

pub returns-in-None-clause-none : goal.returns-in-None-clause-none
returns-in-None-clause-none c =
    let some : 1 ≤ names_in c.args.rtype = omega (arith, c.if-count-eq0.false, c.names_in-count.ensures) in
    let front = c.in_ok-before.ensures.cases in
    wire_names c.args.rtype some c.args.rdata.now c.in_ok-before.before.now c.in_ok-before.rest.now (front.3 ∙ c.bytes_before_names.ensures) (cut _ _ _ _ front.1 front.2)
    c.names_in-count.result c.names_in-count.ensures
    c.in-None.ensures.none
