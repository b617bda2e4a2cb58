use Rattle.std.proofs.Common.{◌≤◌, ◌∷◌, ◌∙◌, arith, rules}
use Rattle.dn_rdata.specs.Record.{names_in}
use Rattle.dn_record.specs.Names.{name_or_none}
use Rattle.dn_record.proofs.PartLemmas.{cut, stored_as, stored_found, stored_more, stored_names}
use Rattle.dn_record.proofs.parts.parts_of_stored.Goals as goal

pub returns-then-not-is_empty-clause-none : goal.returns-then-not-is_empty-clause-none
returns-then-not-is_empty-clause-none c =
    let some : 1 ≤ names_in c.args.rtype = omega (arith, c.if-count-eq0.false, c.names_in-count.ensures) in
    let front = c.in_ok-before.ensures.cases in
    let back = c.in_ok-behind.ensures.cases in
    stored_more c.args.rtype some c.args.stored.now c.in_ok-before.before.now c.in_ok-before.rest.now (front.3 ∙ c.bytes_before_names.ensures) (cut _ _ _ _ front.1 front.2)
    c.in_ok-behind.behind.now c.in_ok-behind.names.now (back.3 ∙ c.bytes_behind_names.ensures) (cut _ _ _ _ back.1 back.2) c.names_in-count.result c.names_in-count.ensures
    (c.in-Some.first ∷ name_or_none c.in-Some.second) c.in-Some.rest.now c.in-Some.ensures.found (search rules)

pub returns-else-not-is_empty-clause-found : goal.returns-else-not-is_empty-clause-found
returns-else-not-is_empty-clause-found c =
    let some : 1 ≤ names_in c.args.rtype = omega (arith, c.if-count-eq0.false, c.names_in-count.ensures) in
    let front = c.in_ok-before.ensures.cases in
    let back = c.in_ok-behind.ensures.cases in
    stored_as c.args.rtype c.args.stored.now c.with_names.result c.in_ok-before.before.now c.in_ok-behind.behind.now c.in-Some.first c.in-Some.second
    (search rules) (search rules) (search rules) (search rules)
    (stored_found c.args.rtype some c.args.stored.now c.in_ok-before.before.now c.in_ok-before.rest.now (front.3 ∙ c.bytes_before_names.ensures) (cut _ _ _ _ front.1 front.2)
    c.in_ok-behind.behind.now c.in_ok-behind.names.now (back.3 ∙ c.bytes_behind_names.ensures) (cut _ _ _ _ back.1 back.2) c.names_in-count.result c.names_in-count.ensures
    (c.in-Some.first ∷ name_or_none c.in-Some.second) c.in-Some.rest.now c.in-Some.ensures.found (search rules))

pub returns-in-None-clause-none : goal.returns-in-None-clause-none
returns-in-None-clause-none c =
    let some : 1 ≤ names_in c.args.rtype = omega (arith, c.if-count-eq0.false, c.names_in-count.ensures) in
    let front = c.in_ok-before.ensures.cases in
    let back = c.in_ok-behind.ensures.cases in
    stored_names c.args.rtype some c.args.stored.now c.in_ok-before.before.now c.in_ok-before.rest.now (front.3 ∙ c.bytes_before_names.ensures) (cut _ _ _ _ front.1 front.2)
    c.in_ok-behind.behind.now c.in_ok-behind.names.now (back.3 ∙ c.bytes_behind_names.ensures) (cut _ _ _ _ back.1 back.2) c.names_in-count.result c.names_in-count.ensures
    c.in-None.ensures.none
